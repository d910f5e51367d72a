-- Reading tokens from left to right, with the fault that comes first by place.
use Rattle.std.specs.Prelude.{◌≡◌, ◌≢◌, ◌<◌, ℕ, zero, suc, ℤ, pos, negsuc, List, [], ◌∷◌, length, Option, Some, None, Result, Ok, Err, Bool, true, false, ◌==◌, nat_lt, if◌then◌else◌}
use Rattle.core_tokens.specs.declared.fault.ReadFault.{ReadFault}
use Rattle.core_tokens.specs.declared.fault.ReadFault.TheVariants.{Expected, UnsupportedCall, TooDeep, UnsupportedForm, Memory}
use Rattle.core_tokens.specs.declared.token.Keyword.{Keyword}
use Rattle.core_tokens.specs.declared.token.Keyword.TheVariants as k
use Rattle.core_tokens.specs.declared.token.Mark.{Mark}
use Rattle.core_tokens.specs.declared.token.Mark.TheVariants as m
use Rattle.core_grammar.specs.declared.subject.Subject.{Subject}
use Rattle.core_grammar.specs.declared.subject.Subject.TheVariants as subjects
use Rattle.core_tokens.specs.Piece.{Piece, Shape}
use Rattle.core_tokens.specs.Piece as lexemes
use Rattle.core_tree.specs.Syntax.{Mention, NamedAt, Pattern, patterns_of, Constant, constants_of}
use Rattle.core_tree.specs.Pattern as patterns
use Rattle.core_tree.specs.Constant as constants
use Rattle.core_scopes.specs.Outcomes.{◌>>=◌}
use Rattle.core_grammar.specs.Beginnings.{Beginning, OfValue, OfAtom, OfAnnotation, OfVariable, beginning}
use Rattle.core_grammar.specs.declared.unserved.Unserved.{Unserved}
use Rattle.core_grammar.specs.declared.unserved.Unserved.TheVariants as unserved

-- the place of what was read whole and is not served
abbrev pub place_of_unserved : Unserved → ℕ
place_of_unserved (unserved.Call at) = at
place_of_unserved (unserved.Primop at) = at

abbrev pub fault_of_unserved : Unserved → ReadFault
fault_of_unserved (unserved.Call at) = UnsupportedCall at
fault_of_unserved (unserved.Primop at) = UnsupportedForm at

-- what is left to read: the tokens, what was read whole and is not served with the least place, and the text's length
pub record State : Type 0 where
  pub pieces : List Piece
  pub refused : Option Unserved
  pub stop : ℕ

abbrev pub Read : Type 0 → Type 0
Read X = Result (X × State) ReadFault

-- what a function returned, seen by view, and what it left, are what reading gives, unless memory ran out
abbrev pub MovesUnlessMemory : {X Y : Type 0} → (X → Y) → Result X ReadFault → State → Read Y → Type 0
MovesUnlessMemory view (Ok x) after read = read ≡ Ok (view x, after)
MovesUnlessMemory view (Err e) after read = e ≢ Memory → read ≡ Err e

-- the same of a function that only goes on
abbrev pub PassesUnlessMemory : Result (Unit {0}) ReadFault → State → Result State ReadFault → Type 0
PassesUnlessMemory (Ok x) after read = read ≡ Ok after
PassesUnlessMemory (Err e) after read = e ≢ Memory → read ≡ Err e

-- what a function built, seen by view, is this, unless memory ran out
abbrev pub BuildsUnlessMemory : {X Y : Type 0} → (X → Y) → Result X ReadFault → Y → Type 0
BuildsUnlessMemory view (Ok x) y = view x ≡ y
BuildsUnlessMemory view (Err e) y = e ≡ Memory

abbrev pub with_pieces : State → List Piece → State
with_pieces s ps = record { pieces = ps; refused = s.refused; stop = s.stop }

-- ---- marks and keywords, by number

abbrev pub mark_number : Mark → ℕ
mark_number m.LeftParenthesis = 0
mark_number m.RightParenthesis = 1
mark_number m.LeftBracket = 2
mark_number m.RightBracket = 3
mark_number m.LeftBrace = 4
mark_number m.RightBrace = 5
mark_number m.Less = 6
mark_number m.Greater = 7
mark_number m.Comma = 8
mark_number m.Bar = 9
mark_number m.Equals = 10
mark_number m.Slash = 11
mark_number m.Colon = 12
mark_number m.Arrow = 13
mark_number m.Note = 14
mark_number m.Hash = 15
mark_number m.Tilde = 16

abbrev pub word_number : Keyword → ℕ
word_number k.Module = 0
word_number k.Attributes = 1
word_number k.End = 2
word_number k.Fun = 3
word_number k.Let = 4
word_number k.In = 5
word_number k.Case = 6
word_number k.Of = 7
word_number k.When = 8
word_number k.Apply = 9
word_number k.Call = 10
word_number k.Primop = 11
word_number k.Do = 12
word_number k.Try = 13
word_number k.Catch = 14
word_number k.Receive = 15
word_number k.After = 16
word_number k.Letrec = 17

-- the keyword that follows clauses
abbrev pub word_behind : Subject → Keyword
word_behind subjects.Values = k.End
word_behind subjects.Message = k.After

abbrev pub is_mark : Mark → Shape → Bool
is_mark x (lexemes.Mark y) = mark_number y == mark_number x
is_mark x shape = false

abbrev pub is_word : Keyword → Shape → Bool
is_word x (lexemes.Word y) = word_number y == word_number x
is_word x shape = false

-- what follows the mark, if the mark comes next
abbrev pub after_mark : Mark → List Piece → Option (List Piece)
after_mark x [] = None
after_mark x (p ∷ ps) = if is_mark x p.shape then Some ps else None

abbrev pub after_word : Keyword → List Piece → Option (List Piece)
after_word x [] = None
after_word x (p ∷ ps) = if is_word x p.shape then Some ps else None

-- ---- faults

-- the fault, unless something that was read whole is not served: that one has a lesser place
abbrev pub refusal : Option Unserved → ReadFault → ReadFault
refusal None f = f
refusal (Some u) f = fault_of_unserved u

-- what no form takes: `#`, `~` and floats
abbrev pub is_foreign : Shape → Bool
is_foreign lexemes.Float = true
is_foreign (lexemes.Mark m.Hash) = true
is_foreign (lexemes.Mark m.Tilde) = true
is_foreign shape = false

-- the fault at a token that cannot be here
abbrev pub fault_of : ℕ → List Piece → ReadFault
fault_of stop [] = Expected stop
fault_of stop (p ∷ ps) = if is_foreign p.shape then UnsupportedForm p.at else Expected p.at

unfoldable pub fault : State → ReadFault
fault s = refusal s.refused (fault_of s.stop s.pieces)

-- the place of the next token, or the text's length
abbrev pub place_of : ℕ → List Piece → ℕ
place_of stop [] = stop
place_of stop (p ∷ ps) = p.at

-- the fault at a token that opens a level past the last
unfoldable pub too_deep : State → ReadFault
too_deep s = refusal s.refused (TooDeep (place_of s.stop s.pieces))

-- ---- what a step over a token is

-- whether a token was stepped over that may follow
abbrev pub Skips : Bool → Option (List Piece) → State → State → Type 0
Skips true behind old new = (behind ≡ Some new.pieces) × (new ≡ with_pieces old new.pieces)
Skips false behind old new = (behind ≡ None) × (new ≡ old)

-- whether the parenthesis of an annotation was stepped over, which takes one of so many levels
abbrev pub Opens : ℕ → Result Bool ReadFault → State → State → Type 0
Opens levels (Ok true) old new = (0 < levels) × Skips true (after_mark m.LeftParenthesis old.pieces) old new
Opens levels (Ok false) old new = Skips false (after_mark m.LeftParenthesis old.pieces) old new
Opens levels (Err e) old new = (levels ≡ 0) × (after_mark m.LeftParenthesis old.pieces ≡ Some new.pieces) × (e ≡ too_deep old)

-- ---- one token

abbrev pub passed : Option (List Piece) → State → ReadFault → Result State ReadFault
passed None s f = Err f
passed (Some ps) s f = Ok (with_pieces s ps)

unfoldable pub mark_at : Mark → State → Result State ReadFault
mark_at x s = passed (after_mark x s.pieces) s (fault s)

unfoldable pub word_at : Keyword → State → Result State ReadFault
word_at x s = passed (after_word x s.pieces) s (fault s)

abbrev pub taken_by : {X : Type 0} → Option X → List Piece → State → ReadFault → Read X
taken_by None ps s f = Err f
taken_by (Some x) ps s f = Ok (x, with_pieces s ps)

abbrev pub taken : {X : Type 0} → (Piece → Option X) → List Piece → State → ReadFault → Read X
taken of [] s f = Err f
taken of (p ∷ ps) s f = taken_by (of p) ps s f

abbrev pub atom_in : Shape → Option (List ℕ)
atom_in (lexemes.Atom t) = Some t
atom_in shape = None

unfoldable pub atom_at : State → Read (List ℕ)
atom_at s = taken (λ p. atom_in p.shape) s.pieces s (fault s)

abbrev pub named_by : ℕ → Shape → Option (ℕ × List ℕ)
named_by at (lexemes.Atom t) = Some (at, t)
named_by at shape = None

-- the atom of a function's name, with its place
unfoldable pub placed_atom_at : State → Read (ℕ × List ℕ)
placed_atom_at s = taken (λ p. named_by p.at p.shape) s.pieces s (fault s)

abbrev pub arity_by : ℤ → Option ℕ
arity_by (pos n) = if nat_lt n 256 then Some n else None
arity_by (negsuc n) = None

abbrev pub arity_in : Shape → Option ℕ
arity_in (lexemes.Integer n) = arity_by n
arity_in shape = None

unfoldable pub arity_at : State → Read ℕ
arity_at s = taken (λ p. arity_in p.shape) s.pieces s (fault s)

abbrev pub mention_by : ℕ → Shape → Option Mention
mention_by at (lexemes.Variable v) = Some (record { at = at; name = v })
mention_by at shape = None

unfoldable pub bare_variable_at : State → Read Mention
bare_variable_at s = taken (λ p. mention_by p.at p.shape) s.pieces s (fault s)

-- what follows a function's atom
unfoldable pub behind_atom_at : ℕ → List ℕ → State → Read NamedAt
behind_atom_at at t s = do
  s1 ← mark_at m.Slash s
  n ← arity_at s1
  Ok (record { at = at; function = record { name = t; arity = n.0 } }, n.1)

unfoldable pub bare_name_at : State → Read NamedAt
bare_name_at s = do
  a ← placed_atom_at s
  behind_atom_at a.0.0 a.0.1 a.1

-- a comma, but before the first
abbrev pub comma_at : Bool → State → Result State ReadFault
comma_at true s = Ok s
comma_at false s = mark_at m.Comma s

-- ---- lists

module _ {X : Type 0} (item : State → Read X) where
  abbrev pub more_at : (State → Read (List X)) → Option (List Piece) → State → Read (List X)
  more_at more None s = Ok ([], s)
  more_at more (Some ps) s = more (with_pieces s ps)

  -- at most so many items, with commas between them
  unfoldable pub commas_at : ℕ → State → Read (List X)
  commas_at zero s = Err (fault s)
  commas_at (suc n) s = do
    first ← item s
    others ← more_at (commas_at n) (after_mark m.Comma first.1.pieces) first.1
    Ok (first.0 ∷ others.0, others.1)

  -- items with commas between them
  unfoldable pub items_at : State → Read (List X)
  items_at s = commas_at (length s.pieces) s

  abbrev pub closed_by : Mark → Option (List Piece) → State → Read (List X)
  closed_by close (Some ps) s = Ok ([], with_pieces s ps)
  closed_by close None s = do
    xs ← items_at s
    s1 ← mark_at close xs.1
    Ok (xs.0, s1)

  -- any number of items, and the closing mark
  unfoldable pub closed_at : Mark → State → Read (List X)
  closed_at close s = closed_by close (after_mark close s.pieces) s

  abbrev pub tail_at : List X → Option (List Piece) → State → Read (List X × Option X)
  tail_at xs None s = do
    s1 ← mark_at m.RightBracket s
    Ok ((xs, None), s1)
  tail_at xs (Some ps) s = do
    x ← item (with_pieces s ps)
    s1 ← mark_at m.RightBracket x.1
    Ok ((xs, Some x.0), s1)

  abbrev pub brackets_by : Option (List Piece) → State → Read (List X × Option X)
  brackets_by (Some ps) s = Ok (([], None), with_pieces s ps)
  brackets_by None s = do
    xs ← items_at s
    tail_at xs.0 (after_mark m.Bar xs.1.pieces) xs.1

  -- what follows the bracket of a list
  unfoldable pub brackets_at : State → Read (List X × Option X)
  brackets_at s = brackets_by (after_mark m.RightBracket s.pieces) s

  -- a comma, but before the first
  abbrev pub item_of : Bool → State → Read X
  item_of first s = do
    s1 ← comma_at first s
    item s1

  -- exactly so many items, with commas between them
  unfoldable pub exactly_at : Bool → ℕ → State → Read (List X)
  exactly_at first zero s = Ok ([], s)
  exactly_at first (suc n) s = do
    x ← item_of first s
    xs ← exactly_at false n x.1
    Ok (x.0 ∷ xs.0, xs.1)

  abbrev pub row_by : (State → Read (List X)) → Option (List Piece) → State → Read (List X)
  row_by more (Some ps) s = Ok ([], s)
  row_by more None s = do
    x ← item s
    xs ← more x.1
    Ok (x.0 ∷ xs.0, xs.1)

  -- at most so many items one after the other, as far as this keyword
  unfoldable pub row_at : Keyword → ℕ → State → Read (List X)
  row_at close zero s = Err (fault s)
  row_at close (suc n) s = row_by (row_at close n) (after_word close s.pieces) s

  -- items one after the other, as far as this keyword
  unfoldable pub rows_at : Keyword → State → Read (List X)
  rows_at close s = row_at close (length s.pieces) s

-- ---- constants

abbrev pub begins_constant_by : Beginning → Bool
begins_constant_by OfValue = true
begins_constant_by OfAtom = true
begins_constant_by OfAnnotation = true
begins_constant_by b = false

abbrev pub begins_constant : Shape → Bool
begins_constant shape = begins_constant_by (beginning shape)

-- the fault at a token past the last level
abbrev pub deep_constant_of : ℕ → List Piece → ReadFault
deep_constant_of stop [] = Expected stop
deep_constant_of stop (p ∷ ps) = if begins_constant p.shape then TooDeep p.at else (if is_foreign p.shape then UnsupportedForm p.at else Expected p.at)

unfoldable pub deep_constant : State → ReadFault
deep_constant s = refusal s.refused (deep_constant_of s.stop s.pieces)

abbrev pub constant_list : List Constant × Option Constant → Constant
constant_list (cs, None) = constants.List (constants_of cs)
constant_list (cs, Some c) = constants.Onto (constants_of cs) c

module _ (inner : State → Read Constant) where
  -- the end of an annotation: `-| [const, ..] )`
  unfoldable pub note_at : State → Result State ReadFault
  note_at s = do
    s1 ← mark_at m.Note s
    s2 ← mark_at m.LeftBracket s1
    cs ← closed_at inner m.RightBracket s2
    mark_at m.RightParenthesis cs.1

  -- what is in the parentheses of an annotation, and the end of that
  unfoldable pub in_note_at : {X : Type 0} → (State → Read X) → State → Read X
  in_note_at item s = do
    x ← item s
    s1 ← note_at x.1
    Ok (x.0, s1)

  unfoldable pub constant_tuple_at : State → Read Constant
  constant_tuple_at s = do
    cs ← closed_at inner m.RightBrace s
    Ok (constants.Tuple (constants_of cs.0), cs.1)

  unfoldable pub constant_list_at : State → Read Constant
  constant_list_at s = do
    b ← brackets_at inner s
    Ok (constant_list b.0, b.1)

  abbrev pub constant_by : Shape → List Piece → State → Read Constant
  constant_by (lexemes.Integer n) ps s = Ok (constants.Integer n, with_pieces s ps)
  constant_by (lexemes.Character c) ps s = Ok (constants.Character c, with_pieces s ps)
  constant_by (lexemes.Text cs) ps s = Ok (constants.Text cs, with_pieces s ps)
  constant_by (lexemes.Atom t) ps s = Ok (constants.Atom t, with_pieces s ps)
  constant_by (lexemes.Mark m.LeftBrace) ps s = constant_tuple_at (with_pieces s ps)
  constant_by (lexemes.Mark m.LeftBracket) ps s = constant_list_at (with_pieces s ps)
  constant_by (lexemes.Mark m.LeftParenthesis) ps s = in_note_at inner (with_pieces s ps)
  constant_by shape ps s = Err (fault s)

  abbrev pub constant_form_by : List Piece → State → Read Constant
  constant_form_by [] s = Err (fault s)
  constant_form_by (p ∷ ps) s = constant_by p.shape ps s

  unfoldable pub constant_form_at : State → Read Constant
  constant_form_at s = constant_form_by s.pieces s

unfoldable pub constant_at : ℕ → State → Read Constant
constant_at zero s = Err (deep_constant s)
constant_at (suc n) s = constant_form_at (constant_at n) s

-- ---- what opens no level, annotated any number of times: each annotation takes one of so many levels

module _ {X : Type 0} (bare : ℕ → State → Read X) where
  abbrev pub noted_last : Option (List Piece) → State → Read X
  noted_last (Some ps) s = Err (too_deep s)
  noted_last None s = bare 0 s

  abbrev pub noted_by : ℕ → (State → Read X) → Option (List Piece) → State → Read X
  noted_by n deeper (Some ps) s = in_note_at (constant_at n) deeper (with_pieces s ps)
  noted_by n deeper None s = bare (suc n) s

  unfoldable pub noted_at : ℕ → State → Read X
  noted_at zero s = noted_last (after_mark m.LeftParenthesis s.pieces) s
  noted_at (suc n) s = noted_by n (noted_at n) (after_mark m.LeftParenthesis s.pieces) s

-- ---- names

unfoldable pub function_name_at : ℕ → State → Read NamedAt
function_name_at n s = noted_at (λ _. bare_name_at) n s

unfoldable pub variable_at : ℕ → State → Read Mention
variable_at n s = noted_at (λ _. bare_variable_at) n s

abbrev pub bare_variables_by : (State → Read Mention) → Option (List Piece) → State → Read (List Mention)
bare_variables_by item (Some ps) s = closed_at item m.Greater (with_pieces s ps)
bare_variables_by item None s = do
  v ← bare_variable_at s
  Ok (v.0 ∷ [], v.1)

-- a variable, or variables in angles
unfoldable pub bare_variables_at : ℕ → State → Read (List Mention)
bare_variables_at n s = bare_variables_by (variable_at n) (after_mark m.Less s.pieces) s

unfoldable pub variables_at : ℕ → State → Read (List Mention)
variables_at n s = noted_at bare_variables_at n s

abbrev pub third_by : (State → Read Mention) → Mention → Mention → Option (List Piece) → State → Read (List Mention)
third_by item u v None s = do
  s1 ← mark_at m.Greater s
  Ok (u ∷ v ∷ [], s1)
third_by item u v (Some ps) s = do
  w ← item (with_pieces s ps)
  s1 ← mark_at m.Greater w.1
  Ok (u ∷ v ∷ w.0 ∷ [], s1)

-- two or three variables in angles
unfoldable pub bare_caught_at : ℕ → State → Read (List Mention)
bare_caught_at n s = do
  s1 ← mark_at m.Less s
  u ← variable_at n s1
  s2 ← mark_at m.Comma u.1
  v ← variable_at n s2
  third_by (variable_at n) u.0 v.0 (after_mark m.Comma v.1.pieces) v.1

unfoldable pub caught_at : ℕ → State → Read (List Mention)
caught_at n s = noted_at bare_caught_at n s

-- ---- patterns

abbrev pub begins_pattern_by : Beginning → Bool
begins_pattern_by OfVariable = true
begins_pattern_by b = begins_constant_by b

abbrev pub begins_pattern : Shape → Bool
begins_pattern shape = begins_pattern_by (beginning shape)

-- the fault at a token past the last level
abbrev pub deep_pattern_of : ℕ → List Piece → ReadFault
deep_pattern_of stop [] = Expected stop
deep_pattern_of stop (p ∷ ps) = if begins_pattern p.shape then TooDeep p.at else (if is_foreign p.shape then UnsupportedForm p.at else Expected p.at)

unfoldable pub deep_pattern : State → ReadFault
deep_pattern s = refusal s.refused (deep_pattern_of s.stop s.pieces)

abbrev pub pattern_list : List Pattern × Option Pattern → Pattern
pattern_list (qs, None) = patterns.List (patterns_of qs)
pattern_list (qs, Some q) = patterns.Onto (patterns_of qs) q

module _ (inner : State → Read Pattern) (note : State → Read Constant) where
  unfoldable pub pattern_tuple_at : State → Read Pattern
  pattern_tuple_at s = do
    qs ← closed_at inner m.RightBrace s
    Ok (patterns.Tuple (patterns_of qs.0), qs.1)

  unfoldable pub pattern_list_at : State → Read Pattern
  pattern_list_at s = do
    b ← brackets_at inner s
    Ok (pattern_list b.0, b.1)

  abbrev pub pattern_by : ℕ → Shape → List Piece → State → Read Pattern
  pattern_by at (lexemes.Integer n) ps s = Ok (patterns.Integer n, with_pieces s ps)
  pattern_by at (lexemes.Character c) ps s = Ok (patterns.Character c, with_pieces s ps)
  pattern_by at (lexemes.Text cs) ps s = Ok (patterns.Text cs, with_pieces s ps)
  pattern_by at (lexemes.Atom t) ps s = Ok (patterns.Atom t, with_pieces s ps)
  pattern_by at (lexemes.Variable v) ps s = Ok (patterns.Variable (record { at = at; name = v }), with_pieces s ps)
  pattern_by at (lexemes.Mark m.LeftBrace) ps s = pattern_tuple_at (with_pieces s ps)
  pattern_by at (lexemes.Mark m.LeftBracket) ps s = pattern_list_at (with_pieces s ps)
  pattern_by at (lexemes.Mark m.LeftParenthesis) ps s = in_note_at note inner (with_pieces s ps)
  pattern_by at shape ps s = Err (fault s)

  abbrev pub pattern_form_by : List Piece → State → Read Pattern
  pattern_form_by [] s = Err (fault s)
  pattern_form_by (p ∷ ps) s = pattern_by p.at p.shape ps s

  unfoldable pub pattern_form_at : State → Read Pattern
  pattern_form_at s = pattern_form_by s.pieces s

  -- a variable with `=` after it names what the pattern after that matches
  abbrev pub alias_by : Pattern → Option (List Piece) → State → Read Pattern
  alias_by (patterns.Variable v) (Some ps) s = do
    q ← inner (with_pieces s ps)
    Ok (patterns.Alias v q.0, q.1)
  alias_by q o s = Ok (q, s)

  unfoldable pub alias_at : Pattern → State → Read Pattern
  alias_at q s = alias_by q (after_mark m.Equals s.pieces) s

unfoldable pub pattern_at : ℕ → State → Read Pattern
pattern_at zero s = Err (deep_pattern s)
pattern_at (suc n) s = do
  q ← pattern_form_at (pattern_at n) (constant_at n) s
  alias_at (pattern_at n) (constant_at n) q.0 q.1
