-- Which tokens spell which tree (Core Erlang 1.0.3, "Grammar"): by cases on the forms, apart from any order of reading.
-- Item ps x rest says: the front of the tokens ps spells x, and rest is what follows it.
use Rattle.std.specs.Prelude.{◌≡◌, ◌≢◌, ℕ, zero, suc, ◌<◌, ℤ, pos, List, [], ◌∷◌, length, codes}
use Rattle.core_calls.specs.declared.call.CallKind.{CallKind}
use Rattle.core_calls.specs.declared.pure.PureCall.{PureCall}
use Rattle.core_tokens.specs.declared.token.Keyword.{Keyword}
use Rattle.core_tokens.specs.declared.token.Keyword.TheVariants as k
use Rattle.core_tokens.specs.declared.token.Mark.{Mark}
use Rattle.core_tokens.specs.declared.token.Mark.TheVariants as m
use Rattle.core_grammar.specs.declared.subject.Subject.{Subject}
use Rattle.core_grammar.specs.declared.subject.Subject.TheVariants as subjects
use Rattle.core_calls.specs.Calls.{Signature, signature}
use Rattle.core_calls.specs.PureCalls.{pure_signature}
use Rattle.core_tokens.specs.Piece.{Piece, Shape}
use Rattle.core_tokens.specs.Piece as lexemes
use Rattle.core_tree.specs.Syntax.{Mention, NamedAt, Callee, Pattern, patterns_of, Tree, trees_of, ClauseTree, clauses_of, Constant, constants_of, AttributeTree, DefinitionTree, ModuleTree}
use Rattle.core_tree.specs.Callee as callees
use Rattle.core_tree.specs.Pattern as patterns
use Rattle.core_tree.specs.Expression as trees
use Rattle.core_tree.specs.Constant as constants

-- ---- tokens with their places

abbrev pub word : ℕ → Keyword → Piece
word at w = record { at = at; shape = lexemes.Word w }

abbrev pub mark : ℕ → Mark → Piece
mark at x = record { at = at; shape = lexemes.Mark x }

abbrev pub atom : ℕ → List ℕ → Piece
atom at t = record { at = at; shape = lexemes.Atom t }

abbrev pub variable : ℕ → List ℕ → Piece
variable at v = record { at = at; shape = lexemes.Variable v }

abbrev pub integer : ℕ → ℤ → Piece
integer at n = record { at = at; shape = lexemes.Integer n }

abbrev pub character : ℕ → ℕ → Piece
character at c = record { at = at; shape = lexemes.Character c }

abbrev pub text : ℕ → List ℕ → Piece
text at cs = record { at = at; shape = lexemes.Text cs }

-- the levels of construct within construct that a text may have
abbrev pub level_limit : ℕ
level_limit = 1000

-- ---- lists

-- one item or more, with commas between them
pub data Commas {X : Type 0} (Item : List Piece → X → List Piece → Type 0) : List Piece → List X → List Piece → Type 0 where
  spells_one : {ps rest : List Piece} {x : X} → Item ps x rest → Commas Item ps (x ∷ []) rest
  spells_next : {ps more rest : List Piece} {at : ℕ} {x : X} {xs : List X} → Item ps x (mark at m.Comma ∷ more) → Commas Item more xs rest → Commas Item ps (x ∷ xs) rest

-- any number of items, with commas between them, and the closing mark
pub data Enclosed {X : Type 0} (Item : List Piece → X → List Piece → Type 0) (close : Mark) : List Piece → List X → List Piece → Type 0 where
  spells_none : {rest : List Piece} {at : ℕ} → Enclosed Item close (mark at close ∷ rest) [] rest
  spells_some : {ps rest : List Piece} {at : ℕ} {xs : List X} → Commas Item ps xs (mark at close ∷ rest) → Enclosed Item close ps xs rest

-- any number of items, one directly after the other
pub data Row {X : Type 0} (Item : List Piece → X → List Piece → Type 0) : List Piece → List X → List Piece → Type 0 where
  ends_here : {ps : List Piece} → Row Item ps [] ps
  goes_on : {ps more rest : List Piece} {x : X} {xs : List X} → Item ps x more → Row Item more xs rest → Row Item ps (x ∷ xs) rest

-- ---- annotations

-- the end of an annotation: `-| [const, ..] )`
pub data Note (Item : List Piece → Constant → List Piece → Type 0) : List Piece → List Piece → Type 0 where
  is_note : {ps rest : List Piece} {at bt ct : ℕ} {cs : List Constant} → Enclosed Item m.RightBracket ps cs (mark ct m.RightParenthesis ∷ rest) → Note Item (mark at m.Note ∷ mark bt m.LeftBracket ∷ ps) rest

-- what is in the parentheses of an annotation
pub data InNote {X : Type 0} (Inner : List Piece → X → List Piece → Type 0) (Item : List Piece → Constant → List Piece → Type 0) : List Piece → X → List Piece → Type 0 where
  in_note : {ps more rest : List Piece} {at : ℕ} {x : X} → Inner ps x more → Note Item more rest → InNote Inner Item (mark at m.LeftParenthesis ∷ ps) x rest

-- ---- constants

pub data ConstantForm (Inner : List Piece → Constant → List Piece → Type 0) : List Piece → Constant → List Piece → Type 0 where
  is_integer : {rest : List Piece} {at : ℕ} {n : ℤ} → ConstantForm Inner (integer at n ∷ rest) (constants.Integer n) rest
  is_character : {rest : List Piece} {at c : ℕ} → ConstantForm Inner (character at c ∷ rest) (constants.Character c) rest
  is_text : {rest : List Piece} {at : ℕ} {cs : List ℕ} → ConstantForm Inner (text at cs ∷ rest) (constants.Text cs) rest
  is_atom : {rest : List Piece} {at : ℕ} {t : List ℕ} → ConstantForm Inner (atom at t ∷ rest) (constants.Atom t) rest
  is_tuple : {ps rest : List Piece} {at : ℕ} {cs : List Constant} → Enclosed Inner m.RightBrace ps cs rest → ConstantForm Inner (mark at m.LeftBrace ∷ ps) (constants.Tuple (constants_of cs)) rest
  is_list : {ps rest : List Piece} {at : ℕ} {cs : List Constant} → Enclosed Inner m.RightBracket ps cs rest → ConstantForm Inner (mark at m.LeftBracket ∷ ps) (constants.List (constants_of cs)) rest
  is_join : {ps more rest : List Piece} {at bt ct : ℕ} {cs : List Constant} {c : Constant} → Commas Inner ps cs (mark bt m.Bar ∷ more) → Inner more c (mark ct m.RightBracket ∷ rest)
      → ConstantForm Inner (mark at m.LeftBracket ∷ ps) (constants.Onto (constants_of cs) c) rest
  is_noted : {ps rest : List Piece} {c : Constant} → InNote Inner Inner ps c rest → ConstantForm Inner ps c rest

-- a constant of at most so many levels of construct within construct
abbrev pub ConstantIn : ℕ → List Piece → Constant → List Piece → Type 0
ConstantIn zero ps c rest = ⊥
ConstantIn (suc n) ps c rest = ConstantForm (ConstantIn n) ps c rest

-- ---- what opens no level, annotated any number of times: each annotation takes one of so many levels

-- one of two ways
pub data Either {X : Type 0} (Bare Annotated : List Piece → X → List Piece → Type 0) : List Piece → X → List Piece → Type 0 where
  stands_bare : {ps rest : List Piece} {x : X} → Bare ps x rest → Either Bare Annotated ps x rest
  stands_noted : {ps rest : List Piece} {x : X} → Annotated ps x rest → Either Bare Annotated ps x rest

module _ {X : Type 0} (Bare : ℕ → List Piece → X → List Piece → Type 0) where
  -- annotated once or more; what the parentheses hold is one level deeper
  abbrev pub Annotated : ℕ → List Piece → X → List Piece → Type 0
  Annotated zero ps x rest = ⊥
  Annotated (suc n) ps x rest = InNote (Either (Bare n) (Annotated n)) (ConstantIn n) ps x rest

  -- annotated any number of times
  abbrev pub Noted : ℕ → List Piece → X → List Piece → Type 0
  Noted n ps x rest = Either (Bare n) (Annotated n) ps x rest

-- ---- names

-- `Atom / Integer`, 0 to 255
pub data BareName : List Piece → NamedAt → List Piece → Type 0 where
  names_function : {rest : List Piece} {at bt ct : ℕ} {t : List ℕ} {n : ℕ} → n < 256 → BareName (atom at t ∷ mark bt m.Slash ∷ integer ct (pos n) ∷ rest) (record { at = at; function = record { name = t; arity = n } }) rest

-- a function's name
abbrev pub FunctionName : ℕ → List Piece → NamedAt → List Piece → Type 0
FunctionName n ps named rest = Noted (λ _. BareName) n ps named rest

pub data BareAtom : List Piece → List ℕ → List Piece → Type 0 where
  is_the_atom : {rest : List Piece} {at : ℕ} {t : List ℕ} → BareAtom (atom at t ∷ rest) t rest

-- one of the two atoms of a call
abbrev pub AtomIn : ℕ → List Piece → List ℕ → List Piece → Type 0
AtomIn n ps t rest = Noted (λ _. BareAtom) n ps t rest

pub data BareVariable : List Piece → Mention → List Piece → Type 0 where
  names_variable : {rest : List Piece} {at : ℕ} {v : List ℕ} → BareVariable (variable at v ∷ rest) (record { at = at; name = v }) rest

-- a variable that is bound
abbrev pub Variable : ℕ → List Piece → Mention → List Piece → Type 0
Variable n ps v rest = Noted (λ _. BareVariable) n ps v rest

-- a variable, or `<Var, ..>`
pub data BareVariables (Item : List Piece → Mention → List Piece → Type 0) : List Piece → List Mention → List Piece → Type 0 where
  one_variable : {ps rest : List Piece} {v : Mention} → BareVariable ps v rest → BareVariables Item ps (v ∷ []) rest
  variables_in_angles : {ps rest : List Piece} {at : ℕ} {vs : List Mention} → Enclosed Item m.Greater ps vs rest → BareVariables Item (mark at m.Less ∷ ps) vs rest

-- the variables that values are bound to
abbrev pub Variables : ℕ → List Piece → List Mention → List Piece → Type 0
Variables n ps vs rest = Noted (λ l. BareVariables (Variable l)) n ps vs rest

-- `<Var, Var>` or `<Var, Var, Var>`
pub data BareCaught (Item : List Piece → Mention → List Piece → Type 0) : List Piece → List Mention → List Piece → Type 0 where
  catches_two : {ps p1 rest : List Piece} {at bt ct : ℕ} {u v : Mention} → Item ps u (mark bt m.Comma ∷ p1) → Item p1 v (mark ct m.Greater ∷ rest) → BareCaught Item (mark at m.Less ∷ ps) (u ∷ v ∷ []) rest
  catches_three : {ps p1 p2 rest : List Piece} {at bt ct dt : ℕ} {u v w : Mention} → Item ps u (mark bt m.Comma ∷ p1) → Item p1 v (mark ct m.Comma ∷ p2) → Item p2 w (mark dt m.Greater ∷ rest) → BareCaught Item (mark at m.Less ∷ ps) (u ∷ v ∷ w ∷ []) rest

-- the variables of an exception: its class, its reason, and perhaps its trace
abbrev pub CaughtVariables : ℕ → List Piece → List Mention → List Piece → Type 0
CaughtVariables n ps vs rest = Noted (λ l. BareCaught (Variable l)) n ps vs rest

-- ---- patterns

pub data PatternForm (Inner : List Piece → Pattern → List Piece → Type 0) (Item : List Piece → Constant → List Piece → Type 0) : List Piece → Pattern → List Piece → Type 0 where
  matches_integer : {rest : List Piece} {at : ℕ} {n : ℤ} → PatternForm Inner Item (integer at n ∷ rest) (patterns.Integer n) rest
  matches_character : {rest : List Piece} {at c : ℕ} → PatternForm Inner Item (character at c ∷ rest) (patterns.Character c) rest
  matches_text : {rest : List Piece} {at : ℕ} {cs : List ℕ} → PatternForm Inner Item (text at cs ∷ rest) (patterns.Text cs) rest
  matches_atom : {rest : List Piece} {at : ℕ} {t : List ℕ} → PatternForm Inner Item (atom at t ∷ rest) (patterns.Atom t) rest
  matches_any : {rest : List Piece} {at : ℕ} {v : List ℕ} → PatternForm Inner Item (variable at v ∷ rest) (patterns.Variable (record { at = at; name = v })) rest
  matches_tuple : {ps rest : List Piece} {at : ℕ} {qs : List Pattern} → Enclosed Inner m.RightBrace ps qs rest → PatternForm Inner Item (mark at m.LeftBrace ∷ ps) (patterns.Tuple (patterns_of qs)) rest
  matches_list : {ps rest : List Piece} {at : ℕ} {qs : List Pattern} → Enclosed Inner m.RightBracket ps qs rest → PatternForm Inner Item (mark at m.LeftBracket ∷ ps) (patterns.List (patterns_of qs)) rest
  matches_join : {ps more rest : List Piece} {at bt ct : ℕ} {qs : List Pattern} {q : Pattern} → Commas Inner ps qs (mark bt m.Bar ∷ more) → Inner more q (mark ct m.RightBracket ∷ rest)
      → PatternForm Inner Item (mark at m.LeftBracket ∷ ps) (patterns.Onto (patterns_of qs) q) rest
  matches_noted : {ps rest : List Piece} {q : Pattern} → InNote Inner Item ps q rest → PatternForm Inner Item ps q rest

-- no `=` comes next
abbrev pub IsNoEquals : Shape → Type 0
IsNoEquals (lexemes.Mark m.Equals) = ⊥
IsNoEquals shape = Unit {0}

abbrev pub HasNoEquals : List Piece → Type 0
HasNoEquals [] = Unit {0}
HasNoEquals (p ∷ ps) = IsNoEquals p.shape

-- a variable with `=` after it names what a pattern matches: it is not alone
abbrev pub StandsAlone : Pattern → List Piece → Type 0
StandsAlone (patterns.Variable v) rest = HasNoEquals rest
StandsAlone q rest = Unit {0}

-- a pattern, or `Var = pat`, which is at the level of its variable or of the parenthesis before that
pub data PatternOrAlias (Form Inner : List Piece → Pattern → List Piece → Type 0) : List Piece → Pattern → List Piece → Type 0 where
  no_alias : {ps rest : List Piece} {q : Pattern} → Form ps q rest → StandsAlone q rest → PatternOrAlias Form Inner ps q rest
  is_alias : {ps more rest : List Piece} {at : ℕ} {v : Mention} {q : Pattern} → Form ps (patterns.Variable v) (mark at m.Equals ∷ more) → Inner more q rest → PatternOrAlias Form Inner ps (patterns.Alias v q) rest

-- a pattern of at most so many levels of construct within construct
abbrev pub PatternIn : ℕ → List Piece → Pattern → List Piece → Type 0
PatternIn zero ps q rest = ⊥
PatternIn (suc n) ps q rest = PatternOrAlias (PatternForm (PatternIn n) (ConstantIn n)) (PatternIn n) ps q rest

-- a clause of a `case` has any number of patterns, one of a `receive` has one
abbrev pub Fits : Subject → List Pattern → Type 0
Fits subjects.Values qs = Unit {0}
Fits subjects.Message qs = length qs ≡ 1

-- `<pat, ..>`
pub data BareAngles (subject : Subject) (Item : List Piece → Pattern → List Piece → Type 0) : List Piece → List Pattern → List Piece → Type 0 where
  patterns_in_angles : {ps rest : List Piece} {at : ℕ} {qs : List Pattern} → Enclosed Item m.Greater ps qs rest → Fits subject qs → BareAngles subject Item (mark at m.Less ∷ ps) qs rest

abbrev pub Angles : ℕ → Subject → List Piece → List Pattern → List Piece → Type 0
Angles n subject ps qs rest = Noted (λ l. BareAngles subject (PatternIn l)) n ps qs rest

-- the patterns of a clause: one pattern, or patterns in angles
pub data ClausePatterns (One : List Piece → Pattern → List Piece → Type 0) (Many : List Piece → List Pattern → List Piece → Type 0) : List Piece → List Pattern → List Piece → Type 0 where
  one_pattern : {ps rest : List Piece} {q : Pattern} → One ps q rest → ClausePatterns One Many ps (q ∷ []) rest
  many_patterns : {ps rest : List Piece} {qs : List Pattern} → Many ps qs rest → ClausePatterns One Many ps qs rest

abbrev pub PatternsIn : ℕ → Subject → List Piece → List Pattern → List Piece → Type 0
PatternsIn n subject ps qs rest = ClausePatterns (PatternIn n) (Angles n subject) ps qs rest

-- ---- calls

-- no call of the world and none that a process answers by itself has these names and so many arguments
pub record IsUnlisted (called : Signature) : Type 0 where
  pub by_world : (kind : CallKind) → signature kind ≢ called
  pub by_itself : (kind : PureCall) → pure_signature kind ≢ called

-- what a call in the module `own` calls, by its two names and the number of its arguments
pub data Calls (own : List ℕ) : Signature → Callee → Type 0 where
  calls_world : {kind : CallKind} → Calls own (signature kind) (callees.World kind)
  calls_itself : {kind : PureCall} → Calls own (pure_signature kind) (callees.Pure kind)
  calls_export : {function_name : List ℕ} {arity : ℕ} → arity < 256 → IsUnlisted (record { module_name = own; function_name = function_name; arity = arity })
      → Calls own (record { module_name = own; function_name = function_name; arity = arity }) (callees.Exported (record { name = function_name; arity = arity }))

-- the operations of `primop`, by name and number of arguments
pub data Operates : List ℕ → ℕ → Callee → Type 0 where
  fails_match : Operates (codes "match_fail") 1 callees.MatchFail
  raises_again : Operates (codes "raise") 2 callees.Raise

-- ---- expressions

-- no `/` comes next: an atom with one after it begins a function's name
abbrev pub IsNoSlash : Shape → Type 0
IsNoSlash (lexemes.Mark m.Slash) = ⊥
IsNoSlash shape = Unit {0}

abbrev pub HasNoSlash : List Piece → Type 0
HasNoSlash [] = Unit {0}
HasNoSlash (p ∷ ps) = IsNoSlash p.shape

-- `pats when e -> e`
pub data BareClause (Patterns : List Piece → List Pattern → List Piece → Type 0) (Inner : List Piece → Tree → List Piece → Type 0) : List Piece → ClauseTree → List Piece → Type 0 where
  is_clause : {ps p1 p2 rest : List Piece} {at bt : ℕ} {qs : List Pattern} {guard body : Tree} → Patterns ps qs (word at k.When ∷ p1) → Inner p1 guard (mark bt m.Arrow ∷ p2) → Inner p2 body rest
      → BareClause Patterns Inner ps (record { patterns = qs; guard = guard; body = body }) rest

-- the forms of expressions in the module `own`, whose parts have at most n levels
pub data Form (own : List ℕ) (n : ℕ) (Inner : List Piece → Tree → List Piece → Type 0) (Clause : Subject → List Piece → ClauseTree → List Piece → Type 0) : List Piece → Tree → List Piece → Type 0 where
  a_number : {rest : List Piece} {at : ℕ} {i : ℤ} → Form own n Inner Clause (integer at i ∷ rest) (trees.Integer i) rest
  a_character : {rest : List Piece} {at c : ℕ} → Form own n Inner Clause (character at c ∷ rest) (trees.Character c) rest
  a_text : {rest : List Piece} {at : ℕ} {cs : List ℕ} → Form own n Inner Clause (text at cs ∷ rest) (trees.Text cs) rest
  a_name : {rest : List Piece} {at : ℕ} {t : List ℕ} → HasNoSlash rest → Form own n Inner Clause (atom at t ∷ rest) (trees.Atom t) rest
  a_variable : {rest : List Piece} {at : ℕ} {v : List ℕ} → Form own n Inner Clause (variable at v ∷ rest) (trees.Variable (record { at = at; name = v })) rest
  a_tuple : {ps rest : List Piece} {at : ℕ} {ts : List Tree} → Enclosed Inner m.RightBrace ps ts rest → Form own n Inner Clause (mark at m.LeftBrace ∷ ps) (trees.Tuple (trees_of ts)) rest
  a_list : {ps rest : List Piece} {at : ℕ} {ts : List Tree} → Enclosed Inner m.RightBracket ps ts rest → Form own n Inner Clause (mark at m.LeftBracket ∷ ps) (trees.List (trees_of ts)) rest
  a_join : {ps more rest : List Piece} {at bt ct : ℕ} {ts : List Tree} {t : Tree} → Commas Inner ps ts (mark bt m.Bar ∷ more) → Inner more t (mark ct m.RightBracket ∷ rest)
      → Form own n Inner Clause (mark at m.LeftBracket ∷ ps) (trees.Onto (trees_of ts) t) rest
  some_values : {ps rest : List Piece} {at : ℕ} {ts : List Tree} → Enclosed Inner m.Greater ps ts rest → Form own n Inner Clause (mark at m.Less ∷ ps) (trees.Values (trees_of ts)) rest
  a_noted : {ps rest : List Piece} {t : Tree} → InNote Inner (ConstantIn n) ps t rest → Form own n Inner Clause ps t rest
  a_let : {ps p1 p2 rest : List Piece} {at bt ct : ℕ} {vs : List Mention} {t u : Tree} → Variables n ps vs (mark bt m.Equals ∷ p1) → Inner p1 t (word ct k.In ∷ p2) → Inner p2 u rest
      → Form own n Inner Clause (word at k.Let ∷ ps) (trees.Let vs t u) rest
  a_case : {ps p1 p2 rest : List Piece} {at bt ct : ℕ} {t : Tree} {c : ClauseTree} {cs : List ClauseTree} → Inner ps t (word bt k.Of ∷ p1) → Clause subjects.Values p1 c p2 → Row (Clause subjects.Values) p2 cs (word ct k.End ∷ rest)
      → Form own n Inner Clause (word at k.Case ∷ ps) (trees.Case at t (clauses_of (c ∷ cs))) rest
  a_do : {ps more rest : List Piece} {at : ℕ} {t u : Tree} → Inner ps t more → Inner more u rest → Form own n Inner Clause (word at k.Do ∷ ps) (trees.Do t u) rest
  an_apply : {ps p1 rest : List Piece} {at bt : ℕ} {named : NamedAt} {ts : List Tree} → FunctionName n ps named (mark bt m.LeftParenthesis ∷ p1) → Enclosed Inner m.RightParenthesis p1 ts rest → length ts ≡ named.function.arity
      → Form own n Inner Clause (word at k.Apply ∷ ps) (trees.Call at (callees.Defined named) (trees_of ts)) rest
  a_call : {ps p1 p2 rest : List Piece} {at bt ct : ℕ} {module_name function_name : List ℕ} {callee : Callee} {ts : List Tree} → AtomIn n ps module_name (mark bt m.Colon ∷ p1) → AtomIn n p1 function_name (mark ct m.LeftParenthesis ∷ p2) → Enclosed Inner m.RightParenthesis p2 ts rest
      → Calls own (record { module_name = module_name; function_name = function_name; arity = length ts }) callee
      → Form own n Inner Clause (word at k.Call ∷ ps) (trees.Call at callee (trees_of ts)) rest
  a_primop : {ps rest : List Piece} {at bt ct : ℕ} {t : List ℕ} {callee : Callee} {ts : List Tree} → Enclosed Inner m.RightParenthesis ps ts rest → Operates t (length ts) callee
      → Form own n Inner Clause (word at k.Primop ∷ atom bt t ∷ mark ct m.LeftParenthesis ∷ ps) (trees.Call at callee (trees_of ts)) rest
  a_try : {ps p1 p2 p3 p4 rest : List Piece} {at bt ct dt et : ℕ} {vs ws : List Mention} {t u h : Tree} → Inner ps t (word bt k.Of ∷ p1) → Variables n p1 vs (mark ct m.Arrow ∷ p2) → Inner p2 u (word dt k.Catch ∷ p3) → CaughtVariables n p3 ws (mark et m.Arrow ∷ p4) → Inner p4 h rest
      → Form own n Inner Clause (word at k.Try ∷ ps) (trees.Try at t vs u ws h) rest
  a_catch : {ps rest : List Piece} {at : ℕ} {t : Tree} → Inner ps t rest → Form own n Inner Clause (word at k.Catch ∷ ps) (trees.Catch at t) rest
  a_receive : {ps p1 p2 rest : List Piece} {at bt ct : ℕ} {cs : List ClauseTree} {t u : Tree} → Row (Clause subjects.Message) ps cs (word bt k.After ∷ p1) → Inner p1 t (mark ct m.Arrow ∷ p2) → Inner p2 u rest
      → Form own n Inner Clause (word at k.Receive ∷ ps) (trees.Receive at (clauses_of cs) t u) rest

module _ (own : List ℕ) where
  abbrev mutual
    -- an expression of at most so many levels of construct within construct
    pub Expression : ℕ → List Piece → Tree → List Piece → Type 0
    Expression zero ps t rest = ⊥
    Expression (suc n) ps t rest = Form own n (Expression n) (λ subject. Either (BareClause (PatternsIn n subject) (Expression n)) (AnnotatedClause n subject)) ps t rest

    -- a clause of a `case` or of a `receive` that is annotated once or more
    pub AnnotatedClause : ℕ → Subject → List Piece → ClauseTree → List Piece → Type 0
    AnnotatedClause zero subject ps c rest = ⊥
    AnnotatedClause (suc n) subject ps c rest = InNote (Either (BareClause (PatternsIn n subject) (Expression n)) (AnnotatedClause n subject)) (ConstantIn n) ps c rest

  -- a clause of a `case` or of a `receive`, with parts of at most so many levels
  abbrev pub Clause : ℕ → Subject → List Piece → ClauseTree → List Piece → Type 0
  Clause n subject ps c rest = Either (BareClause (PatternsIn n subject) (Expression n)) (AnnotatedClause n subject) ps c rest

-- ---- modules

-- `Atom = const`
pub data Attribute (Item : List Piece → Constant → List Piece → Type 0) : List Piece → AttributeTree → List Piece → Type 0 where
  an_attribute : {ps rest : List Piece} {at bt : ℕ} {t : List ℕ} {c : Constant} → Item ps c rest → Attribute Item (atom at t ∷ mark bt m.Equals ∷ ps) (record { name = t; value = c }) rest

-- `fun (Var, ..) -> expr`
pub data BareFun (Item : List Piece → Mention → List Piece → Type 0) (Body : List Piece → Tree → List Piece → Type 0) : List Piece → List Mention × Tree → List Piece → Type 0 where
  is_fun : {ps p1 rest : List Piece} {at bt ct : ℕ} {vs : List Mention} {body : Tree} → Enclosed Item m.RightParenthesis ps vs (mark ct m.Arrow ∷ p1) → Body p1 body rest
      → BareFun Item Body (word at k.Fun ∷ mark bt m.LeftParenthesis ∷ ps) (vs, body) rest

module _ (own : List ℕ) where
  abbrev pub Fun : ℕ → List Piece → List Mention × Tree → List Piece → Type 0
  Fun n ps f rest = Noted (λ l. BareFun (Variable l) (Expression own l)) n ps f rest

  -- `fname = fun (Var, ..) -> expr`, with as many variables as the name says
  pub data BareDefinition (n : ℕ) : List Piece → DefinitionTree → List Piece → Type 0 where
    a_definition : {ps p1 rest : List Piece} {at : ℕ} {named : NamedAt} {vs : List Mention} {body : Tree} → FunctionName n ps named (mark at m.Equals ∷ p1) → Fun n p1 (vs, body) rest → length vs ≡ named.function.arity
        → BareDefinition n ps (record { named = named; parameters = vs; body = body }) rest

  abbrev pub Definition : ℕ → List Piece → DefinitionTree → List Piece → Type 0
  Definition n ps d rest = Noted BareDefinition n ps d rest

-- `module Atom [fname, ..] attributes [Atom = const, ..] def .. end`
pub data BareModule (n : ℕ) : List Piece → ModuleTree → List Piece → Type 0 where
  a_module : {p1 p2 p3 rest : List Piece} {at bt ct dt et ft : ℕ} {name : List ℕ} {exports : List NamedAt} {attributes : List AttributeTree} {definitions : List DefinitionTree}
      → Enclosed (FunctionName n) m.RightBracket p1 exports (word dt k.Attributes ∷ mark et m.LeftBracket ∷ p2)
      → Enclosed (Attribute (ConstantIn n)) m.RightBracket p2 attributes p3
      → Row (Definition name n) p3 definitions (word ft k.End ∷ rest)
      → BareModule n (word at k.Module ∷ atom bt name ∷ mark ct m.LeftBracket ∷ p1) (record { name = name; exports = exports; attributes = attributes; definitions = definitions }) rest

-- the tokens, all of them, spell the module
abbrev pub Spells : List Piece → ModuleTree → Type 0
Spells ps tree = Noted BareModule level_limit ps tree []
