-- Reading expressions and clauses from left to right, with the fault that comes first by place.
use Rattle.std.specs.Prelude.{ℕ, zero, suc, List, [], ◌∷◌, ◌++◌, length, Option, Some, None, Ok, Err, Bool, true, false, ◌&&◌, ◌||◌, ◌==◌, nat_lt, if◌then◌else◌, codes}
use Rattle.core_tokens.specs.declared.fault.ReadFault.{ReadFault}
use Rattle.core_tokens.specs.declared.fault.ReadFault.TheVariants.{Expected, HigherOrder, UnsupportedCall, TooDeep, UnsupportedForm}
use Rattle.core_calls.specs.declared.call.CallKind.{CallKind}
use Rattle.core_calls.specs.declared.pure.PureCall.{PureCall}
use Rattle.core_tokens.specs.declared.token.Keyword.TheVariants as k
use Rattle.core_tokens.specs.declared.token.Mark.TheVariants as m
use Rattle.core_grammar.specs.declared.subject.Subject.{Subject}
use Rattle.core_grammar.specs.declared.subject.Subject.TheVariants as subjects
use Rattle.core_calls.specs.Calls.{call_with}
use Rattle.core_calls.specs.PureCalls.{pure_call_with}
use Rattle.core_tokens.specs.Piece.{Piece, Shape}
use Rattle.core_tokens.specs.Piece as lexemes
use Rattle.core_tree.specs.Syntax.{Mention, NamedAt, Callee, Pattern, Tree, trees_of, ClauseTree, clauses_of}
use Rattle.core_tree.specs.Callee as callees
use Rattle.core_tree.specs.Expression as trees
use Rattle.core_grammar.specs.declared.unserved.Unserved.{Unserved}
use Rattle.core_grammar.specs.declared.unserved.Unserved.TheVariants as unserved
use Rattle.term_core.specs.Kinds.{same_text}
use Rattle.core_scopes.specs.Outcomes.{◌>>=◌}
use Rattle.core_grammar.specs.Beginnings.{Beginning, OfAtom, OfOtherForm, OfFunction, beginning}
use Rattle.core_grammar.specs.inside.Decoder.{place_of_unserved, State, Read, with_pieces, word_behind, is_mark, after_mark, after_word, refusal, is_foreign, too_deep, mark_at, word_at, taken, atom_in, atom_at, named_by, behind_atom_at, closed_at, brackets_at, exactly_at, rows_at, begins_pattern_by, in_note_at, constant_at, noted_at, variables_at, caught_at, alias_at, pattern_at}

-- ---- expressions

-- a function as a value: `fun`, `letrec`, a function's name
abbrev pub is_function_by : Beginning → List Piece → Bool
is_function_by OfFunction ps = true
is_function_by OfAtom [] = false
is_function_by OfAtom (p ∷ ps) = is_mark m.Slash p.shape
is_function_by b ps = false

abbrev pub is_function : Shape → List Piece → Bool
is_function shape ps = is_function_by (beginning shape) ps

abbrev pub begins_expression_by : Beginning → Bool
begins_expression_by OfOtherForm = true
begins_expression_by b = begins_pattern_by b

abbrev pub begins_expression : Shape → Bool
begins_expression shape = begins_expression_by (beginning shape)

-- the fault at a token past the last level
abbrev pub deep_expression_of : ℕ → List Piece → ReadFault
deep_expression_of stop [] = Expected stop
deep_expression_of stop (p ∷ ps) =
    if is_function p.shape ps then HigherOrder p.at
    else (if begins_expression p.shape then TooDeep p.at
    else (if is_foreign p.shape then UnsupportedForm p.at else Expected p.at))

-- the fault at a token that begins no expression that is read
abbrev pub expression_fault_of : ℕ → List Piece → ReadFault
expression_fault_of stop [] = Expected stop
expression_fault_of stop (p ∷ ps) =
    if is_function p.shape ps then HigherOrder p.at
    else (if is_foreign p.shape then UnsupportedForm p.at else Expected p.at)

unfoldable pub deep_expression : State → ReadFault
deep_expression s = refusal s.refused (deep_expression_of s.stop s.pieces)

unfoldable pub expression_fault : State → ReadFault
expression_fault s = refusal s.refused (expression_fault_of s.stop s.pieces)

-- the fault where the atom of a call should be; the first argument is the place of the call
abbrev pub callee_fault_of : ℕ → ℕ → List Piece → ReadFault
callee_fault_of at stop [] = Expected stop
callee_fault_of at stop (p ∷ ps) =
    if is_function p.shape [] || begins_expression p.shape then UnsupportedCall at
    else (if is_foreign p.shape then UnsupportedForm p.at else Expected p.at)

unfoldable pub callee_fault : ℕ → State → ReadFault
callee_fault at s = refusal s.refused (callee_fault_of at s.stop s.pieces)

unfoldable pub bare_callee_at : ℕ → State → Read (List ℕ)
bare_callee_at at s = taken (λ p. atom_in p.shape) s.pieces s (callee_fault at s)

-- one of the two atoms of the call at this place
unfoldable pub callee_at : ℕ → ℕ → State → Read (List ℕ)
callee_at at n s = noted_at (λ _. bare_callee_at at) n s

-- the fault where the name of the function of an `apply` should be
abbrev pub applied_fault_of : ℕ → List Piece → ReadFault
applied_fault_of stop [] = Expected stop
applied_fault_of stop (p ∷ ps) =
    if is_function p.shape [] || begins_expression p.shape then HigherOrder p.at
    else (if is_foreign p.shape then UnsupportedForm p.at else Expected p.at)

unfoldable pub applied_fault : State → ReadFault
applied_fault s = refusal s.refused (applied_fault_of s.stop s.pieces)

unfoldable pub applied_atom_at : State → Read (ℕ × List ℕ)
applied_atom_at s = taken (λ p. named_by p.at p.shape) s.pieces s (applied_fault s)

-- an atom with its arguments after it is no function's name, but a value that is applied
abbrev pub behind_applied_by : ℕ → List ℕ → Option (List Piece) → State → Read NamedAt
behind_applied_by at t (Some ps) s = Err (refusal s.refused (HigherOrder at))
behind_applied_by at t None s = behind_atom_at at t s

unfoldable pub bare_applied_at : State → Read NamedAt
bare_applied_at s = do
  a ← applied_atom_at s
  behind_applied_by a.0.0 a.0.1 (after_mark m.LeftParenthesis a.1.pieces) a.1

-- the name of the function of an `apply`
unfoldable pub applied_at : ℕ → State → Read NamedAt
applied_at n s = noted_at (λ _. bare_applied_at) n s

-- an exported function of the module `own`, as far as the names show
abbrev pub export_called : List ℕ → List ℕ → List ℕ → ℕ → Option Callee
export_called own module_name function_name arity =
    if same_text own module_name && nat_lt arity 256 then Some (callees.Exported (record { name = function_name; arity = arity })) else None

abbrev pub unlisted_called : List ℕ → List ℕ → List ℕ → ℕ → Option PureCall → Option Callee
unlisted_called own module_name function_name arity (Some kind) = Some (callees.Pure kind)
unlisted_called own module_name function_name arity None = export_called own module_name function_name arity

abbrev pub callee_by : List ℕ → List ℕ → List ℕ → ℕ → Option CallKind → Option Callee
callee_by own module_name function_name arity (Some kind) = Some (callees.World kind)
callee_by own module_name function_name arity None = unlisted_called own module_name function_name arity (pure_call_with module_name function_name arity)

-- what a call in the module `own` calls, by its two names and the number of its arguments
unfoldable pub callee_named : List ℕ → List ℕ → List ℕ → ℕ → Option Callee
callee_named own module_name function_name arity = callee_by own module_name function_name arity (call_with module_name function_name arity)

-- the operation of a `primop`, by its name and the number of its arguments
unfoldable pub operation_named : List ℕ → ℕ → Option Callee
operation_named name arity =
    if same_text name (codes "match_fail") && arity == 1 then Some callees.MatchFail
    else (if same_text name (codes "raise") && arity == 2 then Some callees.Raise else None)

abbrev pub earlier : Unserved → Option Unserved → Unserved
earlier u None = u
earlier u (Some v) = if nat_lt (place_of_unserved u) (place_of_unserved v) then u else v

-- something that is not served: what is read goes on, since it may be inside something whose place is less
abbrev pub refuse : Unserved → State → State
refuse u s = record { pieces = s.pieces; refused = Some (earlier u s.refused); stop = s.stop }

abbrev pub judged : ℕ → Unserved → Option Callee → List Tree → State → Read Tree
judged at u (Some callee) ts s = Ok (trees.Call at callee (trees_of ts), s)
judged at u None ts s = Ok (trees.List trees.NoMore, refuse u s)

abbrev pub tree_list : List Tree × Option Tree → Tree
tree_list (ts, None) = trees.List (trees_of ts)
tree_list (ts, Some t) = trees.Onto (trees_of ts) t

-- an atom, unless it begins a function's name
abbrev pub name_by : Option (List Piece) → List ℕ → List Piece → State → Read Tree
name_by (Some qs) t ps s = Err (expression_fault s)
name_by None t ps s = Ok (trees.Atom t, with_pieces s ps)

-- what a clause begins with: patterns, or the whole of it in the parentheses of an annotation
pub data Start : Type 0 where
  OnePattern : (pattern : Pattern) → Start
  ManyPatterns : (patterns : List Pattern) → Start
  WholeClause : (clause : ClauseTree) → Start

-- the forms of expressions in the module `own`, whose parts have at most n levels
module _ (own : List ℕ) (n : ℕ) (inner : State → Read Tree) where
  unfoldable pub tuple_at : State → Read Tree
  tuple_at s = do
    ts ← closed_at inner m.RightBrace s
    Ok (trees.Tuple (trees_of ts.0), ts.1)

  unfoldable pub list_at : State → Read Tree
  list_at s = do
    b ← brackets_at inner s
    Ok (tree_list b.0, b.1)

  unfoldable pub values_at : State → Read Tree
  values_at s = do
    ts ← closed_at inner m.Greater s
    Ok (trees.Values (trees_of ts.0), ts.1)

  -- an arrow, and the expression after it
  unfoldable pub body_at : State → Read Tree
  body_at s = do
    s1 ← mark_at m.Arrow s
    inner s1

  -- the body of a `let`, and the `in` before it
  unfoldable pub in_at : State → Read Tree
  in_at s = do
    s1 ← word_at k.In s
    inner s1

  -- the value of a `let` and its body, after the variables
  unfoldable pub bound_at : State → Read (Tree × Tree)
  bound_at s = do
    s1 ← mark_at m.Equals s
    t ← inner s1
    u ← in_at t.1
    Ok ((t.0, u.0), u.1)

  unfoldable pub let_at : State → Read Tree
  let_at s = do
    vs ← variables_at n s
    s1 ← mark_at m.Equals vs.1
    t ← inner s1
    s2 ← word_at k.In t.1
    u ← inner s2
    Ok (trees.Let vs.0 t.0 u.0, u.1)

  unfoldable pub do_at : State → Read Tree
  do_at s = do
    t ← inner s
    u ← inner t.1
    Ok (trees.Do t.0 u.0, u.1)

  unfoldable pub apply_at : ℕ → State → Read Tree
  apply_at at s = do
    f ← applied_at n s
    s1 ← mark_at m.LeftParenthesis f.1
    ts ← exactly_at inner true f.0.function.arity s1
    s2 ← mark_at m.RightParenthesis ts.1
    Ok (trees.Call at (callees.Defined f.0) (trees_of ts.0), s2)

  unfoldable pub call_at : ℕ → State → Read Tree
  call_at at s = do
    a ← callee_at at n s
    s1 ← mark_at m.Colon a.1
    f ← callee_at at n s1
    s2 ← mark_at m.LeftParenthesis f.1
    ts ← closed_at inner m.RightParenthesis s2
    judged at (unserved.Call at) (callee_named own a.0 f.0 (length ts.0)) ts.0 ts.1

  unfoldable pub primop_at : ℕ → State → Read Tree
  primop_at at s = do
    a ← atom_at s
    s1 ← mark_at m.LeftParenthesis a.1
    ts ← closed_at inner m.RightParenthesis s1
    judged at (unserved.Primop at) (operation_named a.0 (length ts.0)) ts.0 ts.1

  -- what goes on with the value of a `try`: its variables, and the body
  unfoldable pub success_at : State → Read (List Mention × Tree)
  success_at s = do
    s1 ← word_at k.Of s
    vs ← variables_at n s1
    u ← body_at vs.1
    Ok ((vs.0, u.0), u.1)

  -- what a `try` does with an exception: its variables, and the handler
  unfoldable pub handler_at : State → Read (List Mention × Tree)
  handler_at s = do
    s1 ← word_at k.Catch s
    ws ← caught_at n s1
    h ← body_at ws.1
    Ok ((ws.0, h.0), h.1)

  -- what a `try` does with its value, and with an exception
  unfoldable pub branches_at : State → Read ((List Mention × Tree) × (List Mention × Tree))
  branches_at s = do
    b ← success_at s
    h ← handler_at b.1
    Ok ((b.0, h.0), h.1)

  unfoldable pub try_at : ℕ → State → Read Tree
  try_at at s = do
    t ← inner s
    s1 ← word_at k.Of t.1
    vs ← variables_at n s1
    s2 ← mark_at m.Arrow vs.1
    u ← inner s2
    s3 ← word_at k.Catch u.1
    ws ← caught_at n s3
    s4 ← mark_at m.Arrow ws.1
    h ← inner s4
    Ok (trees.Try at t.0 vs.0 u.0 ws.0 h.0, h.1)

  unfoldable pub catch_at : ℕ → State → Read Tree
  catch_at at s = do
    t ← inner s
    Ok (trees.Catch at t.0, t.1)

  -- the timeout of a `receive`, and what is done then
  unfoldable pub expiry_at : State → Read (Tree × Tree)
  expiry_at s = do
    s1 ← word_at k.After s
    t ← inner s1
    u ← body_at t.1
    Ok ((t.0, u.0), u.1)

  -- the guard of a clause and its body
  unfoldable pub guarded_at : State → Read (Tree × Tree)
  guarded_at s = do
    s1 ← word_at k.When s
    g ← inner s1
    b ← body_at g.1
    Ok ((g.0, b.0), b.1)

  -- what follows the patterns of a clause
  unfoldable pub behind_patterns_at : List Pattern → State → Read ClauseTree
  behind_patterns_at qs s = do
    s1 ← word_at k.When s
    g ← inner s1
    s2 ← mark_at m.Arrow g.1
    b ← inner s2
    Ok (record { patterns = qs; guard = g.0; body = b.0 }, b.1)

  -- the start of a clause as a clause
  abbrev pub clause_of : Start → State → Read ClauseTree
  clause_of (OnePattern q) s = behind_patterns_at (q ∷ []) s
  clause_of (ManyPatterns qs) s = behind_patterns_at qs s
  clause_of (WholeClause c) s = Ok (c, s)

  -- in parentheses the start of a clause goes on to the whole of it, where `when` follows its patterns
  abbrev pub start_by : Start → Option (List Piece) → State → Read Start
  start_by x None s = Ok (x, s)
  start_by x (Some ps) s = do
    c ← clause_of x s
    Ok (WholeClause c.0, c.1)

  abbrev pub started : Start → Option (List Piece) → State → Read Start
  started (WholeClause c) o s = Ok (WholeClause c, s)
  started x o s = start_by x o s

  unfoldable pub inside_start_at : (State → Read Start) → State → Read Start
  inside_start_at start s = do
    x ← start s
    started x.0 (after_word k.When x.1.pieces) x.1

  -- after the parentheses of an annotation a variable may be that of an alias
  abbrev pub aliased : Start → State → Read Start
  aliased (OnePattern q) s = do
    p ← alias_at (pattern_at n) (constant_at n) q s
    Ok (OnePattern p.0, p.1)
  aliased x s = Ok (x, s)

  -- a start of a clause in the parentheses of an annotation; its parts are at n levels
  unfoldable pub noted_start_at : (State → Read Start) → State → Read Start
  noted_start_at start s = do
    x ← in_note_at (constant_at n) (inside_start_at start) s
    aliased x.0 x.1

-- patterns in angles: any number of them, or one
unfoldable pub angles_at : ℕ → Subject → State → Read (List Pattern)
angles_at n subjects.Values s = closed_at (pattern_at n) m.Greater s
angles_at n subjects.Message s = do
  qs ← exactly_at (pattern_at n) true 1 s
  s1 ← mark_at m.Greater qs.1
  Ok (qs.0, s1)

-- patterns without a parenthesis before them
abbrev pub bare_start_by : ℕ → Subject → Option (List Piece) → State → Read Start
bare_start_by n subject (Some ps) s = do
  qs ← angles_at n subject (with_pieces s ps)
  Ok (ManyPatterns qs.0, qs.1)
bare_start_by n subject None s = do
  q ← pattern_at n s
  Ok (OnePattern q.0, q.1)

unfoldable pub bare_start_at : ℕ → Subject → State → Read Start
bare_start_at n subject s = bare_start_by n subject (after_mark m.Less s.pieces) s

abbrev pub start_last : Subject → Option (List Piece) → State → Read Start
start_last subject (Some ps) s = Err (too_deep s)
start_last subject None s = bare_start_at 0 subject s

module _ (own : List ℕ) where
  abbrev pub start_next : ℕ → Subject → (State → Read Tree) → (State → Read Start) → Option (List Piece) → State → Read Start
  start_next n subject inner start (Some ps) s = noted_start_at own n inner start (with_pieces s ps)
  start_next n subject inner start None s = bare_start_at (suc n) subject s

  module _ (n : ℕ) (inner : State → Read Tree) (start : Subject → State → Read Start) where
    -- a clause whose parts have at most n levels
    unfoldable pub clause_at : Subject → State → Read ClauseTree
    clause_at subject s = do
      x ← start subject s
      clause_of own n inner x.0 x.1

    -- the clauses as far as the keyword after them, when these were read before
    unfoldable pub clauses_at : Subject → List ClauseTree → State → Read (List ClauseTree)
    clauses_at subject front s = do
      cs ← rows_at (clause_at subject) (word_behind subject) s
      Ok (front ++ cs.0, cs.1)

    -- what follows the value of a `case`
    unfoldable pub choices_at : State → Read (List ClauseTree)
    choices_at s = do
      s1 ← word_at k.Of s
      c ← clause_at subjects.Values s1
      cs ← clauses_at subjects.Values (c.0 ∷ []) c.1
      s2 ← word_at k.End cs.1
      Ok (cs.0, s2)

    unfoldable pub case_at : ℕ → State → Read Tree
    case_at at s = do
      t ← inner s
      s1 ← word_at k.Of t.1
      c ← clause_at subjects.Values s1
      cs ← rows_at (clause_at subjects.Values) k.End c.1
      s2 ← word_at k.End cs.1
      Ok (trees.Case at t.0 (clauses_of (c.0 ∷ cs.0)), s2)

    unfoldable pub receive_at : ℕ → State → Read Tree
    receive_at at s = do
      cs ← rows_at (clause_at subjects.Message) k.After s
      s1 ← word_at k.After cs.1
      t ← inner s1
      s2 ← mark_at m.Arrow t.1
      u ← inner s2
      Ok (trees.Receive at (clauses_of cs.0) t.0 u.0, u.1)

    abbrev pub form_by : ℕ → Shape → List Piece → State → Read Tree
    form_by at (lexemes.Integer i) ps s = Ok (trees.Integer i, with_pieces s ps)
    form_by at (lexemes.Character c) ps s = Ok (trees.Character c, with_pieces s ps)
    form_by at (lexemes.Text cs) ps s = Ok (trees.Text cs, with_pieces s ps)
    form_by at (lexemes.Atom t) ps s = name_by (after_mark m.Slash ps) t ps s
    form_by at (lexemes.Variable v) ps s = Ok (trees.Variable (record { at = at; name = v }), with_pieces s ps)
    form_by at (lexemes.Mark m.LeftBrace) ps s = tuple_at own n inner (with_pieces s ps)
    form_by at (lexemes.Mark m.LeftBracket) ps s = list_at own n inner (with_pieces s ps)
    form_by at (lexemes.Mark m.Less) ps s = values_at own n inner (with_pieces s ps)
    form_by at (lexemes.Mark m.LeftParenthesis) ps s = in_note_at (constant_at n) inner (with_pieces s ps)
    form_by at (lexemes.Word k.Let) ps s = let_at own n inner (with_pieces s ps)
    form_by at (lexemes.Word k.Case) ps s = case_at at (with_pieces s ps)
    form_by at (lexemes.Word k.Do) ps s = do_at own n inner (with_pieces s ps)
    form_by at (lexemes.Word k.Apply) ps s = apply_at own n inner at (with_pieces s ps)
    form_by at (lexemes.Word k.Call) ps s = call_at own n inner at (with_pieces s ps)
    form_by at (lexemes.Word k.Primop) ps s = primop_at own n inner at (with_pieces s ps)
    form_by at (lexemes.Word k.Try) ps s = try_at own n inner at (with_pieces s ps)
    form_by at (lexemes.Word k.Catch) ps s = catch_at own n inner at (with_pieces s ps)
    form_by at (lexemes.Word k.Receive) ps s = receive_at at (with_pieces s ps)
    form_by at shape ps s = Err (expression_fault s)

    abbrev pub form_of : List Piece → State → Read Tree
    form_of [] s = Err (expression_fault s)
    form_of (p ∷ ps) s = form_by p.at p.shape ps s

    unfoldable pub form_at : State → Read Tree
    form_at s = form_of s.pieces s

  unfoldable mutual
    pub expression_at : ℕ → State → Read Tree
    expression_at zero s = Err (deep_expression s)
    expression_at (suc n) s = form_at n (expression_at n) (start_at n) s

    -- what a clause with parts of at most so many levels begins with
    pub start_at : ℕ → Subject → State → Read Start
    start_at zero subject s = start_last subject (after_mark m.LeftParenthesis s.pieces) s
    start_at (suc n) subject s = start_next n subject (expression_at n) (start_at n subject) (after_mark m.LeftParenthesis s.pieces) s
