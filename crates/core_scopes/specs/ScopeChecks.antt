-- Looking for the first fault of scopes in the order of the text.
use Rattle.std.specs.Prelude.{ℕ, List, [], ◌∷◌, ◌++◌, Bool, Result, Ok, Err, if◌then◌else◌}
use Rattle.std.specs.List.{list_any}
use Rattle.core_calls.specs.PureCalls.{is_of_dictionary}
use Rattle.core_tokens.specs.declared.fault.ReadFault.{ReadFault}
use Rattle.core_tokens.specs.declared.fault.ReadFault.TheVariants.{Unbound, DuplicateVariable, DuplicateFunction, NoFunction, UnsupportedCall, EffectInGuard, NoMain}
use Rattle.core_tree.specs.Syntax.{Mention, Function, NamedAt, Callee, Tree, Trees, Clauses, DefinitionTree, ModuleTree}
use Rattle.core_tree.specs.Callee as callees
use Rattle.core_tree.specs.Expression as trees
use Rattle.core_tree.specs.Functions.{same_function}
use Rattle.core_scopes.specs.Scopes.{names, bound_by, Setting, guard_of, functions, setting_of, main_function}
use Rattle.core_scopes.specs.Outcomes.{◌>>=◌}
use Rattle.term_core.specs.Kinds.{same_text}

-- nothing, or the first fault
abbrev pub Checked : Type 0
Checked = Result (Unit {0}) ReadFault

abbrev pub is_among : List (List ℕ) → List ℕ → Bool
is_among bound name = list_any (λ x. same_text x name) bound

abbrev pub check_variable : List (List ℕ) → Mention → Checked
check_variable bound v = if is_among bound v.name then Ok tt else Err (Unbound v.at)

-- no variable has the name of one before it
unfoldable pub check_distinct : List (List ℕ) → List Mention → Checked
check_distinct before [] = Ok tt
check_distinct before (v ∷ vs) = if is_among before v.name then Err (DuplicateVariable v.at) else check_distinct (before ++ v.name ∷ []) vs

abbrev pub is_defined : List Function → Function → Bool
is_defined defined f = list_any (same_function f) defined

-- an effect is not allowed in a guard
abbrev pub check_effect : Setting → ℕ → Checked
check_effect x at = if x.in_guard then Err (EffectInGuard at) else Ok tt

-- what the call at this place calls may be called there
abbrev pub check_callee : Setting → ℕ → Callee → Checked
check_callee x at (callees.World kind) = check_effect x at
check_callee x at (callees.Pure kind) = if is_of_dictionary kind then check_effect x at else Ok tt
check_callee x at (callees.Exported f) = if is_defined x.exported f then check_effect x at else Err (UnsupportedCall at)
check_callee x at (callees.Defined n) = check_effect x at >>= λ _. (if is_defined x.defined n.function then Ok tt else Err (NoFunction n.at))
check_callee x at callees.MatchFail = check_effect x at
check_callee x at callees.Raise = check_effect x at

abbrev mutual
  pub check_tree : Setting → List (List ℕ) → Tree → Checked
  check_tree x bound (trees.Integer n) = Ok tt
  check_tree x bound (trees.Character c) = Ok tt
  check_tree x bound (trees.Text cs) = Ok tt
  check_tree x bound (trees.Atom t) = Ok tt
  check_tree x bound (trees.Variable v) = check_variable bound v
  check_tree x bound (trees.Tuple ts) = check_trees x bound ts
  check_tree x bound (trees.List ts) = check_trees x bound ts
  check_tree x bound (trees.Onto ts t) = check_trees x bound ts >>= λ _. check_tree x bound t
  check_tree x bound (trees.Values ts) = check_trees x bound ts
  check_tree x bound (trees.Let vs t u) = check_distinct [] vs >>= λ _. check_tree x bound t >>= λ _. check_tree x (names vs ++ bound) u
  check_tree x bound (trees.Case at t cs) = check_tree x bound t >>= λ _. check_clauses x bound cs
  check_tree x bound (trees.Do t u) = check_tree x bound t >>= λ _. check_tree x bound u
  check_tree x bound (trees.Call at callee ts) = check_callee x at callee >>= λ _. check_trees x bound ts
  check_tree x bound (trees.Try at t vs u ws h) =
      check_tree x bound t >>= λ _.
      check_distinct [] vs >>= λ _.
      check_tree x (names vs ++ bound) u >>= λ _.
      check_distinct [] ws >>= λ _.
      check_tree x (names ws ++ bound) h
  check_tree x bound (trees.Catch at t) = check_tree x bound t
  check_tree x bound (trees.Receive at cs t u) = check_effect x at >>= λ _. check_clauses x bound cs >>= λ _. check_tree x bound t >>= λ _. check_tree x bound u

  pub check_trees : Setting → List (List ℕ) → Trees → Checked
  check_trees x bound trees.NoMore = Ok tt
  check_trees x bound (trees.Also t ts) = check_tree x bound t >>= λ _. check_trees x bound ts

  pub check_clauses : Setting → List (List ℕ) → Clauses → Checked
  check_clauses x bound trees.NoClause = Ok tt
  check_clauses x bound (trees.Clause qs g b cs) =
      check_distinct [] (bound_by qs) >>= λ _.
      check_tree (guard_of x) (names (bound_by qs) ++ bound) g >>= λ _.
      check_tree x (names (bound_by qs) ++ bound) b >>= λ _.
      check_clauses x bound cs

unfoldable pub check_definition : Setting → DefinitionTree → Checked
check_definition x d = check_distinct [] d.parameters >>= λ _. check_tree x (names d.parameters) d.body

-- no definition has the name of one before it, and each is closed
unfoldable pub check_definitions : Setting → List Function → List DefinitionTree → Checked
check_definitions x before [] = Ok tt
check_definitions x before (d ∷ ds) =
    if is_defined before d.named.function then Err (DuplicateFunction d.named.at)
    else (check_definition x d >>= λ _. check_definitions x (before ++ d.named.function ∷ []) ds)

-- each name is one of a defined function
unfoldable pub check_exports : List Function → List NamedAt → Checked
check_exports defined [] = Ok tt
check_exports defined (e ∷ es) = if is_defined defined e.function then check_exports defined es else Err (NoFunction e.at)

-- the module, and the place of its last `end`
unfoldable pub check_module : ModuleTree × ℕ → Result ModuleTree ReadFault
check_module (m, at) =
    check_exports (functions m.definitions) m.exports >>= λ _.
    check_definitions (setting_of m) [] m.definitions >>= λ _.
    (if is_defined (functions m.definitions) main_function then Ok m else Err (NoMain at))
