-- The variables that are bound around the code, and the functions that may be called there.
use Rattle.std.specs.Prelude.{◌≡◌, ◌≢◌, ℕ, List, [], ◌∷◌, ◌++◌, length, map, take, if◌then◌else◌, false, Option, Some, None, Result, Ok, Err}
use denote.Ref.{Bor}
use Rattle.indexmap.specs.IndexSet.{IndexSet}
use Rattle.core_tokens.specs.declared.fault.ReadFault.{ReadFault}
use Rattle.core_tokens.specs.declared.fault.ReadFault.TheVariants.{Memory, DuplicateFunction}
use Rattle.core_tree.specs.Syntax.{Mention, Function, NamedAt, ClauseTree, DefinitionTree}
use Rattle.core_tree.specs.Definitions.{definition_of, keys_in}
use Rattle.core_scopes.specs.Scopes.{names, bound_by, Setting, guard_of, exported_by}
use Rattle.core_scopes.specs.Outcomes.{◌>>=◌}
use Rattle.core_scopes.specs.ScopeChecks.{Checked, check_distinct, check_tree, check_definition, is_defined, check_exports}
use Rattle.core_tree.specs.declared.module.Definition.{Definition}
use Rattle.core_scopes.specs.declared.functions.Duplicate.{Duplicate}
use Rattle.core_scopes.specs.declared.scopes.Scope.{Scope, Top, Within'}
use Rattle.core_scopes.specs.declared.scopes.Setting.{Setting as Place}

-- what borrows show
abbrev pub shown : {X : Type 0} → List (Bor X) → List X
shown xs = map (λ x. x.now) xs

abbrev pub bound_in : Scope → List (List ℕ)
bound_in Top = []
bound_in (Within' ns p outer) = shown ns.now.keys ++ bound_in outer

abbrev pub setting_in : Place → Setting
setting_in x = record { defined = keys_in x.definitions.now.entries; exported = shown x.exported.now.keys; in_guard = x.in_guard }

-- the variables' names were appended, all distinct
abbrev pub AddsUnlessMemory : List Mention → Result (Unit {0}) ReadFault → List (List ℕ) → List (List ℕ) → Type 0
AddsUnlessMemory vs (Ok u) old new = (check_distinct old vs ≡ Ok tt) × (new ≡ old ++ names vs)
AddsUnlessMemory vs (Err e) old new = e ≢ Memory → check_distinct old vs ≡ Err e

-- the names of the variables, where no two are the same
abbrev pub BindsUnlessMemory : {S : Type 0} → List Mention → Result (IndexSet (Bor (List ℕ)) S) ReadFault → Type 0
BindsUnlessMemory vs (Ok ns) = (check_distinct [] vs ≡ Ok tt) × (shown ns.keys ≡ names vs)
BindsUnlessMemory vs (Err e) = e ≢ Memory → check_distinct [] vs ≡ Err e

-- a clause alone
abbrev pub check_clause : Setting → List (List ℕ) → ClauseTree → Checked
check_clause x bound c =
    check_distinct [] (bound_by c.patterns) >>= λ _.
    check_tree (guard_of x) (names (bound_by c.patterns) ++ bound) c.guard >>= λ _.
    check_tree x (names (bound_by c.patterns) ++ bound) c.body

-- definitions one after the other, without a look at their names
unfoldable pub check_bodies : Setting → List DefinitionTree → Checked
check_bodies x [] = Ok tt
check_bodies x (d ∷ ds) = check_definition x d >>= λ _. check_bodies x ds

-- the definitions before the first duplicate
abbrev pub before_duplicate : Option Duplicate → List DefinitionTree → List DefinitionTree
before_duplicate None ds = ds
before_duplicate (Some s) ds = take s.before ds

-- the fault at the first duplicate definition
abbrev pub fault_of_duplicate : Option Duplicate → Checked
fault_of_duplicate None = Ok tt
fault_of_duplicate (Some s) = Err (DuplicateFunction s.at)

-- the bodies of the definitions that were kept, as far as the first whose name had one, and that one's fault
abbrev pub check_kept : Setting → Option Duplicate → List (Function × Definition) → Checked
check_kept x second es = check_bodies x (before_duplicate second (map definition_of es)) >>= λ _. fault_of_duplicate second

-- the first duplicate definition, with one more definition at the end
unfoldable pub first_duplicate : List (Function × Definition) → Option Duplicate → DefinitionTree → Option Duplicate
first_duplicate es (Some s) d = Some s
first_duplicate es None d = if is_defined (keys_in es) d.named.function then Some (record { before = length es; at = d.named.at }) else None

-- the exported names, and then the definitions
abbrev pub check_functions : List NamedAt → Option Duplicate → List (Function × Definition) → Checked
check_functions exports second es =
    check_exports (keys_in es) exports >>= λ _.
    check_kept (record { defined = keys_in es; exported = exported_by exports; in_guard = false }) second es
