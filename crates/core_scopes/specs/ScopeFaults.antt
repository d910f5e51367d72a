-- What a fault of scopes and names says of a module: what its line says is true at its place.
use Rattle.std.specs.Prelude.{◌≡◌, ◌⊎◌, ℕ, true, List, [], ◌∷◌, ◌++◌, Contains}
use Rattle.core_calls.specs.PureCalls.{is_of_dictionary}
use Rattle.core_tokens.specs.declared.fault.ReadFault.{ReadFault}
use Rattle.core_tokens.specs.declared.fault.ReadFault.TheVariants.{Unbound, DuplicateVariable, DuplicateFunction, NoFunction, UnsupportedCall, EffectInGuard, NoMain}
use Rattle.core_tree.specs.Syntax.{Mention, Function, NamedAt, Callee, Tree, Trees, Clauses, DefinitionTree, ModuleTree}
use Rattle.core_tree.specs.Callee as callees
use Rattle.core_tree.specs.Expression as trees
use Rattle.core_scopes.specs.Scopes.{names, bound_by, Setting, guard_of, functions, setting_of, main_function}

-- a variable has the name of one before it, and the fault names the second
abbrev pub Repeats : List (List ℕ) → List Mention → ReadFault → Type 0
Repeats before [] fault = ⊥
Repeats before (v ∷ vs) fault = (Contains before v.name × (fault ≡ DuplicateVariable v.at)) ⊎ Repeats (before ++ v.name ∷ []) vs fault

-- an effect occurs in a guard
abbrev pub HasEffect : Setting → ℕ → ReadFault → Type 0
HasEffect x at fault = (x.in_guard ≡ true) × (fault ≡ EffectInGuard at)

-- the call at this place may not be made there: it is in a guard, or calls what is not exported or not defined
abbrev pub MayNotCall : Setting → ℕ → Callee → ReadFault → Type 0
MayNotCall x at (callees.World kind) fault = HasEffect x at fault
MayNotCall x at (callees.Pure kind) fault = (is_of_dictionary kind ≡ true) × HasEffect x at fault
MayNotCall x at (callees.Exported f) fault = (¬ (Contains x.exported f) × (fault ≡ UnsupportedCall at)) ⊎ HasEffect x at fault
MayNotCall x at (callees.Defined n) fault = HasEffect x at fault ⊎ (¬ (Contains x.defined n.function) × (fault ≡ NoFunction n.at))
MayNotCall x at callees.MatchFail fault = HasEffect x at fault
MayNotCall x at callees.Raise fault = HasEffect x at fault

-- somewhere in an expression a variable is not bound, or bound twice, or a call may not be made, or a `receive` is in a guard
abbrev mutual
  pub Breaks : Setting → List (List ℕ) → Tree → ReadFault → Type 0
  Breaks x bound (trees.Integer n) fault = ⊥
  Breaks x bound (trees.Character c) fault = ⊥
  Breaks x bound (trees.Text cs) fault = ⊥
  Breaks x bound (trees.Atom t) fault = ⊥
  Breaks x bound (trees.Variable v) fault = ¬ (Contains bound v.name) × (fault ≡ Unbound v.at)
  Breaks x bound (trees.Tuple ts) fault = SomeBreaks x bound ts fault
  Breaks x bound (trees.List ts) fault = SomeBreaks x bound ts fault
  Breaks x bound (trees.Onto ts t) fault = SomeBreaks x bound ts fault ⊎ Breaks x bound t fault
  Breaks x bound (trees.Values ts) fault = SomeBreaks x bound ts fault
  Breaks x bound (trees.Let vs t u) fault = Repeats [] vs fault ⊎ (Breaks x bound t fault ⊎ Breaks x (names vs ++ bound) u fault)
  Breaks x bound (trees.Case at t cs) fault = Breaks x bound t fault ⊎ SomeClauseBreaks x bound cs fault
  Breaks x bound (trees.Do t u) fault = Breaks x bound t fault ⊎ Breaks x bound u fault
  Breaks x bound (trees.Call at callee ts) fault = MayNotCall x at callee fault ⊎ SomeBreaks x bound ts fault
  Breaks x bound (trees.Try at t vs u ws h) fault = Breaks x bound t fault ⊎ (Repeats [] vs fault ⊎ (Breaks x (names vs ++ bound) u fault ⊎ (Repeats [] ws fault ⊎ Breaks x (names ws ++ bound) h fault)))
  Breaks x bound (trees.Catch at t) fault = Breaks x bound t fault
  Breaks x bound (trees.Receive at cs t u) fault = HasEffect x at fault ⊎ (SomeClauseBreaks x bound cs fault ⊎ (Breaks x bound t fault ⊎ Breaks x bound u fault))

  pub SomeBreaks : Setting → List (List ℕ) → Trees → ReadFault → Type 0
  SomeBreaks x bound trees.NoMore fault = ⊥
  SomeBreaks x bound (trees.Also t ts) fault = Breaks x bound t fault ⊎ SomeBreaks x bound ts fault

  pub SomeClauseBreaks : Setting → List (List ℕ) → Clauses → ReadFault → Type 0
  SomeClauseBreaks x bound trees.NoClause fault = ⊥
  SomeClauseBreaks x bound (trees.Clause qs g b cs) fault = Repeats [] (bound_by qs) fault ⊎ (Breaks (guard_of x) (names (bound_by qs) ++ bound) g fault ⊎ (Breaks x (names (bound_by qs) ++ bound) b fault ⊎ SomeClauseBreaks x bound cs fault))

-- a definition has the name of one before it, or one is not closed
abbrev pub SomeDefinitionBreaks : Setting → List Function → List DefinitionTree → ReadFault → Type 0
SomeDefinitionBreaks x before [] fault = ⊥
SomeDefinitionBreaks x before (d ∷ ds) fault =
    (Contains before d.named.function × (fault ≡ DuplicateFunction d.named.at)) ⊎ (Repeats [] d.parameters fault ⊎ (Breaks x (names d.parameters) d.body fault ⊎ SomeDefinitionBreaks x (before ++ d.named.function ∷ []) ds fault))

-- an exported name has no definition
abbrev pub SomeExportBreaks : List Function → List NamedAt → ReadFault → Type 0
SomeExportBreaks defined [] fault = ⊥
SomeExportBreaks defined (e ∷ es) fault = (¬ (Contains defined e.function) × (fault ≡ NoFunction e.at)) ⊎ SomeExportBreaks defined es fault

-- what the fault says of the module is true
abbrev pub ModuleBreaks : ModuleTree → ReadFault → Type 0
ModuleBreaks m fault = SomeExportBreaks (functions m.definitions) m.exports fault ⊎ SomeDefinitionBreaks (setting_of m) [] m.definitions fault

-- what the fault says of the module is true; or the fault says, at the place of the last `end`, that `main/0` has no definition, and it has none
abbrev pub IsFaultOfModule : ModuleTree → ℕ → ReadFault → Type 0
IsFaultOfModule m end fault = ModuleBreaks m fault ⊎ ((fault ≡ NoMain end) × ¬ (Contains (functions m.definitions) main_function))
