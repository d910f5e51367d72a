-- Which modules are closed: each variable has a binding, each function that is exported, applied or called a definition or an export, none is bound or defined twice in one place, and a guard has no effect (Core Erlang 1.0.3, "Lexical scoping" and "Static constraints").
use Rattle.std.specs.Prelude.{◌≡◌, ℕ, Bool, true, false, ◌&&◌, List, [], ◌∷◌, ◌++◌, map, Contains, codes}
use Rattle.core_calls.specs.PureCalls.{is_of_dictionary}
use Rattle.core_tree.specs.Syntax.{Mention, Function, NamedAt, Callee, Pattern, Patterns, patterns_of, Tree, Trees, Clauses, DefinitionTree, ModuleTree}
use Rattle.core_tree.specs.Callee as callees
use Rattle.core_tree.specs.Pattern as patterns
use Rattle.core_tree.specs.Expression as trees

-- the names of variables
abbrev pub names : List Mention → List (List ℕ)
names vs = map (λ v. v.name) vs

-- no item occurs twice
abbrev pub AreDistinct : {X : Type 0} → List X → Type 0
AreDistinct [] = Unit {0}
AreDistinct (x ∷ xs) = ¬ (Contains xs x) × AreDistinct xs

-- the variables of patterns, from left to right
abbrev mutual
  pub variables_of : Pattern → List Mention
  variables_of (patterns.Integer n) = []
  variables_of (patterns.Character c) = []
  variables_of (patterns.Text cs) = []
  variables_of (patterns.Atom t) = []
  variables_of (patterns.Variable v) = v ∷ []
  variables_of (patterns.Tuple qs) = variables_of_all qs
  variables_of (patterns.List qs) = variables_of_all qs
  variables_of (patterns.Onto qs q) = variables_of_all qs ++ variables_of q
  variables_of (patterns.Alias v q) = v ∷ variables_of q

  pub variables_of_all : Patterns → List Mention
  variables_of_all patterns.NoMore = []
  variables_of_all (patterns.Also q qs) = variables_of q ++ variables_of_all qs

-- the variables that a clause binds
abbrev pub bound_by : List Pattern → List Mention
bound_by qs = variables_of_all (patterns_of qs)

-- the setting of an expression: the functions that are defined, those that are exported, and whether it is part of a guard
pub record Setting : Type 0 where
  pub defined : List Function
  pub exported : List Function
  pub in_guard : Bool

abbrev pub guard_of : Setting → Setting
guard_of x = record { defined = x.defined; exported = x.exported; in_guard = true }

-- what may be called there: outside of guards anything that is defined or exported, in a guard what the process answers by itself and without its dictionary
abbrev pub MayCall : Setting → Callee → Type 0
MayCall x (callees.World kind) = x.in_guard ≡ false
MayCall x (callees.Pure kind) = (x.in_guard && is_of_dictionary kind) ≡ false
MayCall x (callees.Exported function) = Contains x.exported function × (x.in_guard ≡ false)
MayCall x (callees.Defined named) = (x.in_guard ≡ false) × Contains x.defined named.function
MayCall x callees.MatchFail = x.in_guard ≡ false
MayCall x callees.Raise = x.in_guard ≡ false

-- each variable is one of those around it that are bound, and each call one that may be made; `let`, `try` and clauses bind variables in their parts; the timeout of a `receive` and what is done then see those outside, and no `receive` is in a guard
abbrev mutual
  pub IsClosed : Setting → List (List ℕ) → Tree → Type 0
  IsClosed x bound (trees.Integer n) = Unit {0}
  IsClosed x bound (trees.Character c) = Unit {0}
  IsClosed x bound (trees.Text cs) = Unit {0}
  IsClosed x bound (trees.Atom t) = Unit {0}
  IsClosed x bound (trees.Variable v) = Contains bound v.name
  IsClosed x bound (trees.Tuple ts) = AreClosed x bound ts
  IsClosed x bound (trees.List ts) = AreClosed x bound ts
  IsClosed x bound (trees.Onto ts t) = AreClosed x bound ts × IsClosed x bound t
  IsClosed x bound (trees.Values ts) = AreClosed x bound ts
  IsClosed x bound (trees.Let vs t u) = AreDistinct (names vs) × IsClosed x bound t × IsClosed x (names vs ++ bound) u
  IsClosed x bound (trees.Case at t cs) = IsClosed x bound t × AreClosedClauses x bound cs
  IsClosed x bound (trees.Do t u) = IsClosed x bound t × IsClosed x bound u
  IsClosed x bound (trees.Call at callee ts) = MayCall x callee × AreClosed x bound ts
  IsClosed x bound (trees.Try at t vs u ws h) = IsClosed x bound t × AreDistinct (names vs) × IsClosed x (names vs ++ bound) u × AreDistinct (names ws) × IsClosed x (names ws ++ bound) h
  IsClosed x bound (trees.Catch at t) = IsClosed x bound t
  IsClosed x bound (trees.Receive at cs t u) = (x.in_guard ≡ false) × AreClosedClauses x bound cs × IsClosed x bound t × IsClosed x bound u

  pub AreClosed : Setting → List (List ℕ) → Trees → Type 0
  AreClosed x bound trees.NoMore = Unit {0}
  AreClosed x bound (trees.Also t ts) = IsClosed x bound t × AreClosed x bound ts

  pub AreClosedClauses : Setting → List (List ℕ) → Clauses → Type 0
  AreClosedClauses x bound trees.NoClause = Unit {0}
  AreClosedClauses x bound (trees.Clause qs g b cs) = AreDistinct (names (bound_by qs)) × IsClosed (guard_of x) (names (bound_by qs) ++ bound) g × IsClosed x (names (bound_by qs) ++ bound) b × AreClosedClauses x bound cs

-- the names of the functions that are defined, and of those that are exported
abbrev pub functions : List DefinitionTree → List Function
functions ds = map (λ d. d.named.function) ds

abbrev pub exported_by : List NamedAt → List Function
exported_by es = map (λ e. e.function) es

-- the setting of the body of a definition
abbrev pub setting_of : ModuleTree → Setting
setting_of m = record { defined = functions m.definitions; exported = exported_by m.exports; in_guard = false }

-- the body sees the parameters, which differ from each other
abbrev pub IsClosedDefinition : Setting → DefinitionTree → Type 0
IsClosedDefinition x d = AreDistinct (names d.parameters) × IsClosed x (names d.parameters) d.body

abbrev pub AreClosedDefinitions : Setting → List DefinitionTree → Type 0
AreClosedDefinitions x [] = Unit {0}
AreClosedDefinitions x (d ∷ ds) = IsClosedDefinition x d × AreClosedDefinitions x ds

-- each name is one of a defined function
abbrev pub AreDefined : List Function → List NamedAt → Type 0
AreDefined defined [] = Unit {0}
AreDefined defined (e ∷ es) = Contains defined e.function × AreDefined defined es

-- `main/0`
abbrev pub main_function : Function
main_function = record { name = codes "main"; arity = 0 }

-- what a module must be besides being spelt
pub record IsLawful (m : ModuleTree) : Type 0 where
  pub closed : AreClosedDefinitions (setting_of m) m.definitions
  pub distinct : AreDistinct (functions m.definitions)
  pub exported : AreDefined (functions m.definitions) m.exports
  pub main : Contains (functions m.definitions) main_function
