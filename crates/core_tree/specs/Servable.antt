-- Modules whose calls of the world have as many arguments as they take.
use Rattle.std.specs.Prelude.{◌≡◌, ℕ, suc, List, [], ◌∷◌}
use Rattle.core_calls.specs.Calls.{signature}
use Rattle.core_tree.specs.Syntax.{Callee, Tree, Trees, Clauses, DefinitionTree, ModuleTree}
use Rattle.core_tree.specs.Callee as callees
use Rattle.core_tree.specs.Expression as trees

-- how many expressions there are
abbrev pub count_of : Trees → ℕ
count_of trees.NoMore = 0
count_of (trees.Also t ts) = suc (count_of ts)

-- what is called with so many arguments takes so many, where it is a call of the world
abbrev pub MayBeCalled : Callee → ℕ → Type 0
MayBeCalled (callees.World kind) count = count ≡ (signature kind).arity
MayBeCalled (callees.Pure kind) count = Unit {0}
MayBeCalled (callees.Exported function) count = Unit {0}
MayBeCalled (callees.Defined named) count = Unit {0}
MayBeCalled callees.MatchFail count = Unit {0}
MayBeCalled callees.Raise count = Unit {0}

abbrev mutual
  -- each call in an expression is such a one
  pub IsServable : Tree → Type 0
  IsServable (trees.Integer n) = Unit {0}
  IsServable (trees.Character c) = Unit {0}
  IsServable (trees.Text cs) = Unit {0}
  IsServable (trees.Atom text) = Unit {0}
  IsServable (trees.Variable v) = Unit {0}
  IsServable (trees.Tuple ts) = AreServable ts
  IsServable (trees.List ts) = AreServable ts
  IsServable (trees.Onto ts t) = AreServable ts × IsServable t
  IsServable (trees.Values ts) = AreServable ts
  IsServable (trees.Let variables t body) = IsServable t × IsServable body
  IsServable (trees.Case at t cs) = IsServable t × AreServableClauses cs
  IsServable (trees.Do t u) = IsServable t × IsServable u
  IsServable (trees.Call at callee ts) = MayBeCalled callee (count_of ts) × AreServable ts
  IsServable (trees.Try at t variables body caught handler) = IsServable t × IsServable body × IsServable handler
  IsServable (trees.Catch at t) = IsServable t
  IsServable (trees.Receive at cs t u) = AreServableClauses cs × IsServable t × IsServable u

  pub AreServable : Trees → Type 0
  AreServable trees.NoMore = Unit {0}
  AreServable (trees.Also t ts) = IsServable t × AreServable ts

  pub AreServableClauses : Clauses → Type 0
  AreServableClauses trees.NoClause = Unit {0}
  AreServableClauses (trees.Clause patterns guard body others) = IsServable guard × IsServable body × AreServableClauses others

-- each body of these definitions is such an expression
abbrev pub HaveServableBodies : List DefinitionTree → Type 0
HaveServableBodies [] = Unit {0}
HaveServableBodies (d ∷ ds) = IsServable d.body × HaveServableBodies ds

-- each call of the world in a module has as many arguments as it takes
abbrev pub IsServableModule : ModuleTree → Type 0
IsServableModule m = HaveServableBodies m.definitions
