-- Modules as contracts see them (Core Erlang 1.0.3, "Modules"), and the trees that they are made of.
use Rattle.std.specs.Prelude.{ℕ, List}
pub use Rattle.core_tree.specs.Named.{Mention, Function, NamedAt}
pub use Rattle.core_tree.specs.Callee.{Callee}
pub use Rattle.core_tree.specs.Pattern.{Pattern, Patterns, patterns_of}
pub use Rattle.core_tree.specs.Expression.{Tree, Trees, Clauses, trees_of, ClauseTree, clauses_of}
pub use Rattle.core_tree.specs.Constant.{Constant, Constants, constants_of}

-- a name and the constant that it stands for
pub record AttributeTree : Type 0 where
  pub name : List ℕ
  pub value : Constant

-- the definition of a function
pub record DefinitionTree : Type 0 where
  pub named : NamedAt
  pub parameters : List Mention
  pub body : Tree

-- a module
pub record ModuleTree : Type 0 where
  pub name : List ℕ
  pub exports : List NamedAt
  pub attributes : List AttributeTree
  pub definitions : List DefinitionTree
