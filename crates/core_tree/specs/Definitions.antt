-- The definitions of a module's map, as contracts see them.
use Rattle.std.specs.Prelude.{List, map}
use Rattle.core_tree.specs.Syntax.{Function, DefinitionTree}
use Rattle.core_tree.specs.Tree.{tree_of}
use Rattle.core_tree.specs.declared.module.Definition.{Definition}

-- a name and what it is defined as
abbrev pub definition_of : Function × Definition → DefinitionTree
definition_of e = record { named = record { at = e.1.at; function = e.0 }; parameters = e.1.parameters.items; body = tree_of e.1.body }

-- the names that are defined
abbrev pub keys_in : List (Function × Definition) → List Function
keys_in es = map (λ e. e.0) es
