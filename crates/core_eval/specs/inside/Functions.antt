-- The functions of the code's modules, as contracts see them.
use Rattle.std.specs.Prelude.{List}
use Rattle.core_tree.specs.Syntax.{Mention, Tree}
use Rattle.core_tree.specs.Tree.{tree_of}
use Rattle.core_tree.specs.declared.module.Definition.{Definition}

-- the parameters and the body of a definition
abbrev pub function_in : Definition → List Mention × Tree
function_in d = (d.parameters.items, tree_of d.body)
