-- What several values are evaluated for.
use Rattle.core_tree.specs.Syntax.{Callee, Tree}

-- the parts of a tuple, the items of a list, those in front of a tail, the arguments of a call, or several values
pub data Purpose : Type 0 where
  Tuple : Purpose
  List : Purpose
  Onto : (tail : Tree) → Purpose
  Call : (callee : Callee) → Purpose
  Values : Purpose
