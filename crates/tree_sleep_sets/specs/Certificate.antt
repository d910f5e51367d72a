-- A tree that is written down: at each node the steps that are taken, in any order.
use Rattle.std.specs.Prelude.{List, [], ◌∷◌}
use Rattle.tree_sleep_sets.specs.System.{System}
use Rattle.tree_sleep_sets.specs.Tree.{Plan}

mutual
  pub data Cover (X : Type 0) : Type 0 where
    Node : (children : Children X) → Cover X

  pub data Children (X : Type 0) : Type 0 where
    NoMore : Children X
    Also : (step : X) (below : Cover X) (others : Children X) → Children X

-- the children as a list
abbrev pub list_of : {X : Type 0} → Children X → List (X × Cover X)
list_of NoMore = []
list_of (Also a c cs) = (a, c) ∷ list_of cs

-- the line of a node
abbrev pub line_of : {X : Type 0} → Cover X → List (X × Cover X)
line_of (Node cs) = list_of cs

-- the tree goes on as it is written down
abbrev pub written : (S : System) → Plan S
written S = record { Place = Cover S.Step; line = λ c w slept. line_of c }

-- a node with no children
abbrev pub leaf : {X : Type 0} → Cover X
leaf = Node NoMore
