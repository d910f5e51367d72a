-- Stacks of what is still to do, without the places of code in the text.
use Rattle.std.specs.Prelude.{List, map}
use Rattle.core_tree.specs.Sameness.{bare_callee, bare_clause, bare_mention, bare_tree}
use Rattle.core_stack.specs.Holes.{Purpose, Hole}
use Rattle.core_stack.specs.Purposes as purposes
use Rattle.core_stack.specs.Holes as holes

-- what several values are evaluated for
abbrev pub bare_purpose : Purpose → Purpose
bare_purpose purposes.Tuple = purposes.Tuple
bare_purpose purposes.List = purposes.List
bare_purpose (purposes.Onto t) = purposes.Onto (bare_tree t)
bare_purpose (purposes.Call callee) = purposes.Call (bare_callee callee)
bare_purpose purposes.Values = purposes.Values

-- what is left out
abbrev pub bare_hole : Hole → Hole
bare_hole (holes.Parts purpose done later) = holes.Parts (bare_purpose purpose) done (map bare_tree later)
bare_hole (holes.Tail items) = holes.Tail items
bare_hole (holes.Body variables body) = holes.Body (map bare_mention variables) (bare_tree body)
bare_hole (holes.Second second) = holes.Second (bare_tree second)
bare_hole (holes.Clauses clauses) = holes.Clauses (map bare_clause clauses)
bare_hole (holes.Guard bindings body others values) = holes.Guard bindings (bare_tree body) (map bare_clause others) values
bare_hole (holes.Receive clauses action) = holes.Receive (map bare_clause clauses) (bare_tree action)
bare_hole (holes.Try variables body caught handler) = holes.Try (map bare_mention variables) (bare_tree body) (map bare_mention caught) (bare_tree handler)
bare_hole holes.Catch = holes.Catch
bare_hole (holes.Kept bindings) = holes.Kept bindings
bare_hole (holes.Applied bindings) = holes.Applied bindings

-- a stack
abbrev pub bare_holes : List Hole → List Hole
bare_holes = map bare_hole
