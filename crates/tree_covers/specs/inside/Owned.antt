-- The lines that the search writes for the nodes that are to come.
use Rattle.std.specs.Prelude.{List, [], ◌∷◌, ◌++◌}
use Rattle.world_model.specs.Requests.{Program}
use Rattle.tree_coverage.specs.Covers.{Lines, lines_of}
use Rattle.tree_coverage.specs.Jobs.{nodes_from}
use Rattle.tree_covers.specs.Judging.{Place}

-- those of one node and of all below it, whatever schedule leads there
abbrev pub own_lines : Program → Place → Lines
own_lines a v = lines_of (nodes_from a v.left v.history [] v.slept)

abbrev pub own_lines_of : Program → List Place → Lines
own_lines_of a [] = []
own_lines_of a (v ∷ places) = own_lines a v ++ own_lines_of a places
