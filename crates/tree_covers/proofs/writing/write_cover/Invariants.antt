use Rattle.std.proofs.Common.{◌≡◌, false, length}
use Rattle.tree_coverage.specs.Covers.{cover_of, lines_of}
use Rattle.tree_coverage.specs.Jobs.{root}
use Rattle.tree_covers.specs.CoverText.{text_of_cover, text_of_lines}
use Rattle.tree_covers.specs.inside.Owned.{own_lines_of}
use Rattle.term_core.specs.inside.Writing.{Owes}
use Rattle.world_model.specs.Asking.{program_of}
use Rattle.tree_covers.proofs.writing.write_cover.Given as goal

-- the lines of the nodes that are to come are still to be written
abbrev pub invariant-loop-walk : goal.invariant-loop-walk
invariant-loop-walk g l = record {
  sound : g.W.Sink.has_failed l.sink ≡ false;
  owes : Owes (g.W.Sink.contents l.fn.sink) (g.W.Sink.contents l.sink) (text_of_lines (own_lines_of (program_of l.program) l.walk.ahead)) (text_of_cover (lines_of (cover_of (program_of l.program) l.depth root)));
  program : l.walk.program ≡ l.program;
}

abbrev pub decreases-loop-walk : goal.decreases-loop-walk
decreases-loop-walk g l = length (own_lines_of (program_of l.program) l.walk.ahead)
