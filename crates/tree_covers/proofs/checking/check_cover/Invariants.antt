use Rattle.std.proofs.Common.{◌≡◌, ◌+◌, ◌≤◌, length}
use Rattle.tree_covers.specs.CoverText.{lines_in}
use Rattle.tree_covers.specs.Faults.{StandsAt}
use Rattle.tree_excuses.specs.Excuses.{counts, excuses_in}
use Rattle.world_identities.specs.Identities.{flags_in}
use Rattle.world_model.specs.Asking.{program_of}
use Rattle.tree_covers.proofs.checking.check_cover.Given as goal

-- all lines so far are good, and the walk has the nodes of the others
abbrev pub invariant-loop-line : goal.invariant-loop-line
invariant-loop-line g l = record {
  stands : StandsAt (counts (flags_in l.flags) (excuses_in l.excuses)) (program_of l.program) l.depth l.bytes l.number l.walk.ahead (lines_in l.rest);
  program : l.walk.program ≡ l.program;
  counted : l.number + length l.rest ≤ length l.bytes + 1;
}

abbrev pub decreases-loop-line : goal.decreases-loop-line
decreases-loop-line g l = length l.rest
