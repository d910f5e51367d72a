use Rattle.std.proofs.Common.{length, ◌-◌}
use Rattle.search_agenda.proofs.above.place_from.Given as goal

abbrev pub decreases-loop-place : goal.decreases-loop-place
decreases-loop-place l = length l.plans - l.place
