use Rattle.std.proofs.Common.{length}
use Rattle.term_core.proofs.ScheduleTexts.{ReadsSteps}
use Rattle.term_core.proofs.schedule.read_steps.Given as goal

abbrev pub invariant-steps : goal.invariant-steps
invariant-steps l = ReadsSteps l.text l.steps.items l.rest

abbrev pub decreases-steps : goal.decreases-steps
decreases-steps l = length l.rest
