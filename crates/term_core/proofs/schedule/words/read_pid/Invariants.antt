use Rattle.std.proofs.Common.{length}
use Rattle.term_core.proofs.PidTexts.{ReadsPid}
use Rattle.term_core.proofs.schedule.words.read_pid.Given as goal

abbrev pub invariant-numbers : goal.invariant-numbers
invariant-numbers l = ReadsPid l.text l.numbers.items l.rest

abbrev pub decreases-numbers : goal.decreases-numbers
decreases-numbers l = length l.rest
