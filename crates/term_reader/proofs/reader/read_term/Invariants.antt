use Rattle.std.proofs.Common.{length}
use Rattle.term_reader.specs.inside.Marks.{rest_of}
use Rattle.term_reader.proofs.Marks.{Holds}
use Rattle.term_reader.proofs.reader.read_term.Given as goal

abbrev pub invariant-marks : goal.invariant-marks
invariant-marks l = Holds l.text l.state

abbrev pub decreases-marks : goal.decreases-marks
decreases-marks l = length (rest_of l.state)
