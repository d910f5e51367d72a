use Rattle.term_reader.proofs.LeafReads.{no_pid}
use Rattle.term_reader.proofs.leaves.read_pid.Goals as goal

pub returns-in_default : goal.returns-in_default
returns-in_default c = no_pid c.args.numbers.now (rw c.in_default.is at c.in_ok-numbers.ensures)
