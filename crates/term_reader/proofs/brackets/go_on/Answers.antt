use Rattle.std.proofs.Common.{arith}
use Rattle.term_reader.proofs.Marks.{bad_continues, no_end_item, nothing}
use Rattle.term_reader.proofs.brackets.go_on.Goals as goal

pub returns-in_default : goal.returns-in_default
returns-in_default c = bad_continues _ _ _ _ _ (omega arith) (no_end_item _ _ _ _ (nothing _ c.in_default.ensures.cases))
