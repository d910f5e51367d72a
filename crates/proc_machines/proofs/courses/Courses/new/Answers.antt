use Rattle.proc_machines.proofs.Ordered.{none_in_order}
use Rattle.proc_machines.proofs.courses.Courses.new.Goals as goal

pub invariant_of-new : goal.invariant_of-new
invariant_of-new c = record { in_order = none_in_order c.new.result.items c.new.ensures.items }
