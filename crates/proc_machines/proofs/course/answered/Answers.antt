use Rattle.std.proofs.Common.{subst, sym}
use Rattle.proc_machines.specs.Courses.{StandsAs}
use Rattle.proc_machines.proofs.course.answered.Goals as goal

pub returns-clause-stands : goal.returns-clause-stands
returns-clause-stands c = λ m p course told. c.in_ok-machine.ensures.stands m p course (subst (StandsAs m p course) (sym c.machine_of.ensures) told)
