use Rattle.std.proofs.Common.{option_copied, subst}
use Rattle.proc_machines.specs.Courses.{StandsAs}
use Rattle.proc_machines.proofs.course.run_on.Goals as goal

pub returns-clause-stands : goal.returns-clause-stands
returns-clause-stands c = λ m p course told. c.in_ok-resumed.ensures m p course (subst (λ o. StandsAs m p course (option_copied o)) c.in-Some.is told)
