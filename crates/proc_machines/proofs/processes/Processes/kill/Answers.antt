use Rattle.std.proofs.Common.{ap, ◌∙◌}
use Rattle.proc_machines.specs.Courses.{turns_of}
use Rattle.proc_machines.proofs.Agreeing.{agrees_killed}
use Rattle.proc_machines.proofs.processes.Processes.kill.Goals as goal

pub returns-clause-ok : goal.returns-clause-ok
returns-clause-ok c = λ m v reason told.
    agrees_killed m c.args.self.now c.close.new.self v c.args.pid.now reason c.killed-course.result c.in_ok-close.ensures.ok (c.killed-course.ensures.turns ∙ ap turns_of c.of.ensures) c.killed-course.ensures.gone told
