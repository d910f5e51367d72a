use Rattle.std.proofs.Common.{◌+◌, ap, ◌∙◌}
use Rattle.proc_machines.specs.Courses.{turns_of}
use Rattle.proc_machines.proofs.Agreeing.{agrees_ended}
use Rattle.proc_machines.proofs.processes.Processes.end.Goals as goal

pub returns-clause-ok : goal.returns-clause-ok
returns-clause-ok c = λ m v reason told.
    agrees_ended m c.args.self.now c.close.new.self v c.args.pid.now reason c.in_ok-course.course c.in_ok-close.ensures.ok (c.in_ok-course.ensures.turns ∙ ap (λ o. turns_of o + 1) c.of.ensures) c.in_ok-course.ensures.gone told
