use Rattle.std.proofs.Common.{ap, is_some, ◌∙◌}
use Rattle.proc_machines.specs.Courses.{standing_of}
use Rattle.proc_machines.proofs.Agreeing.{machines_live, some_copied}
use Rattle.proc_machines.proofs.processes.Processes.machine.Goals as goal

pub returns-clause-there : goal.returns-clause-there
returns-clause-there c = λ m v told.
    some_copied c.machine_of.result ∙ ap is_some (c.machine_of.ensures ∙ ap standing_of c.of.ensures) ∙ machines_live m c.args.self.now v c.args.pid.now told
