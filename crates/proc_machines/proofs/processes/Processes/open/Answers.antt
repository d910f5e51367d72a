use Rattle.std.proofs.Common.{true, Some, if◌then◌else◌, refl, ap, ◌∙◌}
use Rattle.world_model.specs.Names.{same_pid}
use Rattle.proc_machines.specs.declared.course.Course.{Course}
use Rattle.proc_machines.proofs.Agreeing.{agrees_opened}
use Rattle.proc_machines.proofs.processes.Processes.open.Goals as goal

pub returns : goal.returns
returns c =
    let course : Course = record { machine = Some c.in_ok-first.field-0; turns = 0 } in
    agrees_opened c.args.program.now (record { program = c.args.program; courses = c.put.new.self; living = c.put-2.new.self; trapping = c.in_ok-new.field-0 }) course c.in_ok-pid.pid
    (c.in_ok-pid.ensures ∙ c.new.ensures.items) refl
    (λ q. c.in_ok-put-2.ensures.ok q ∙ ap (λ x. if same_pid c.in_ok-pid.pid q then true else x) (c.in_ok-living.ensures q)) c.in_ok-new.ensures
    (λ q. c.in_ok-put.ensures.ok q ∙ ap (λ x. if same_pid c.in_ok-pid.pid q then Some course else x) (c.in_ok-courses.ensures q)) refl c.in_ok-first.ensures
