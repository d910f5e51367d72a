use Rattle.std.proofs.Common.{true, Some, if◌then◌else◌, refl, ap, subst, ◌∙◌}
use Rattle.core_semantics.specs.Ask.{ask, entry}
use Rattle.core_eval.specs.Standing.{StandsAt}
use Rattle.world_model.specs.Names.{same_pid}
use Rattle.world_model.specs.Requests.{Spawned}
use Rattle.proc_machines.proofs.Agreeing.{agrees_begun}
use Rattle.proc_machines.proofs.processes.Processes.begin.Goals as goal

pub returns-clause-ok : goal.returns-clause-ok
returns-clause-ok c = λ m v told.
    let first = entry c.args.module_name.now c.args.function_name.now c.args.arguments in
    agrees_begun m c.args.self.now (record { program = c.args.self.now.program; courses = c.put-2.new.self; living = c.put.new.self; trapping = c.args.self.now.trapping }) v c.args.child.now
    (Spawned c.args.module_name.now c.args.function_name.now c.args.arguments) (record { machine = Some c.in_ok-machine.machine; turns = 0 }) refl
    (λ q. c.in_ok-put.ensures.ok q ∙ ap (λ x. if same_pid c.args.child.now q then true else x) (c.in_ok-living.ensures q)) (λ _. refl) c.in_ok-put-2.ensures.ok refl (
      c.in_ok-machine.ensures.program ∙ told.program,
      subst (λ n. StandsAt c.in_ok-machine.machine (ask n c.args.child.now first)) told.program
          (subst (λ p. StandsAt c.in_ok-machine.machine (ask c.args.self.now.program.now p first)) c.in_ok-copy.ensures c.in_ok-machine.ensures.stands),
    ) told
