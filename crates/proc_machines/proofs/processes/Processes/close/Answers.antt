use Rattle.std.proofs.Common.{false, if◌then◌else◌, refl, ap, ◌∙◌}
use Rattle.world_model.specs.Names.{same_pid}
use Rattle.proc_machines.proofs.processes.Processes.close.Goals as goal

pub returns-clause-ok : goal.returns-clause-ok
returns-clause-ok c = record {
  program = refl;
  alive = λ q. c.in_ok-take.ensures.ok q ∙ ap (λ x. if same_pid c.args.pid.now q then false else x) (c.in_ok-living.ensures q);
  trap = λ _. refl;
  courses = c.in_ok-put.ensures.ok;
}
