use Rattle.std.proofs.Common.{◌∙◌, sym, ap, subst, true≢false}
use Rattle.proc_machines.specs.Processes as processes
use Rattle.proc_machines.specs.Processes.{lives_in}
use Rattle.world_plans.proofs.turn.selected.Goals as goal

pub returns-in_default : goal.returns-in_default
returns-in_default c = λ m v told lives.
    let p = c.args.pid.now in
    absurd (true≢false (sym (told.processes_are.alive p ∙ lives) ∙ sym (ap (λ ps. lives_in ps p) c.processes.ensures) ∙ sym (c.in_default.ensures.there m v (subst (λ ps. processes.Agrees m ps v) (sym c.processes.ensures) told.processes_are))))
