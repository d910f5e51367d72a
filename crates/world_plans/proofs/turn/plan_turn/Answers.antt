use Rattle.std.proofs.Common.{◌∙◌, sym, ap, subst}
use Rattle.core_eval.specs.Requests.{told_by}
use Rattle.proc_machines.specs.Processes as processes
use Rattle.proc_machines.specs.Processes.{lives_in, request_with, selects_in}
use Rattle.world_plans.proofs.Turning.{asked_plans, if_ok, same_in}
use Rattle.world_plans.proofs.turn.plan_turn.Goals as goal

pub returns : goal.returns
returns c = if_ok c.plan_request.result _ _ (λ deed plans m v told names lives.
    let p = c.args.pid.now in
    let held = subst (λ ps. processes.Agrees m ps v) (sym c.processes.ensures) told.processes_are in
    let living = ap (λ ps. lives_in ps p) c.processes.ensures ∙ told.processes_are.alive p ∙ lives in
    let request = same_in _ _ (c.in-Some.ensures.asked m v held living) in
    asked_plans v p _ _ deed _ _ (ap (λ ps. request_with (selects_in ps p) (told_by c.in-Some.request.now)) (sym c.processes.ensures) ∙ request) (plans m v told names lives)) c.plan_request.ensures
