use Rattle.std.proofs.Common.{Some, option_map, sym, subst}
use Rattle.proc_calls.specs.Arguments.{flushes}
use Rattle.world_model.specs.Names.{ref_of}
use Rattle.world_model.specs.Calls as calls
use Rattle.world_planned.specs.inside.PlannedCalls.{IsPlanned}
use Rattle.world_planned.specs.declared.reply.Reply.TheVariants.{Served}
use Rattle.world_planned.proofs.Calling.{unwatch_serves}
use Rattle.world_process_calls.proofs.binding.unwatch.Goals as goal

pub returns : goal.returns
returns c = λ m v told meant.
    let p = c.args.caller.now in
    let ref = ref_of c.args.reference.now in
    subst (λ o. IsPlanned v p (calls.Demonitor (Some ref) (option_map flushes o)) (Served c.done.result) c.args.planned.now c.flush_if.new.planned) (sym c.in-Some.is)
    (unwatch_serves v p ref (flushes c.in-Some.flushing) _ c.done.result _ _ _ _ (c.watched-target.ensures m v told) c.done.ensures c.in_ok-read_watch.ensures c.in_ok-end_watch.ensures (c.in_ok-flush_if.ensures m v told))
