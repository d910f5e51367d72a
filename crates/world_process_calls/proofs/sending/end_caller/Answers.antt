use Rattle.std.proofs.Common.{sym, subst}
use Rattle.proc_links.specs.Links.{AreLinks}
use Rattle.world_planned.proofs.Adding.{adds_then}
use Rattle.world_planned.proofs.Seeing.{sees_now}
use Rattle.world_process_calls.proofs.sending.end_caller.Goals as goal

pub returns : goal.returns
returns c = λ m v told.
    let ended = c.in_ok-leave.ensures v (sees_now m c.args.records.now c.links.result.now v told (subst (λ l. AreLinks l v) (sym c.links.ensures) told.links_are)) in
    adds_then _ _ _ _ _ _ _ c.in_ok-read_process.ensures ended
