use Rattle.std.proofs.Common.{[], ◌++◌, ◌∙◌, append_assoc, ap, refl}
use Rattle.world_model.specs.Names.{ref_of, same_pid}
use Rattle.world_model.specs.ProcessLines.{alias_begins, alias_beside, gone_told, watch_begins}
use Rattle.world_planned.proofs.Adding.{adds_as, adds_then}
use Rattle.world_planned.proofs.Calling.{watch_serves}
use Rattle.world_process_calls.proofs.binding.watch.Goals as goal

pub returns : goal.returns
returns c = λ m v told meant.
    let p = c.args.caller.now in
    let q = c.args.whom.now in
    let ref = ref_of c.in_ok-reference.reference in
    let begins = watch_begins ref q in
    let alias = alias_begins p ref c.alias_beside-begun.result in
    let gone = gone_told c.lives-lives.result p q ref in
    watch_serves v p q ref c.lives-lives.result c.args.alias _ _ _ (c.in_ok-reference.ensures m v told) (c.lives-lives.ensures m v told) refl
    (adds_then _ _ _ _ _ _ _ c.in_ok-read_process.ensures (adds_as [] [] ((begins ++ alias) ++ gone) (begins ++ (alias_begins p ref (alias_beside (same_pid p q) c.args.alias) ++ gone)) _ _ refl (append_assoc begins alias gone ∙ ap (λ a. begins ++ (alias_begins p ref a ++ gone)) c.alias_beside-begun.ensures) (adds_then [] [] (begins ++ alias) gone _ _ _ c.in_ok-begin_watch.ensures c.in_ok-tell_gone.ensures)))
