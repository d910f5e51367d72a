use Rattle.std.proofs.Common.{◌≡◌, false, rules}
use Rattle.world_model.specs.Names.{same_pid}
use Rattle.world_planned.proofs.Adding.{adds_then}
use Rattle.world_planned.proofs.Calling.{info_serves}
use Rattle.world_process_calls.proofs.telling.tell.Goals as goal

pub returns : goal.returns
returns c = λ m v told meant.
    let p = c.args.caller.now in
    let q = c.args.whom.now in
    let apart : false ≡ same_pid p q = search rules in
    info_serves v p q c.args.item false c.in_ok-told-2.told _ _ apart (c.in_ok-told-2.ensures m v told) (adds_then _ _ _ _ _ _ _ c.in_ok-read_other.ensures c.in_ok-read_item-2.ensures)
