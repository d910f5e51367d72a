use Rattle.std.proofs.Common.{[], option_map, refl}
use Rattle.std.specs.Prelude.{option_copied}
use Rattle.proc_links.specs.Guards.{guard_of}
use Rattle.world_model.specs.Guards.{timer_in}
use Rattle.world_model.specs.Names.{ref_of}
use Rattle.world_model.specs.ProcessLines.{timer_ends, timer_reads}
use Rattle.world_planned.proofs.Adding.{adds_as, adds_then, end_nil}
use Rattle.world_planned.proofs.Calling.{cancel_serves}
use Rattle.world_process_calls.proofs.guarding.cancel.Goals as goal

pub returns : goal.returns
returns c = λ caller m v told meant.
    let ref = ref_of c.args.reference.now in
    let timer = timer_in (option_map guard_of (option_copied c.guard-guard.result)) in
    cancel_serves v caller ref (option_map guard_of (option_copied c.guard-guard.result)) c.time_left-left.result c.told_left.result _ _ (c.guard-guard.ensures m v told) (c.time_left-left.ensures m v told) c.told_left.ensures
    (adds_as _ _ _ _ _ _ (end_nil (timer_reads ref timer)) refl (adds_then (timer_reads ref timer) [] [] (timer_ends ref timer) _ _ _ c.in_ok-read_timer_cells.ensures c.in_ok-end_timer.ensures))
