use Rattle.world_model.specs.Names.{ref_of}
use Rattle.world_planned.proofs.Calling.{reading_serves}
use Rattle.world_process_calls.proofs.guarding.ask_timer.Goals as goal

pub returns : goal.returns
returns c = λ caller m v told meant.
    reading_serves v caller (ref_of c.args.reference.now) _ c.time_left-left.result c.told_left.result _ _ (c.guard-guard.ensures m v told) (c.time_left-left.ensures m v told) c.told_left.ensures c.in_ok-read_timer_cells.ensures
