use Rattle.proc_calls.specs.Arguments.{origin_in, way_in}
use Rattle.world_model.specs.Names.{ref_of}
use Rattle.world_planned.proofs.Adding.{adds_then}
use Rattle.world_planned.proofs.Calling.{spawn_serves}
use Rattle.world_planned.proofs.spawning.begin.Goals as goal

pub returns : goal.returns
returns c = λ m v told meant.
    spawn_serves v c.args.caller.now c.in_ok-child.child (ref_of c.in_ok-reference.reference) (way_in c.args.way) (origin_in c.args.origin) c.in_ok-answer.answer _ _ (c.in_ok-child.ensures m v told) (c.in_ok-reference.ensures m v told) c.in_ok-answer.ensures
    (adds_then _ _ _ _ _ _ _ c.in_ok-begin_in.ensures c.in_ok-bind.ensures)
