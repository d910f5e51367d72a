use Rattle.std.specs.Prelude.{option_copied}
use Rattle.world_model.specs.Names.{ref_of}
use Rattle.world_planned.proofs.Adding.{adds_then}
use Rattle.world_planned.proofs.Calling.{unalias_serves}
use Rattle.world_process_calls.proofs.guarding.end_alias.Goals as goal

pub returns : goal.returns
returns c = λ m v told meant.
    unalias_serves v c.args.caller.now (ref_of c.args.reference.now) c.is_alias-stands.result (option_copied c.watch_name.result) c.truth.result _ _ (c.is_alias-stands.ensures m v told) (c.watch_name.ensures m v told) c.truth.ensures
    (adds_then _ _ _ _ _ _ _ c.in_ok-read_reference.ensures c.in_ok-end_if.ensures)
