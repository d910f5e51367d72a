use Rattle.std.proofs.Common.{refl}
use Rattle.world_model.specs.Names.{ref_of}
use Rattle.world_planned.proofs.Calling.{alias_serves}
use Rattle.world_process_calls.proofs.guarding.new_alias.Goals as goal

pub returns : goal.returns
returns c = λ m v told meant. alias_serves v c.args.caller.now (ref_of c.in_ok-reference.reference) c.args.end _ _ _ (c.in_ok-reference.ensures m v told) refl c.in_ok-set_alias.ensures
