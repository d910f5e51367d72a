use Rattle.std.proofs.Common.{◌∙◌, ap, refl, sym}
use Rattle.std.specs.Prelude.{option_copied}
use Rattle.world_model.specs.Names.{ref_of}
use Rattle.world_planned.proofs.Adding.{adds_then}
use Rattle.world_planned.proofs.Calling.{holder_serves, no_holder_serves}
use Rattle.world_process_calls.proofs.binding.watch_name.Goals as goal

pub returns-in_default : goal.returns-in_default
returns-in_default c = λ m v told meant.
    let begun = c.in_ok-reference.ensures m v told in
    no_holder_serves v c.args.caller.now c.args.name (ref_of c.in_ok-reference.reference) c.args.alias _ _ _ (ap option_copied (sym c.in_default.is) ∙ c.holder.ensures m v told) begun.0 refl
    (adds_then _ _ _ _ _ _ _ c.in_ok-read_name.ensures begun.1)

pub returns : goal.returns
returns c = λ m v told meant.
    let begun = c.in_ok-begun.ensures m v told in
    holder_serves v c.args.caller.now c.in-Some.whom.now c.args.name (ref_of c.in_ok-begun.begun) c.args.alias _ _ _ (c.in-Some.ensures m v told) begun.0 refl
    (adds_then _ _ _ _ _ _ _ c.in_ok-read_name.ensures begun.1)
