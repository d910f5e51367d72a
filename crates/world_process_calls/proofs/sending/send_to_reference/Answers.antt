use Rattle.std.proofs.Common.{◌∙◌, ap, refl, sym}
use Rattle.std.specs.Prelude.{option_copied}
use Rattle.term_core.specs.Term.{meaning_of}
use Rattle.world_model.specs.Cells as cells
use Rattle.world_model.specs.Events.{Guarded}
use Rattle.world_model.specs.Names.{ref_of}
use Rattle.world_model.specs.Signals.{put_if}
use Rattle.world_planned.proofs.Adding.{adds_as, adds_then}
use Rattle.world_planned.proofs.Calling.{aliased_serves, bare_serves}
use Rattle.world_process_calls.proofs.sending.send_to_reference.Goals as goal

pub returns-in_default : goal.returns-in_default
returns-in_default c = λ m v told meant. bare_serves v c.args.caller.now (ref_of c.args.reference.now) (meaning_of c.args.message) c.args.message _ _ (ap option_copied (sym c.in_default.is) ∙ c.aliased.ensures m v told) refl c.in_ok-read_reference.ensures

pub returns : goal.returns
returns c = λ m v told meant.
    aliased_serves v c.args.caller.now c.in-Some.owner.now (ref_of c.args.reference.now) (meaning_of c.args.message) c.in_ok-answer.answer _ _ (c.in-Some.ensures m v told) c.in_ok-answer.ensures
    (adds_then _ _ _ _ _ _ _ c.in_ok-read_reference.ensures
    (adds_as _ _ _ _ _ _ refl (ap (λ id. put_if (v (cells.Alive c.in-Some.owner.now)) c.args.caller.now c.in-Some.owner.now (Guarded (ref_of id) (meaning_of c.args.message))) c.in_ok-copy.ensures) (c.in_ok-put.ensures m v told)))
