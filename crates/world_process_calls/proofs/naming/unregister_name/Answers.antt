use Rattle.std.proofs.Common.{◌∷◌, ◌∙◌, [], ap, refl, sym}
use Rattle.std.specs.Prelude.{option_copied}
use Rattle.world_model.specs.Changes.{NameCleared, HolderCleared}
use Rattle.world_planned.proofs.Adding.{adds_as, adds_then}
use Rattle.world_planned.proofs.Calling.{unregister_refuses, unregister_serves}
use Rattle.world_process_calls.proofs.naming.unregister_name.Goals as goal

pub returns-in_default : goal.returns-in_default
returns-in_default c = λ caller m v told meant. unregister_refuses v caller c.args.name _ _ (ap option_copied (sym c.in_default.is) ∙ c.holder.ensures m v told) c.in_ok-read_name.ensures

pub returns : goal.returns
returns c = λ caller m v told meant.
    unregister_serves v caller c.in-Some.whom.now c.args.name c.done.result _ _ (c.in-Some.ensures m v told) c.done.ensures
    (adds_as _ _ _ _ _ _ refl (ap (λ q. HolderCleared c.args.name ∷ NameCleared q ∷ []) c.in_ok-copy.ensures) (adds_then _ _ _ _ _ _ _ (adds_then _ _ _ _ _ _ _ c.in_ok-read_name.ensures c.in_ok-read_process.ensures) c.in_ok-change.ensures))
