-- A step is enabled where it is listed.
use Rattle.std.proofs.Common.{◌≡◌, Bool, true, false, refl, sym, ap, ◌∙◌}
use Rattle.std.proofs.lemmas.Cmp.{tied_itself}
use Rattle.std.specs.Ordering.{is_eq}
use Rattle.term_core.specs.inside.StepOrderLaws.{steps_total}
use Rattle.term_core.specs.declared.step.Step.{Step}
use Rattle.world_model.specs.Events.{History}
use Rattle.world_model.specs.Requests.{Program}
use Rattle.world_model.specs.Run.{is_enabled, enabled_steps}
use Rattle.world_model.proofs.Opened.{enabled_listed, listed_enabled}
use Rattle.tree_coverage.specs.Covers.{is_one_of}
use Rattle.tree_coverage.specs.Explored.{same_step}
use Rattle.tree_coverage.proofs.CoverLaws.{one_of}
use Rattle.tree_coverage.proofs.Lists.{found_by, from_theory}

itself : (s : Step) → same_step s s ≡ true
itself s = ap is_eq (tied_itself steps_total s)

pub listed : (a : Program) (h : History) (s : Step) → is_one_of (enabled_steps a h) s ≡ is_enabled a h s
listed a h s = go (is_one_of (enabled_steps a h) s) (is_enabled a h s) refl refl
  where
    go : (x y : Bool) → is_one_of (enabled_steps a h) s ≡ x → is_enabled a h s ≡ y → x ≡ y
    go true true e f = refl
    go false false e f = refl
    go true false e f = sym (listed_enabled a h s (from_theory (enabled_steps a h) s (one_of (enabled_steps a h) s e))) ∙ f
    go false true e f = sym e ∙ found_by same_step itself (enabled_steps a h) s (enabled_listed a h s f)
