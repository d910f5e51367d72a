-- What a comparison of schedules says.
use Rattle.std.proofs.Common.{◌≡◌, Bool, true, false, List, sym, ap, ◌∙◌}
use Rattle.std.proofs.lemmas.Cmp.{tied_itself}
use Rattle.std.specs.Ordering.{is_eq}
use Rattle.std.specs.declared.cmp.Ordering.{Ordering}
use Rattle.std.specs.declared.cmp.Ordering.TheVariants.{Less, Equal, Greater}
use Rattle.term_core.specs.StepOrder.{order_of_schedules}
use Rattle.term_core.specs.declared.step.Step.{Step}
use Rattle.term_core.specs.inside.StepOrderLaws.{same_schedule, schedules_total}

equal_is : (o : Ordering) → is_eq o ≡ true → o ≡ Equal
equal_is Less e = absurd (cc)
equal_is Equal e = λ _. Equal
equal_is Greater e = absurd (cc)

pub are_same : (a b : List Step) (o : Ordering) (r : Bool) → o ≡ order_of_schedules a b → r ≡ is_eq o → r ≡ true → a ≡ b
are_same a b o r compared tested told = same_schedule a b (sym compared ∙ equal_is o (sym tested ∙ told))

pub are_other : (a b : List Step) (o : Ordering) (r : Bool) → o ≡ order_of_schedules a b → r ≡ is_eq o → r ≡ false → a ≡ b → ⊥
are_other a b o r compared tested told same =
    let tied : is_eq o ≡ true = ap is_eq (compared ∙ ap (order_of_schedules a) (sym same) ∙ tied_itself schedules_total a) in
    let other : is_eq o ≡ false = sym tested ∙ told in
    (cc)
