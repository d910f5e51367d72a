-- The lesser of two schedules: it does not matter in which order they come.
use Rattle.std.proofs.Common.{◌≡◌, ◌↔◌, Bool, true, false, List, if◌then◌else◌, refl, sym, ap, ◌∙◌}
use Rattle.std.proofs.lemmas.Cmp.{upto, tied_itself}
use Rattle.std.specs.Ordering.{is_gt, ordering_reverse}
use Rattle.std.specs.declared.cmp.Ordering.{Ordering}
use Rattle.std.specs.declared.cmp.Ordering.TheVariants.{Less, Equal, Greater}
use Rattle.term_core.specs.StepOrder.{order_of_schedules}
use Rattle.term_core.specs.declared.step.Step.{Step}
use Rattle.term_core.specs.inside.StepOrderLaws.{schedules_total, same_schedule}
use Rattle.tree_coverage.specs.Findings.{lesser}

turned : (s t : List Step) (o : Ordering) → order_of_schedules s t ≡ o → order_of_schedules t s ≡ ordering_reverse o
turned s t o e = schedules_total.antisymm t s ∙ ap ordering_reverse e

is_greater : (o : Ordering) → is_gt o ≡ true → o ≡ Greater
is_greater Less e = absurd cc
is_greater Equal e = absurd cc
is_greater Greater e = refl

chained : (r s t : List Step) → is_gt (order_of_schedules r s) ≡ true → is_gt (order_of_schedules s t) ≡ true → is_gt (order_of_schedules r t) ≡ true
chained r s t p q =
    let sr : order_of_schedules s r ≡ Less = turned r s Greater (is_greater (order_of_schedules r s) p) in
    let ts : order_of_schedules t s ≡ Less = turned s t Greater (is_greater (order_of_schedules s t) q) in
    ap is_gt (turned t r Less (schedules_total.trans t s r ts sr))

first : (s t : List Step) → is_gt (order_of_schedules s t) ≡ false → lesser s t ≡ s
first s t e = ap (λ (b : Bool). if b then t else s) e

second : (s t : List Step) → is_gt (order_of_schedules s t) ≡ true → lesser s t ≡ t
second s t e = ap (λ (b : Bool). if b then t else s) e

pub lesser_comm : (s t : List Step) → lesser s t ≡ lesser t s
lesser_comm s t = go (order_of_schedules s t) refl
  where
    go : (o : Ordering) → order_of_schedules s t ≡ o → lesser s t ≡ lesser t s
    go Less e = first s t (ap is_gt e) ∙ sym (second t s (ap is_gt (turned s t Less e)))
    go Equal e = first s t (ap is_gt e) ∙ same_schedule s t e ∙ sym (first t s (ap is_gt (turned s t Equal e)))
    go Greater e = second s t (ap is_gt e) ∙ sym (first t s (ap is_gt (turned s t Greater e)))

-- the second stays just where it is not greater than the first
pub second_stays : (s t : List Step) → (is_gt (order_of_schedules t s) ≡ false) ↔ (lesser s t ≡ t)
second_stays s t = (λ e. lesser_comm s t ∙ first t s e, λ e. go (order_of_schedules t s) refl e)
  where
    go : (o : Ordering) → order_of_schedules t s ≡ o → lesser s t ≡ t → is_gt (order_of_schedules t s) ≡ false
    go Less p e = ap is_gt p
    go Equal p e = ap is_gt p
    go Greater p e =
        let same : s ≡ t = sym (second t s (ap is_gt p)) ∙ lesser_comm t s ∙ e in
        ap (λ (r : List Step). is_gt (order_of_schedules t r)) same ∙ ap is_gt (tied_itself schedules_total t)

pub lesser_assoc : (r s t : List Step) → lesser (lesser r s) t ≡ lesser r (lesser s t)
lesser_assoc r s t = go (is_gt (order_of_schedules r s)) (is_gt (order_of_schedules s t)) refl refl
  where
    left : (x y : List Step) → x ≡ y → lesser x t ≡ lesser y t
    left x y e = ap (λ (z : List Step). lesser z t) e

    right : (x y : List Step) → x ≡ y → lesser r x ≡ lesser r y
    right x y e = ap (lesser r) e

    go : (x y : Bool) → is_gt (order_of_schedules r s) ≡ x → is_gt (order_of_schedules s t) ≡ y → lesser (lesser r s) t ≡ lesser r (lesser s t)
    go false false e f = left _ _ (first r s e) ∙ first r t (upto schedules_total r s t e f) ∙ sym (right _ _ (first s t f) ∙ first r s e)
    go false true e f = left _ _ (first r s e) ∙ sym (right _ _ (second s t f))
    go true false e f = left _ _ (second r s e) ∙ first s t f ∙ sym (right _ _ (first s t f) ∙ second r s e)
    go true true e f = left _ _ (second r s e) ∙ second s t f ∙ sym (right _ _ (second s t f) ∙ second r t (chained r s t e f))

-- the first two of three change places
pub lesser_swap : (r s t : List Step) → lesser r (lesser s t) ≡ lesser s (lesser r t)
lesser_swap r s t = sym (lesser_assoc r s t) ∙ ap (λ (x : List Step). lesser x t) (lesser_comm r s) ∙ lesser_assoc s r t
