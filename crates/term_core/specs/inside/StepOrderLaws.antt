-- The orders of references, steps and schedules are total, and answer Equal only where the two are the same.
use Rattle.std.specs.Prelude.{◌≡◌, ◌∷◌, [], ℕ, List, ℤ, pos, length}
use Rattle.std.proofs.Common.{refl, ◌∙◌, subst}
use Rattle.std.specs.declared.cmp.Ordering.TheVariants.{Equal}
use Rattle.std.specs.Ordering.{ordering_then}
use Rattle.std.specs.Cmp.{IsTotalOrder, nat_cmp_total, int_cmp_total, on_total, then_total}
use Rattle.std.specs.Cmp.Lexicographic.{slice_cmp, lists_total, nat_list_cmp_total}
use Rattle.term_core.specs.Order.{order_of_lists}
use Rattle.term_core.specs.StepOrder.{order_of_reference_ids, order_of_steps, order_of_schedules}
use Rattle.term_core.specs.declared.step.Step.{Step}
use Rattle.term_core.specs.declared.step.Step.TheVariants.{Turn, Deliver}
use Rattle.term_core.specs.inside.OrderLaws.{first_Equal, second_Equal, then_Equal, same_list, same_number, list_code, code_cmp, code_cmp-list}

-- the order of references is total
pub reference_ids_total : IsTotalOrder order_of_reference_ids
reference_ids_total = then_total (on_total (λ r. r.0) nat_list_cmp_total) (on_total (λ r. r.1) nat_cmp_total)

-- Equal references are the same
pub same_reference_id : (a b : List ℕ × ℕ) → order_of_reference_ids a b ≡ Equal → a ≡ b
same_reference_id a b e =
    λ i. (same_list a.0 b.0 (first_Equal _ _ e) i, same_number a.1 b.1 (second_Equal _ _ e) i)

-- a code that no other step's begins
abbrev step_code : Step → List ℤ
step_code (Turn p) = pos 0 ∷ list_code p []
step_code (Deliver from to) = pos 1 ∷ list_code from (list_code to [])

-- codes of steps are ordered as the steps
code_cmp-step : (a b : Step) → code_cmp (step_code a) (step_code b) ≡ order_of_steps a b
code_cmp-step (Turn p) (Turn q) = code_cmp-list p q [] [] ∙ then_Equal (order_of_lists p q)
code_cmp-step (Turn p) (Deliver from to) = refl
code_cmp-step (Deliver from to) (Turn q) = refl
code_cmp-step (Deliver from to) (Deliver from' to') =
    code_cmp-list from from' (list_code to []) (list_code to' []) ∙ (λ i. ordering_then (order_of_lists from from') ((code_cmp-list to to' [] [] ∙ then_Equal (order_of_lists to to')) i))

-- the order of steps is total
pub steps_total : IsTotalOrder order_of_steps
steps_total = subst IsTotalOrder (λ i a b. code_cmp-step a b i) (on_total step_code (lists_total int_cmp_total))

-- Equal steps are the same
pub same_step : (a b : Step) → order_of_steps a b ≡ Equal → a ≡ b
same_step (Turn p) (Turn q) e = λ i. Turn (same_list p q e i)
same_step (Turn p) (Deliver from to) e = cc
same_step (Deliver from to) (Turn q) e = cc
same_step (Deliver from to) (Deliver from' to') e =
    λ i. Deliver (same_list from from' (first_Equal _ _ e) i) (same_list to to' (second_Equal _ _ e) i)

-- the order of schedules is total
pub schedules_total : IsTotalOrder order_of_schedules
schedules_total = then_total (on_total length nat_cmp_total) (lists_total steps_total)

same_steps : (xs ys : List Step) → slice_cmp order_of_steps xs ys ≡ Equal → xs ≡ ys
same_steps [] [] e = refl
same_steps [] (y ∷ ys) e = cc
same_steps (x ∷ xs) [] e = cc
same_steps (x ∷ xs) (y ∷ ys) e =
    λ i. same_step x y (first_Equal _ _ e) i ∷ same_steps xs ys (second_Equal _ _ e) i

-- Equal schedules are the same
pub same_schedule : (xs ys : List Step) → order_of_schedules xs ys ≡ Equal → xs ≡ ys
same_schedule xs ys e = same_steps xs ys (second_Equal _ _ e)
