-- Which of two schedules comes first.
use Prim.Native.Nat.compare
use Rattle.std.proofs.Common.{◌≡◌, ℕ, suc, List, [], ◌∷◌, ◌++◌, length, refl, sym, ap, ◌∙◌, arith}
use Rattle.std.proofs.lemmas.Cmp.{tied_itself, upto}
use Rattle.std.specs.Cmp.Lexicographic.{slice_cmp}
use Rattle.std.specs.Ordering.{is_gt, nat_cmp, ordering_then}
use Rattle.std.specs.declared.cmp.Ordering.{Ordering}
use Rattle.std.specs.declared.cmp.Ordering.TheVariants.{Less, Equal, Greater}
use Rattle.term_core.specs.StepOrder.{order_of_schedules, order_of_steps}
use Rattle.term_core.specs.inside.OrderLaws.{same_number}
use Rattle.term_core.specs.inside.StepOrderLaws.{schedules_total, steps_total}
use Rattle.term_core.specs.declared.step.Step.{Step}
use Rattle.tree_schedules.specs.StandIns.{IsUpTo}

pub up_to_itself : (s : List Step) → IsUpTo s s
up_to_itself s = ap is_gt (tied_itself schedules_total s)

pub up_to_chain : (r s t : List Step) → IsUpTo r s → IsUpTo s t → IsUpTo r t
up_to_chain r s t p q = upto schedules_total r s t p q

pub less_up : (r s : List Step) → order_of_schedules r s ≡ Less → IsUpTo r s
less_up r s less = ap is_gt less

pub less_chain : (r s t : List Step) → order_of_schedules r s ≡ Less → order_of_schedules s t ≡ Less → order_of_schedules r t ≡ Less
less_chain r s t p q = schedules_total.trans r s t p q

-- ---- schedules that go on by a step each

then_nothing : (o : Ordering) → ordering_then o Equal ≡ o
then_nothing Less = refl
then_nothing Equal = refl
then_nothing Greater = refl

then_both : (o p q : Ordering) → ordering_then (ordering_then o p) q ≡ ordering_then o (ordering_then p q)
then_both Less p q = refl
then_both Equal p q = refl
then_both Greater p q = refl

steps_on : (r s : List Step) (x y : Step) → length r ≡ length s → slice_cmp order_of_steps (r ++ x ∷ []) (s ++ y ∷ []) ≡ ordering_then (slice_cmp order_of_steps r s) (order_of_steps x y)
steps_on [] [] x y same = then_nothing (order_of_steps x y)
steps_on [] (b ∷ s) x y same = absurd (omega (arith, same))
steps_on (a ∷ r) [] x y same = absurd (omega (arith, same))
steps_on (a ∷ r) (b ∷ s) x y same =
    ap (ordering_then (order_of_steps a b)) (steps_on r s x y (omega (arith, same))) ∙ sym (then_both (order_of_steps a b) (slice_cmp order_of_steps r s) (order_of_steps x y))

by_lengths : (r s : List Step) (x y : Step) (o : Ordering) → o ≡ nat_cmp (length r) (length s) → ordering_then o (slice_cmp order_of_steps (r ++ x ∷ []) (s ++ y ∷ [])) ≡ ordering_then (ordering_then o (slice_cmp order_of_steps r s)) (order_of_steps x y)
by_lengths r s x y Less is = refl
by_lengths r s x y Greater is = refl
by_lengths r s x y Equal is = steps_on r s x y (same_number (length r) (length s) (sym is))

one_more : (x : Step) (s : List Step) → length (s ++ x ∷ []) ≡ suc (length s)
one_more x [] = refl
one_more x (y ∷ s) = ap suc (one_more x s)

one_more_each : (m n : ℕ) → nat_cmp (suc m) (suc n) ≡ nat_cmp m n
one_more_each m n = simp compare.suc-suc

as_lengths : (r s : List Step) (x y : Step) → nat_cmp (length (r ++ x ∷ [])) (length (s ++ y ∷ [])) ≡ nat_cmp (length r) (length s)
as_lengths r s x y = (λ i. nat_cmp (one_more x r i) (one_more y s i)) ∙ one_more_each (length r) (length s)

-- the first difference decides, and the last steps where there is none
schedules_on : (r s : List Step) (x y : Step) → order_of_schedules (r ++ x ∷ []) (s ++ y ∷ []) ≡ ordering_then (order_of_schedules r s) (order_of_steps x y)
schedules_on r s x y =
    ap (λ o. ordering_then o (slice_cmp order_of_steps (r ++ x ∷ []) (s ++ y ∷ []))) (as_lengths r s x y) ∙ by_lengths r s x y (nat_cmp (length r) (length s)) refl

pub up_to_more : (x : Step) (r s : List Step) → IsUpTo r s → IsUpTo (r ++ x ∷ []) (s ++ x ∷ [])
up_to_more x r s up =
    ap is_gt (schedules_on r s x x ∙ ap (ordering_then (order_of_schedules r s)) (tied_itself steps_total x) ∙ then_nothing (order_of_schedules r s)) ∙ up

-- what is less stays so, whatever the steps
pub less_next : (r s : List Step) (x y : Step) → order_of_schedules r s ≡ Less → order_of_schedules (r ++ x ∷ []) (s ++ y ∷ []) ≡ Less
less_next r s x y less = schedules_on r s x y ∙ ap (λ o. ordering_then o (order_of_steps x y)) less

-- of one schedule that goes on by two steps the one is less whose step is
pub less_by_step : (s : List Step) (x y : Step) → order_of_steps x y ≡ Less → order_of_schedules (s ++ x ∷ []) (s ++ y ∷ []) ≡ Less
less_by_step s x y less = schedules_on s s x y ∙ ap (λ o. ordering_then o (order_of_steps x y)) (tied_itself schedules_total s) ∙ less
