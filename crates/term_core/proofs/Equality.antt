-- What `==` says: the two are the same.
use Rattle.std.proofs.Common.{◌≡◌, ◌↔◌, Bool, ℕ, List, IsTrue, sym, ap, ◌∙◌}
use Rattle.std.specs.declared.cmp.Ordering.{Ordering}
use Rattle.std.specs.declared.cmp.Ordering.TheVariants.{Equal}
use Rattle.std.specs.Ordering.{is_eq, eq_by_cmp}
use Rattle.std.specs.Cmp.{IsTotalOrder, Equal-is, tied_itself}
use Rattle.term_core.specs.Meaning.{Meaning}
use Rattle.term_core.specs.Order.{order_of_terms, order_of_pairs, order_of_items}
use Rattle.term_core.specs.inside.OrderLaws.{terms_total, pairs_total, items_total, same_term, same_pair, same_items}
use Rattle.term_core.specs.StepOrder.{order_of_reference_ids, order_of_steps}
use Rattle.term_core.specs.inside.StepOrderLaws.{reference_ids_total, same_reference_id, steps_total, same_step}
use Rattle.term_core.specs.declared.step.Step.{Step}

-- `==` by a total order that is Equal only of the same
by_order : {K : Type 0} {R : K → K → Ordering} → IsTotalOrder R → ((a b : K) → R a b ≡ Equal → a ≡ b) → (a b : K) (r : Bool) → r ≡ eq_by_cmp R a b → IsTrue r ↔ (a ≡ b)
by_order {K} {R} o same a b r e =
    (λ h. same a b ((Equal-is (R a b)).0 (sym e ∙ h)), λ h. e ∙ ap is_eq (ap (R a) (sym h) ∙ tied_itself o a))

-- terms
pub terms_same : (a b : Meaning) (r : Bool) → r ≡ eq_by_cmp order_of_terms a b → IsTrue r ↔ (a ≡ b)
terms_same = by_order terms_total same_term

-- list cells
pub pairs_same : (a b : Meaning × Meaning) (r : Bool) → r ≡ eq_by_cmp order_of_pairs a b → IsTrue r ↔ (a ≡ b)
pairs_same = by_order pairs_total same_pair

-- lists of terms
pub items_same : (a b : List Meaning) (r : Bool) → r ≡ eq_by_cmp order_of_items a b → IsTrue r ↔ (a ≡ b)
items_same = by_order items_total same_items

-- references
pub reference_ids_same : (a b : List ℕ × ℕ) (r : Bool) → r ≡ eq_by_cmp order_of_reference_ids a b → IsTrue r ↔ (a ≡ b)
reference_ids_same = by_order reference_ids_total same_reference_id

-- steps
pub steps_same : (a b : Step) (r : Bool) → r ≡ eq_by_cmp order_of_steps a b → IsTrue r ↔ (a ≡ b)
steps_same = by_order steps_total same_step
