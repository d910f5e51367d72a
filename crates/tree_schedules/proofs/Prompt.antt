-- A prompt step is the least delivery of a signal that arrives at once, or any step where there is none.
use Rattle.std.proofs.Common.{◌≡◌, ◌↔◌, inl, inr, Bool, true, false, true≢false, List, [], ◌∷◌, filter, sym, ap, subst, ◌∙◌}
use Rattle.std.proofs.lemmas.Cmp.{tied_itself}
use Rattle.std.specs.Ordering.{is_gt, ordering_reverse}
use Rattle.term_core.specs.StepOrder.{order_of_steps}
use Rattle.term_core.specs.inside.StepOrderLaws.{steps_total}
use Rattle.term_core.specs.declared.step.Step.{Step}
use Rattle.tree_coverage.proofs.InOrder.{kept_in_order}
use Rattle.tree_coverage.proofs.Lists.{kept_passes, passes_kept}
use Rattle.tree_schedules.specs.Deliveries.{PromptStepsAreLeast, first_or_all, is_at_once}
use Rattle.world_model.proofs.Opened.{listed_in_order}
use Rattle.world_model.proofs.StepLists.{comes}
use Rattle.world_model.specs.Names.{IsAmong}
use Rattle.world_model.specs.Run.{enabled_steps}
use Rattle.world_model.specs.StepLaws.{AreInOrder}

-- for each of the steps that passes a test this one does too, and does not come after it
abbrev IsLeast : (Step → Bool) → List Step → Step → Type 0
IsLeast test es x = (d : Step) → IsAmong d es → test d ≡ true → (test x ≡ true) × (is_gt (order_of_steps x d) ≡ false)

not_after_itself : (x : Step) → is_gt (order_of_steps x x) ≡ false
not_after_itself x = ap is_gt (tied_itself steps_total x)

-- the first of some steps in order comes after none of them, and each other one after it
first_of_all : (x d : Step) (ds : List Step) → AreInOrder (x ∷ ds) → IsAmong d (x ∷ ds) → is_gt (order_of_steps x d) ≡ false
first_of_all x d ds ordered (inl e) = subst (λ y. is_gt (order_of_steps x y) ≡ false) e (not_after_itself x)
first_of_all x d ds ordered (inr there) = ap is_gt (comes x d ds ordered.0 there)

only_first : (x d : Step) (ds : List Step) → AreInOrder (x ∷ ds) → IsAmong d (x ∷ ds) → is_gt (order_of_steps d x) ≡ false → x ≡ d
only_first x d ds ordered (inl e) up = e
only_first x d ds ordered (inr there) up = absurd (true≢false (sym (ap is_gt (steps_total.antisymm d x ∙ ap ordering_reverse (comes x d ds ordered.0 there))) ∙ up))

module _ (test : Step → Bool) (es : List Step) where
  taken : (ds : List Step) → AreInOrder ds → ((y : Step) → IsAmong y ds ↔ (IsAmong y es × (test y ≡ true))) → (x : Step) → IsAmong x (first_or_all ds es) ↔ (IsAmong x es × IsLeast test es x)
  taken [] ordered same x = (λ there. (there, λ d among passes. absurd ((same d).1 (among, passes))), λ p. p.0)
  taken (f ∷ ds) ordered same x = (λ there. to there, λ p. from p)
    where
      to : IsAmong x (f ∷ []) → IsAmong x es × IsLeast test es x
      to (inl e) =
          let k = (same f).0 (inl (λ i. f)) in
          subst (λ y. IsAmong y es × IsLeast test es y) e (k.0, λ d among passes. (k.1, first_of_all f d ds ordered ((same d).1 (among, passes))))
      to (inr never) = absurd never

      from : IsAmong x es × IsLeast test es x → IsAmong x (f ∷ [])
      from p =
          let k = (same f).0 (inl (λ i. f)) in
          let q = p.1 f k.0 k.1 in
          inl (only_first f x ds ordered ((same x).1 (p.0, q.0)) q.1)

pub prompt_least : PromptStepsAreLeast
prompt_least a h x =
    let es = enabled_steps a h in
    let test = is_at_once h in
    taken test es (filter test es) (kept_in_order test es (listed_in_order a h))
    (λ y. (λ there. let k = kept_passes test es y there in (k.1, k.0), λ p. passes_kept test es y p.1 p.0)) x
