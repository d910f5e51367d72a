-- What schedules show does not depend on their order.
use Rattle.std.proofs.Common.{◌≡◌, Option, ℕ, zero, suc, ◌<◌, Bool, List, [], ◌∷◌, ◌++◌, length, get_or, set, filter, refl, sym, ap, ◌∙◌, arith}
use Rattle.std.specs.List.Sorted.{IsPermutation}
use Rattle.std.proofs.lemmas.List.Sorted.{IsPermutation-keeps}
use Rattle.std.proofs.lemmas.List.Edits.{swap_is}
use Rattle.term_core.specs.declared.step.Step.{Step}
use Rattle.tree_coverage.specs.Shown.{shown_after}
use Rattle.world_model.specs.Requests.{Program}
use Rattle.world_model.specs.Run.{run}
use Rattle.world_model.specs.Events.{History}
use Rattle.world_model.specs.Shown.{Identity, Flags, is_error, is_refusal, shown}
use Rattle.tree_coverage.specs.Findings.{Finding, Findings, with_all, found, findings_among}
use Rattle.tree_findings.specs.Merging.{merged, with_shown, merged_findings}
use Rattle.tree_findings.specs.Laws.{OneMoreIsAdded, ListsAreMerged, OrderDoesNotMatter, GroupingDoesNotMatter, AddsSchedule, AddsSchedules}
use Rattle.tree_coverage.proofs.FindingLaws.{sorted_found}
use Rattle.tree_findings.proofs.Putting.{all_swap, merged_all, merged_assoc, merged_none}

-- the last schedule may come first
pub found_last : (test : Identity → Bool) (a : Program) (xs : List (List Step)) (s : List Step) → found test a (xs ++ s ∷ []) ≡ with_all s (filter test (shown_after a (run a s))) (found test a xs)
found_last test a [] s = refl
found_last test a (x ∷ xs) s =
    ap (with_all x (filter test (shown_after a (run a x)))) (found_last test a xs s) ∙ all_swap x (filter test (shown_after a (run a x))) s (filter test (shown_after a (run a s))) (found test a xs)

-- the schedules of two lists
pub found_both : (test : Identity → Bool) (a : Program) (xs ys : List (List Step)) → found test a (xs ++ ys) ≡ merged (found test a xs) (found test a ys)
found_both test a [] ys = sym (merged_none (found test a ys) (sorted_found test a ys))
found_both test a (x ∷ xs) ys =
    ap (with_all x (filter test (shown_after a (run a x)))) (found_both test a xs ys) ∙ sym (merged_all x (filter test (shown_after a (run a x))) (found test a xs) (found test a ys))

-- ---- in any order

module _ (test : Identity → Bool) (a : Program) where
  abbrev told : List Step → List Finding → List Finding
  told s fs = with_all s (filter test (shown_after a (run a s))) fs

  told_swap : (s t : List Step) (fs : List Finding) → told s (told t fs) ≡ told t (told s fs)
  told_swap s t fs = all_swap s (filter test (shown_after a (run a s))) t (filter test (shown_after a (run a t))) fs

  -- a schedule in another's place
  found_set : (xs : List (List Step)) (at : ℕ) (x d : List Step) → at < length xs → told (get_or xs at d) (found test a (set xs at x)) ≡ told x (found test a xs)
  found_set [] at x d h = absurd (omega arith)
  found_set (y ∷ xs) zero x d h = told_swap y x (found test a xs)
  found_set (y ∷ xs) (suc at) x d h =
      told_swap (get_or xs at d) y (found test a (set xs at x)) ∙ ap (told y) (found_set xs at x d (omega arith)) ∙ told_swap y x (found test a xs)

  found_exchanged : (xs : List (List Step)) (i j : ℕ) (d : List Step) → i < length xs → j < length xs → found test a (set (set xs i (get_or xs j d)) j (get_or xs i d)) ≡ found test a xs
  found_exchanged [] i j d p q = absurd (omega arith)
  found_exchanged (x ∷ xs) zero zero d p q = refl
  found_exchanged (x ∷ xs) zero (suc j) d p q = found_set xs j x d (omega arith)
  found_exchanged (x ∷ xs) (suc i) zero d p q = found_set xs i x d (omega arith)
  found_exchanged (x ∷ xs) (suc i) (suc j) d p q = ap (told x) (found_exchanged xs i j d (omega arith) (omega arith))

  pub found_in_any_order : (xs ys : List (List Step)) → IsPermutation xs ys → found test a ys ≡ found test a xs
  found_in_any_order xs =
      IsPermutation-keeps xs (λ l. found test a l ≡ found test a xs) refl (λ l i j p q h. ap (found test a) (sym (swap_is l i j [] p q)) ∙ found_exchanged l i j [] p q ∙ h)

-- ---- errors and refusals

pub one_more : OneMoreIsAdded
one_more flags a schedules s h is = λ k. record {
  errors = one (is_error flags) k;
  refusals = one is_refusal k;
}
  where
    one : (test : Identity → Bool) → found test a (schedules ++ s ∷ []) ≡ with_all s (filter test (shown a h)) (found test a schedules)
    one test =
        found_last test a schedules s ∙ ap (λ (o : Option History). with_all s (filter test (shown_after a o)) (found test a schedules)) is

pub lists_merged : ListsAreMerged
lists_merged flags a xs ys = λ k. record {
  errors = found_both (is_error flags) a xs ys k;
  refusals = found_both is_refusal a xs ys k;
}

pub any_order : OrderDoesNotMatter
any_order flags a xs ys same = λ k. record {
  errors = sym (found_in_any_order (is_error flags) a xs ys same) k;
  refusals = sym (found_in_any_order is_refusal a xs ys same) k;
}

pub any_grouping : GroupingDoesNotMatter
any_grouping f g h = λ k. record {
  errors = merged_assoc f.errors g.errors h.errors k;
  refusals = merged_assoc f.refusals g.refusals h.refusals k;
}

-- ---- what calls do

pub adds_schedule : (flags : Flags) (s : List Step) (is : List Identity) (old new : Findings) → new ≡ with_shown flags s is old → AddsSchedule flags s is old new
adds_schedule flags s is old new e a schedules h runs shows was =
    e ∙ ap (λ (f : Findings). with_shown flags s is f) was ∙ ap (λ (js : List Identity). with_shown flags s js (findings_among flags a schedules)) shows ∙ sym (one_more flags a schedules s h runs)

pub adds_schedules : (old other new : Findings) → new ≡ merged_findings old other → AddsSchedules old other new
adds_schedules old other new e flags a xs ys was others =
    e ∙ (λ k. merged_findings (was k) (others k)) ∙ sym (lists_merged flags a xs ys)
