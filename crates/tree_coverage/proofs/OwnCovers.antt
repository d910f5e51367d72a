-- Where the tree shows no error, its own lines are a good cover.
use Rattle.std.proofs.Common.{◌≡◌, inl, inr, ℕ, zero, suc, Bool, true, false, not, List, [], ◌∷◌, ◌++◌, Option, Some, None, refl, sym, ap, ◌∙◌, subst, append_assoc, append-nil}
use Rattle.std.proofs.lemmas.Cmp.{tied_itself}
use Rattle.std.specs.List.{filter, list_all}
use Rattle.std.specs.Ordering.{is_eq}
use Rattle.std.specs.Prelude.{option_and_then}
use Rattle.std.specs.declared.cmp.Ordering.TheVariants.{Less, Equal}
use Rattle.term_core.specs.inside.StepOrderLaws.{steps_total}
use Rattle.term_core.specs.declared.step.Step.{Step}
use Rattle.world_model.specs.Events.{Event, History}
use Rattle.world_model.specs.Names.{IsAmong}
use Rattle.world_model.specs.Requests.{Program}
use Rattle.world_model.specs.Run.{next_event, is_enabled, enabled_steps, extended, run}
use Rattle.world_model.specs.Shown.{Identity, shown}
use Rattle.world_model.specs.StepLaws.{ComesBefore, AreInOrder}
use Rattle.world_model.proofs.Opened.{listed_enabled, listed_in_order}
use Rattle.tree_coverage.specs.Covers.{Lines, is_one_of, are_once, is_empty, is_clean, is_good_line, left_by_next, left_by_steps, left_if, left_over, lines_of, OwnCoversAreGood, ShowsNothing}
use Rattle.tree_coverage.specs.Explored.{same_step}
use Rattle.tree_coverage.specs.Jobs.{Node, asleep_below, awake_steps, nodes_after, nodes_along, nodes_from}
use Rattle.tree_coverage.specs.Trees.{nodes}
use Rattle.tree_coverage.proofs.CoverLaws.{one_of}
use Rattle.tree_coverage.proofs.InOrder.{kept_in_order}
use Rattle.tree_coverage.proofs.JobLaws.{map_join, map_itself, none_left, one_more, same_from}
use Rattle.tree_coverage.proofs.Lists.{both_true, among_left, among_right, among_map, kept_passes, passes_kept, true_all, found_by, from_theory}
use Rattle.tree_coverage.proofs.ShownLaws.{nodes_show}
use Rattle.world_model.proofs.StepLists.{comes}

-- ---- the line of the search is good

itself : (s : Step) → same_step s s ≡ true
itself s = ap is_eq (tied_itself steps_total s)

never_before : (s : Step) (xs : List Step) → ComesBefore s xs → is_one_of xs s ≡ false
never_before s xs before = go (is_one_of xs s) refl
  where
    less_equal : Less ≡ Equal → ⊥
    less_equal e = absurd cc

    go : (b : Bool) → is_one_of xs s ≡ b → is_one_of xs s ≡ false
    go true e = absurd (less_equal (sym (comes s s xs before (from_theory xs s (one_of xs s e))) ∙ tied_itself steps_total s))
    go false e = e

in_order_once : (xs : List Step) → AreInOrder xs → are_once xs ≡ true
in_order_once [] p = refl
in_order_once (x ∷ xs) p = both_true (not (is_one_of xs x)) (are_once xs) (ap not (never_before x xs p.0)) (in_order_once xs p.1)

each_taken_or_asleep : (a : Program) (h : History) (slept : List Step) (s : Step) → IsAmong s (enabled_steps a h) → is_one_of (slept ++ awake_steps a h slept) s ≡ true
each_taken_or_asleep a h slept s there = found_by same_step itself (slept ++ awake_steps a h slept) s (go (is_one_of slept s) refl)
  where
    go : (b : Bool) → is_one_of slept s ≡ b → IsAmong s (slept ++ awake_steps a h slept)
    go true e = among_left slept (awake_steps a h slept) s (from_theory slept s (one_of slept s e))
    go false e = among_right slept (awake_steps a h slept) s (passes_kept (λ t. not (is_one_of slept t)) (enabled_steps a h) s (ap not e) there)

own_line : (counts : Identity → Bool) (a : Program) (h : History) (slept : List Step) → is_clean counts a h ≡ true → is_good_line counts a h slept (awake_steps a h slept) ≡ true
own_line counts a h slept clean =
    both_true (is_clean counts a h) _ clean (both_true (are_once (awake_steps a h slept)) _ (in_order_once _ (kept_in_order (λ t. not (is_one_of slept t)) (enabled_steps a h) (listed_in_order a h))) (both_true (list_all (is_enabled a h) (awake_steps a h slept)) _ (true_all (is_enabled a h) (awake_steps a h slept) (λ s there. listed_enabled a h s (kept_passes (λ t. not (is_one_of slept t)) (enabled_steps a h) s there).1)) (true_all (is_one_of (slept ++ awake_steps a h slept)) (enabled_steps a h) (λ s there. each_taken_or_asleep a h slept s there))))

-- ---- so are all lines

module _ (counts : Identity → Bool) (a : Program) where
  abbrev IsCleanNode : Node → Type 0
  IsCleanNode v = (g : History) → run a v.schedule ≡ Some g → is_clean counts a g ≡ true

  abbrev AreClean : List Node → Type 0
  AreClean vs = (v : Node) → IsAmong v vs → IsCleanNode v

  abbrev AreGood : ℕ → Type 0
  AreGood n = (h : History) (schedule slept : List Step) (more : Lines) → run a schedule ≡ Some h → AreClean (nodes_from a n h schedule slept) → left_over counts a n h slept (lines_of (nodes_from a n h schedule slept) ++ more) ≡ Some more

  when_good : (b : Bool) (o : Option Lines) → b ≡ true → left_if b o ≡ o
  when_good b o e = ap (λ c. left_if c o) e

  good_after : (n : ℕ) → AreGood n → (h : History) (schedule : List Step) (s : Step) (slept : List Step) (more : Lines) → run a schedule ≡ Some h → (o : Option Event) → next_event a h s ≡ o → AreClean (nodes_after (λ g. nodes_from a n g (schedule ++ s ∷ []) slept) h o) → left_by_next (lines_of (nodes_after (λ g. nodes_from a n g (schedule ++ s ∷ []) slept) h o) ++ more) (λ g. left_over counts a n g slept (lines_of (nodes_after (λ k. nodes_from a n k (schedule ++ s ∷ []) slept) h o) ++ more)) h o ≡ Some more
  good_after n good h schedule s slept more now None is clean = refl
  good_after n good h schedule s slept more now (Some e) is clean =
      good (e ∷ h) (schedule ++ s ∷ []) slept more (one_more a schedule h s now ∙ ap (extended h) is) clean

  good_along : (n : ℕ) → AreGood n → (h : History) (schedule slept steps : List Step) (more : Lines) → run a schedule ≡ Some h → AreClean (nodes_along (nodes_from a n) a h schedule slept steps) → left_by_steps (left_over counts a n) a h slept steps (lines_of (nodes_along (nodes_from a n) a h schedule slept steps) ++ more) ≡ Some more
  good_along n good h schedule slept [] more now clean = refl
  good_along n good h schedule slept (s ∷ steps) more now clean =
      let z : List Step = asleep_below a h slept s in
      let first : List Node = nodes_after (λ g. nodes_from a n g (schedule ++ s ∷ []) z) h (next_event a h s) in
      let others : List Node = nodes_along (nodes_from a n) a h schedule (slept ++ s ∷ []) steps in
      let joined : lines_of (first ++ others) ++ more ≡ lines_of first ++ (lines_of others ++ more) = ap (λ ls. ls ++ more) (map_join (λ v. v.taken) first others) ∙ append_assoc (lines_of first) (lines_of others) more in
      ap (left_by_steps (left_over counts a n) a h slept (s ∷ steps)) joined
      ∙ ap (option_and_then (left_by_steps (left_over counts a n) a h (slept ++ s ∷ []) steps)) (good_after n good h schedule s z (lines_of others ++ more) now (next_event a h s) refl (λ v there. clean v (among_left first others v there)))
      ∙ good_along n good h schedule (slept ++ s ∷ []) steps more now (λ v there. clean v (among_right first others v there))

  good_from : (n : ℕ) → AreGood n
  good_from zero h schedule slept more now clean =
      when_good _ _ (both_true (is_clean counts a h) true (clean _ (inl refl) h now) refl)
  good_from (suc n) h schedule slept more now clean =
      when_good _ _ (own_line counts a h slept (clean _ (inl refl) h now)) ∙ good_along n (good_from n) h schedule slept (awake_steps a h slept) more now (λ v there. clean v (inr there))

  -- ---- a tree that shows no error

  some_error : (is : List Identity) → is_empty is ≡ false → (i : Identity) × IsAmong i is
  some_error [] e = absurd cc
  some_error (i ∷ is) e = (i, inl refl)

  clean_root : (n : ℕ) → ShowsNothing counts a n → AreClean (nodes_from a n [] [] [])
  clean_root n none v there g now = go (is_clean counts a g) refl
    where
      listed : IsAmong v.schedule (nodes a n)
      listed = subst (λ ss. IsAmong v.schedule ss) (same_from a n [] [] [] ∙ map_itself _) (among_map (λ u. u.schedule) (nodes_from a n [] [] []) v there)

      go : (b : Bool) → is_clean counts a g ≡ b → is_clean counts a g ≡ true
      go true e = e
      go false e =
          let some : (i : Identity) × IsAmong i (filter counts (shown a g)) = some_error (filter counts (shown a g)) e in
          let k : (counts some.0 ≡ true) × IsAmong some.0 (shown a g) = kept_passes counts (shown a g) some.0 some.1 in
          absurd (none some.0 k.0 ((nodes_show a n some.0).1 (v.schedule, listed, (g, now, k.1))))

pub own_good : OwnCoversAreGood
own_good counts a n none =
    ap (left_over counts a n [] []) (ap (λ m. lines_of (nodes_from a m [] [] [])) (none_left n) ∙ sym (append-nil (lines_of (nodes_from a n [] [] [])))) ∙ good_from counts a n [] [] [] [] refl (clean_root counts a n none)
