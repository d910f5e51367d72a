-- Of the steps that sleep at a node only the enabled ones matter.
use Rattle.std.proofs.Common.{◌≡◌, ◌∙◌, ℕ, zero, suc, Bool, true, false, ◌||◌, cond, List, [], ◌∷◌, ◌++◌, not, refl, sym, ap, true≢false}
use Rattle.std.proofs.lemmas.List.Elements.{filter-append}
use Rattle.std.specs.List.{filter}
use Rattle.std.specs.Prelude.{◌&&◌}
use Rattle.term_core.specs.declared.step.Step.{Step}
use Rattle.world_model.specs.Events.{History}
use Rattle.world_model.specs.Independence.{are_apart, are_independent, footprint}
use Rattle.world_model.specs.Requests.{Program}
use Rattle.world_model.specs.Run.{is_enabled, next_event, possible_steps}
use Rattle.tree_coverage.specs.Explored.{same_step}
use Rattle.tree_coverage.specs.Jobs.{FromNode, asleep_below, awake_steps, node_at, nodes_after, nodes_along, nodes_from}
use Rattle.tree_coverage.proofs.Instance.{same_steps}
use Rattle.tree_sleep_sets.specs.Search.{is_among}

both_false : (b : Bool) → (b && false) ≡ false
both_false true = refl
both_false false = refl

module _ (a : Program) (h : History) where
  -- those that are enabled
  abbrev pub enabled_of : List Step → List Step
  enabled_of slept = filter (is_enabled a h) slept

  -- ---- what stays asleep

  off_independent : (s t : Step) → is_enabled a h t ≡ false → are_independent a h s t ≡ false
  off_independent s t off =
      (λ i. is_enabled a h s && (off i && are_apart (footprint a h s) (footprint a h t))) ∙ both_false (is_enabled a h s)

  kept_twice : (s : Step) (slept : List Step) → asleep_below a h (enabled_of slept) s ≡ asleep_below a h slept s
  kept_twice s [] = refl
  kept_twice s (x ∷ xs) = go (is_enabled a h x) refl (kept_twice s xs)
    where
      go : (b : Bool) → is_enabled a h x ≡ b → asleep_below a h (enabled_of xs) s ≡ asleep_below a h xs s → asleep_below a h (cond b (x ∷ enabled_of xs) (enabled_of xs)) s ≡ cond (are_independent a h s x) (x ∷ asleep_below a h xs s) (asleep_below a h xs s)
      go true on same = ap (λ ys. cond (are_independent a h s x) (x ∷ ys) ys) same
      go false off same = same ∙ ap (λ b. cond b (x ∷ asleep_below a h xs s) (asleep_below a h xs s)) (sym (off_independent s x off))

  -- the nodes below a line see no more of it
  along : (below : FromNode) (schedule one other line : List Step) → ((s : Step) → asleep_below a h one s ≡ asleep_below a h other s) → nodes_along below a h schedule one line ≡ nodes_along below a h schedule other line
  along below schedule one other [] same = refl
  along below schedule one other (s ∷ steps) same =
      λ i. nodes_after (λ g. below g (schedule ++ s ∷ []) (same s i)) h (next_event a h s) ++ along below schedule (one ++ s ∷ []) (other ++ s ∷ []) steps more i
    where
      more : (t : Step) → asleep_below a h (one ++ s ∷ []) t ≡ asleep_below a h (other ++ s ∷ []) t
      more t = filter-append (are_independent a h t) one (s ∷ []) ∙ ap (λ ys. ys ++ asleep_below a h (s ∷ []) t) (same t) ∙ sym (filter-append (are_independent a h t) other (s ∷ []))

  -- ---- what is awake

  among_enabled : (slept : List Step) (s : Step) → is_enabled a h s ≡ true → is_among same_step (enabled_of slept) s ≡ is_among same_step slept s
  among_enabled [] s on = refl
  among_enabled (t ∷ ts) s on = go (is_enabled a h t) refl (among_enabled ts s on)
    where
      off : (b : Bool) → same_step t s ≡ b → is_enabled a h t ≡ false → is_among same_step ts s ≡ (b || is_among same_step ts s)
      off true same none = absurd (true≢false (sym on ∙ ap (is_enabled a h) (sym (same_steps t s same)) ∙ none))
      off false same none = refl

      go : (b : Bool) → is_enabled a h t ≡ b → is_among same_step (enabled_of ts) s ≡ is_among same_step ts s → is_among same_step (cond b (t ∷ enabled_of ts) (enabled_of ts)) s ≡ (same_step t s || is_among same_step ts s)
      go true is same = ap (λ b. same_step t s || b) same
      go false is same = same ∙ off (same_step t s) refl is

  kept_alike : (one other : Step → Bool) (steps : List Step) → ((s : Step) → is_enabled a h s ≡ true → one s ≡ other s) → filter one (enabled_of steps) ≡ filter other (enabled_of steps)
  kept_alike one other [] same = refl
  kept_alike one other (x ∷ xs) same = go (is_enabled a h x) refl (kept_alike one other xs same)
    where
      go : (b : Bool) → is_enabled a h x ≡ b → filter one (enabled_of xs) ≡ filter other (enabled_of xs) → filter one (cond b (x ∷ enabled_of xs) (enabled_of xs)) ≡ filter other (cond b (x ∷ enabled_of xs) (enabled_of xs))
      go true on rest = λ i. cond (same x on i) (x ∷ rest i) (rest i)
      go false off rest = rest

  awake_alike : (slept : List Step) → awake_steps a h (enabled_of slept) ≡ awake_steps a h slept
  awake_alike slept = kept_alike (λ s. not (is_among same_step (enabled_of slept) s)) (λ s. not (is_among same_step slept s)) (possible_steps h) (λ s on. ap not (among_enabled slept s on))

  -- ---- the nodes

  pub only_enabled : (n : ℕ) (schedule slept : List Step) → nodes_from a n h schedule (enabled_of slept) ≡ nodes_from a n h schedule slept
  only_enabled zero schedule slept = refl
  only_enabled (suc n) schedule slept =
      (λ i. record { schedule = schedule; taken = awake_alike slept i } ∷ nodes_along (nodes_from a n) a h schedule (enabled_of slept) (awake_alike slept i))
      ∙ ap (λ vs. node_at a (suc n) h schedule slept ∷ vs) (along (nodes_from a n) schedule (enabled_of slept) slept (awake_steps a h slept) (λ s. kept_twice s slept))
