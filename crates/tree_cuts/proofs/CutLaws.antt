-- A tree that is cut nowhere has the nodes of all deeper ones, and no schedule that runs is longer.
use Rattle.std.proofs.Common.{◌≡◌, ◌↔◌, ◌≤◌, ◌+◌, ◌==◌, inl, inr, ℕ, zero, suc, Bool, true, false, ◌&&◌, not, List, [], ◌∷◌, ◌++◌, length, filter, Option, Some, None, is_some, cond, refl, sym, ap, ◌∙◌, subst, arith}
use Rattle.std.proofs.lemmas.Bool.{eqb-true, eq-eqb}
use Rattle.std.proofs.lemmas.List.{length-append, length_push}
use Rattle.std.proofs.lemmas.List.Elements.{filter-append}
use Rattle.std.proofs.lemmas.List.Sorted.{sum_by-IsPermutation}
use Rattle.std.proofs.lemmas.List.Recursion.{is_sum_by}
use Rattle.std.proofs.lemmas.List.Sums.{count_by-le-length, length-filter}
use Rattle.std.specs.List.{sum_by}
use Rattle.term_core.specs.declared.step.Step.{Step}
use Rattle.world_model.specs.Events.{Event, History}
use Rattle.world_model.specs.Names.{IsAmong}
use Rattle.world_model.specs.Requests.{Program}
use Rattle.world_model.specs.Run.{next_event, enabled_steps, extended, run}
use Rattle.world_model.specs.Shown.{Identity, is_error, is_refusal}
use Rattle.world_model.proofs.Opened.{listed_enabled}
use Rattle.tree_coverage.specs.Covers.{is_empty, is_one_of}
use Rattle.tree_cuts.specs.Cuts.{goes_on, is_cut, cut_count, IsUncut, CutsAddUp, CutsAreSome, CutsInAnyOrder, RootHasAllCuts, JobsHaveTheirCuts, CutsAreExact, UncutTreesAreWhole, UncutRootsAreWhole, UncutFindingsAreWhole, IsEverShown, UncutErrorsAreExact, UncutRefusalsAreExact, UncutTreesShowNoError, NodesTellCuts}
use Rattle.tree_coverage.specs.Findings.{Finding, IsFound, findings_among, findings_of}
use Rattle.tree_coverage.specs.Jobs.{Node, asleep_below, awake_steps, nodes_after, nodes_along, node_at, nodes_from, nodes_of, nodes_of_all, root, schedules_of, still_open, visited}
use Rattle.tree_coverage.specs.Shown.{IsShown}
use Rattle.tree_coverage.specs.Trees.{nodes, AreEquivalent, Itself, Swap, After, Chain}
use Rattle.tree_coverage.proofs.FindingLaws.{errors_exact, refusals_exact}
use Rattle.tree_coverage.proofs.JobLaws.{map_join, none_left, one_more, root_nodes, split_jobs}
use Rattle.tree_coverage.proofs.Lists.{among_left, among_map, among_right, both_first, both_second, passes_kept}
use Rattle.tree_coverage.proofs.ShownLaws.{nodes_run, nodes_cover}

-- ---- counts add up

pub cuts_join : CutsAddUp
cuts_join a n ss ts = ap length (filter-append (is_cut a n) ss ts) ∙ length-append (filter (is_cut a n) ss) (filter (is_cut a n) ts)

pub cuts_of_root : RootHasAllCuts
cuts_of_root a n = ap (cut_count a n) (root_nodes a n)

pub cuts_of_both : (a : Program) (n : ℕ) (us vs : List Node) → cut_count a n (schedules_of (us ++ vs)) ≡ cut_count a n (schedules_of us) + cut_count a n (schedules_of vs)
cuts_of_both a n us vs = ap (cut_count a n) (map_join (λ v. v.schedule) us vs) ∙ cuts_join a n (schedules_of us) (schedules_of vs)

pub cuts_of_jobs : JobsHaveTheirCuts
cuts_of_jobs a n budget jobs =
    ap (λ vs. cut_count a n (schedules_of vs)) (split_jobs a n budget jobs) ∙ cuts_of_both a n (visited a n budget jobs) (nodes_of_all a n (still_open a n budget jobs))

-- of a list at most as many pass as there are, in whatever order they come
as_sum : {X : Type 0} (test : X → Bool) (xs : List X) → length (filter test xs) ≡ sum_by (λ x. cond (test x) 1 0) xs
as_sum test = is_sum_by (λ xs. length (filter test xs)) (λ x. cond (test x) 1 0) refl (λ x xs. one (test x) x (filter test xs))
  where
    one : {X : Type 0} (b : Bool) (x : X) (kept : List X) → length (cond b (x ∷ kept) kept) ≡ cond b 1 0 + length kept
    one true x kept = omega arith
    one false x kept = omega arith

pub cuts_some : CutsAreSome
cuts_some a n schedules = subst (λ k. k ≤ length schedules) (sym (length-filter (is_cut a n) schedules)) (count_by-le-length (is_cut a n) schedules)

pub cuts_in_any_order : CutsInAnyOrder
cuts_in_any_order a n ss ts same =
    as_sum (is_cut a n) ss ∙ sym (sum_by-IsPermutation (λ s. cond (is_cut a n s) 1 0) ss ts same) ∙ sym (as_sum (is_cut a n) ts)

-- ---- where none of a list passes a test

has_some : {X : Type 0} (xs : List X) (x : X) → length xs ≡ 0 → IsAmong x xs → ⊥
has_some [] x e there = there
has_some (y ∷ xs) x e there = absurd (omega (arith, e))

none_passes : {X : Type 0} (test : X → Bool) (xs : List X) → length (filter test xs) ≡ 0 → (x : X) → IsAmong x xs → test x ≡ false
none_passes test xs none x there = go (test x) refl
  where
    go : (b : Bool) → test x ≡ b → test x ≡ false
    go true e = absurd (has_some (filter test xs) x none (passes_kept test xs x e there))
    go false e = e

none_kept : {X : Type 0} (test : X → Bool) → ((x : X) → test x ≡ false) → (xs : List X) → length (filter test xs) ≡ 0
none_kept test fails [] = refl
none_kept test fails (x ∷ xs) = ap (λ b. length (cond b (x ∷ filter test xs) (filter test xs))) (fails x) ∙ none_kept test fails xs

-- ---- a node at the depth that is not cut has no step

same_test : (x y z w : ℕ) → (x ≡ y → z ≡ w) → (z ≡ w → x ≡ y) → (x == y) ≡ (z == w)
same_test x y z w to from = go (x == y) (z == w) refl refl
  where
    go : (b c : Bool) → (x == y) ≡ b → (z == w) ≡ c → b ≡ c
    go true true e f = refl
    go true false e f = sym (eq-eqb z w (to (eqb-true x y e))) ∙ f
    go false true e f = sym e ∙ eq-eqb x y (from (eqb-true z w f))
    go false false e f = refl

pub nodes_tell : NodesTellCuts
nodes_tell a n more s h now fits =
    let depth : (length s == n) ≡ (more == 0) = same_test (length s) n more 0 (λ e. omega (arith, fits, e)) (λ e. omega (arith, fits, e)) in
    λ i. depth i && goes_on a (now i)

none_enabled : (a : Program) (n : ℕ) (s : List Step) (h : History) → length s + 0 ≡ n → run a s ≡ Some h → is_cut a n s ≡ false → enabled_steps a h ≡ []
none_enabled a n s h fits now uncut = go (enabled_steps a h) (sym (nodes_tell a n 0 s h now fits) ∙ uncut)
  where
    go : (xs : List Step) → not (is_empty xs) ≡ false → xs ≡ []
    go [] e = refl
    go (x ∷ xs) e = absurd cc

none_awake : (a : Program) (h : History) (slept : List Step) → enabled_steps a h ≡ [] → awake_steps a h slept ≡ []
none_awake a h slept none = ap (filter (λ t. not (is_one_of slept t))) none

-- ---- a deeper tree has the same nodes

module _ (a : Program) (n : ℕ) where
  abbrev AreUncut : List Node → Type 0
  AreUncut vs = (v : Node) → IsAmong v vs → is_cut a n v.schedule ≡ false

  abbrev AreSame : ℕ → ℕ → Type 0
  AreSame m k = (h : History) (schedule slept : List Step) → run a schedule ≡ Some h → length schedule + k ≡ n → AreUncut (nodes_from a k h schedule slept) → nodes_from a m h schedule slept ≡ nodes_from a k h schedule slept

  same_after : (m k : ℕ) → AreSame m k → (h : History) (schedule : List Step) (s : Step) (slept : List Step) → run a schedule ≡ Some h → length schedule + suc k ≡ n → (o : Option Event) → next_event a h s ≡ o → AreUncut (nodes_after (λ g. nodes_from a k g (schedule ++ s ∷ []) slept) h o) → nodes_after (λ g. nodes_from a m g (schedule ++ s ∷ []) slept) h o ≡ nodes_after (λ g. nodes_from a k g (schedule ++ s ∷ []) slept) h o
  same_after m k same h schedule s slept now fits None is uncut = refl
  same_after m k same h schedule s slept now fits (Some e) is uncut =
      let longer : length (schedule ++ s ∷ []) ≡ length schedule + 1 = length_push schedule s in
      same (e ∷ h) (schedule ++ s ∷ []) slept (one_more a schedule h s now ∙ ap (extended h) is) (omega (arith, longer, fits)) uncut

  same_along : (m k : ℕ) → AreSame m k → (h : History) (schedule slept steps : List Step) → run a schedule ≡ Some h → length schedule + suc k ≡ n → AreUncut (nodes_along (nodes_from a k) a h schedule slept steps) → nodes_along (nodes_from a m) a h schedule slept steps ≡ nodes_along (nodes_from a k) a h schedule slept steps
  same_along m k same h schedule slept [] now fits uncut = refl
  same_along m k same h schedule slept (s ∷ steps) now fits uncut =
      let z : List Step = asleep_below a h slept s in
      let first : List Node = nodes_after (λ g. nodes_from a k g (schedule ++ s ∷ []) z) h (next_event a h s) in
      let others : List Node = nodes_along (nodes_from a k) a h schedule (slept ++ s ∷ []) steps in
      let one = same_after m k same h schedule s z now fits (next_event a h s) refl (λ v there. uncut v (among_left first others v there)) in
      let more = same_along m k same h schedule (slept ++ s ∷ []) steps now fits (λ v there. uncut v (among_right first others v there)) in
      λ i. one i ++ more i

  same_from : (m k : ℕ) → k ≤ m → AreSame m k
  same_from zero zero deeper h schedule slept now fits uncut = refl
  same_from (suc m) zero deeper h schedule slept now fits uncut =
      ap (λ steps. record { schedule = schedule; taken = steps } ∷ nodes_along (nodes_from a m) a h schedule slept steps) (none_awake a h slept (none_enabled a n schedule h fits now (uncut _ (inl refl))))
  same_from zero (suc k) deeper h schedule slept now fits uncut = absurd (omega (arith, deeper))
  same_from (suc m) (suc k) deeper h schedule slept now fits uncut =
      ap (λ vs. node_at a (suc k) h schedule slept ∷ vs) (same_along m k (same_from m k (omega (arith, deeper))) h schedule slept (awake_steps a h slept) now fits (λ v there. uncut v (inr there)))

  uncut_root : IsUncut a n → AreUncut (nodes_of a n root)
  uncut_root none v there =
      none_passes (is_cut a n) (nodes a n) none v.schedule (subst (IsAmong v.schedule) (root_nodes a n) (among_map (λ u. u.schedule) (nodes_of a n root) v there))

pub roots_whole : UncutRootsAreWhole
roots_whole a n m none deeper =
    let from : (k : ℕ) → nodes_of a k root ≡ nodes_from a k [] [] [] = λ k. ap (λ l. nodes_from a l [] [] []) (none_left k) in
    from m ∙ same_from a n m n deeper [] [] [] refl (omega arith) (subst (AreUncut a n) (from n) (uncut_root a n none)) ∙ sym (from n)

pub trees_whole : UncutTreesAreWhole
trees_whole a n m none deeper = sym (root_nodes a m) ∙ ap schedules_of (roots_whole a n m none deeper) ∙ root_nodes a n

pub findings_whole : UncutFindingsAreWhole
findings_whole flags a n m none deeper = ap (findings_among flags a) (trees_whole a n m none deeper)

-- ---- no schedule that runs is longer

same_length : (a : Program) (h : History) (s t : List Step) → AreEquivalent a h s t → length s ≡ length t
same_length a h s t Itself = refl
same_length a h s t (Swap is) = refl
same_length a h s t (After is more) = ap suc (same_length a _ _ _ more)
same_length a h s t (Chain one other) = same_length a h _ _ one ∙ same_length a h _ _ other

none_longer : (a : Program) (n : ℕ) → IsUncut a n → (s : List Step) (h : History) → run a s ≡ Some h → length s ≤ n
none_longer a n none s h now =
    let m : ℕ = n + length s in
    let cover = nodes_cover a m s h (omega arith) now in
    let there : IsAmong cover.0 (nodes a n) = subst (IsAmong cover.0) (trees_whole a n m none (omega arith)) cover.1 in
    let short : length cover.0 ≤ n = (nodes_run a n cover.0 there).0 in
    let long : length s ≡ length cover.0 = same_length a [] s cover.0 cover.2 in
    omega (arith, short, long)

-- a schedule that is cut goes on
record Longer (a : Program) (s : List Step) : Type 0 where
  pub step : Step
  pub history : History
  pub runs : run a (s ++ step ∷ []) ≡ Some history

goes_longer : (a : Program) (s : List Step) (o : Option History) → run a s ≡ o → goes_on a o ≡ true → Longer a s
goes_longer a s None now on = absurd cc
goes_longer a s (Some h) now on = go (enabled_steps a h) refl on
  where
    taken : (x : Step) (o : Option Event) → next_event a h x ≡ o → is_some o ≡ true → Longer a s
    taken x None is enabled = absurd cc
    taken x (Some e) is enabled = record { step = x; history = e ∷ h; runs = one_more a s h x now ∙ ap (extended h) is }

    go : (xs : List Step) → enabled_steps a h ≡ xs → not (is_empty xs) ≡ true → Longer a s
    go [] e on = absurd cc
    go (x ∷ xs) e on = taken x (next_event a h x) refl (listed_enabled a h x (subst (IsAmong x) (sym e) (inl refl)))

cut_nowhere : (a : Program) (n : ℕ) → ((s : List Step) (h : History) → run a s ≡ Some h → length s ≤ n) → (s : List Step) → is_cut a n s ≡ false
cut_nowhere a n short s = go (is_cut a n s) refl
  where
    go : (b : Bool) → is_cut a n s ≡ b → is_cut a n s ≡ false
    go false e = e
    go true e =
        let long : length s ≡ n = eqb-true (length s) n (both_first (length s == n) (goes_on a (run a s)) e) in
        let l : Longer a s = goes_longer a s (run a s) refl (both_second (length s == n) (goes_on a (run a s)) e) in
        let fits : length (s ++ l.step ∷ []) ≤ n = short (s ++ l.step ∷ []) l.history l.runs in
        let more : length (s ++ l.step ∷ []) ≡ length s + 1 = length_push s l.step in
        absurd (omega (arith, long, fits, more))

pub cuts_exact : CutsAreExact
cuts_exact a n = (none_longer a n, λ short. none_kept (is_cut a n) (cut_nowhere a n short) (nodes a n))

-- ---- what schedules of whatever length show

shown_short : (a : Program) (n : ℕ) (i : Identity) → IsUncut a n → IsEverShown a i → IsShown a n i
shown_short a n i none (s, shows) = (s, none_longer a n none s shows.0 shows.1, shows)

shown_ever : (a : Program) (n : ℕ) (i : Identity) → IsShown a n i → IsEverShown a i
shown_ever a n i (s, short, shows) = (s, shows)

pub errors_ever : UncutErrorsAreExact
errors_ever flags a n i none =
    let exact : IsFound i (findings_of flags a n).errors ↔ ((is_error flags i ≡ true) × IsShown a n i) = errors_exact flags a n i in
    (λ found. let k = exact.0 found in (k.0, shown_ever a n i k.1), λ k. exact.1 (k.0, shown_short a n i none k.1))

pub refusals_ever : UncutRefusalsAreExact
refusals_ever flags a n i none =
    let exact : IsFound i (findings_of flags a n).refusals ↔ ((is_refusal i ≡ true) × IsShown a n i) = refusals_exact flags a n i in
    (λ found. let k = exact.0 found in (k.0, shown_ever a n i k.1), λ k. exact.1 (k.0, shown_short a n i none k.1))

no_error : (fs : List Finding) → fs ≡ [] → (i : Identity) → IsFound i fs → ⊥
no_error [] none i found = found.1
no_error (f ∷ fs) none i found = absurd cc

pub none_ever : UncutTreesShowNoError
none_ever flags a n uncut none s i shows = go (is_error flags i) refl
  where
    go : (b : Bool) → is_error flags i ≡ b → is_error flags i ≡ false
    go true e = absurd (no_error (findings_of flags a n).errors none i ((errors_ever flags a n i uncut).1 (e, (s, shows))))
    go false e = e
