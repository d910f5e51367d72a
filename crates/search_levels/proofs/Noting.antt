-- What is noted, also where it stops before its end.
use Rattle.std.proofs.Common.{◌≡◌, inl, inr, ℕ, ◌+◌, ◌≤◌, ◌==◌, true, List, [], ◌∷◌, ◌++◌, length, map, Some, refl, sym, ap, subst, ◌∙◌, arith}
use Rattle.std.proofs.lemmas.Bool.{eqb-true}
use Rattle.std.proofs.lemmas.List.{append-nil}
use Rattle.core_tree.specs.Syntax.{ModuleTree}
use Rattle.search_levels.specs.Arrivals.{Arrived, AreArrivals, IsArrival, of_module}
use Rattle.search_levels.specs.inside.Expanding.{MayArrive, NotesArrival, NotesArrivals, NotesLevel, NotesSome}
use Rattle.search_levels.specs.inside.Levels.{IsAt}
use Rattle.search_levels.specs.inside.Paths.{schedule_in}
use Rattle.search_levels.specs.inside.Visits.{Visit}
use Rattle.search_levels.proofs.Arriving.{all_may, assoc, longer}
use Rattle.search_levels.proofs.Placed.{all_have}
use Rattle.term_core.specs.declared.step.Step.{Step}
use Rattle.tree_coverage.specs.Findings.{Findings, findings_among}
use Rattle.tree_coverage.proofs.Lists.{among_append}
use Rattle.tree_findings.specs.Laws.{AddsSchedule}
use Rattle.tree_schedules.proofs.Delivering.{delivers_more, run_more}
use Rattle.tree_schedules.specs.Deliveries.{DeliversBy}
use Rattle.tree_schedules.specs.Schedules.{IsRunBy}
use Rattle.tree_schedules.specs.StandIns.{AreRuns}
use Rattle.tree_schedules.specs.declared.delivery.Delivery.{Delivery}
use Rattle.world_identities.specs.Identities.{identity_in}
use Rattle.world_model.specs.Asking.{program_of}
use Rattle.world_model.specs.Events.{History}
use Rattle.world_model.specs.Names.{IsAmong}
use Rattle.world_model.specs.Requests.{Program}
use Rattle.world_model.specs.Run.{run}
use Rattle.world_model.specs.Shown.{Flags, Identity, shown}

-- a list of no elements
pub no_element : {X : Type 0} (xs : List X) → length xs ≡ 0 → xs ≡ []
no_element [] none = refl
no_element (x ∷ xs) none = absurd (omega (arith, none))

pub is_empty : {X : Type 0} (xs : List X) (n : ℕ) → n ≡ length xs → true ≡ (n == 0) → xs ≡ []
is_empty xs n len none = no_element xs (sym len ∙ eqb-true n 0 (sym none))

-- two lists of runs are one
pub both_run : (d : Delivery) (a : Program) (n : ℕ) (xs ys : List (List Step)) → AreRuns d a n xs → AreRuns d a n ys → AreRuns d a n (xs ++ ys)
both_run d a n xs ys p q s there = elim (among_append xs ys s there) [ inl t ↦ p s t | inr t ↦ q s t ]

-- runs of at most so many steps have at most more steps
pub also_longer : (d : Delivery) (a : Program) (k n : ℕ) (xs : List (List Step)) → k ≤ n → AreRuns d a k xs → AreRuns d a n xs
also_longer d a k n xs le p s there = let r = p s there in let short : length s ≤ k = r.0 in (omega (arith, le, short), r.1, r.2, r.3)

module _ (flags : Flags) (d : Delivery) (a : Program) (n : ℕ) where
  pub notes_none : (before after : Findings) → after ≡ before → NotesSome flags d a n before after
  notes_none before after same visited found = ([], λ s there. absurd there, same ∙ found ∙ ap (findings_among flags a) (sym (append-nil visited)))

  pub notes_one : (s : List Step) (h : History) (is : List Identity) (before after : Findings) → length s ≤ n → DeliversBy d a s → run a s ≡ Some h → is ≡ shown a h → AddsSchedule flags s is before after → NotesSome flags d a n before after
  notes_one s h is before after short delivers runs shows adds visited found = (s ∷ [], one, adds a visited h runs shows found)
    where
      one : AreRuns d a n (s ∷ [])
      one t (inl e) = subst (IsRunBy d a n) e (short, delivers, h, runs)
      one t (inr never) = absurd never

  pub notes_both : (f g h : Findings) → NotesSome flags d a n f g → NotesSome flags d a n g h → NotesSome flags d a n f h
  notes_both f g h first second visited found =
      let p = first visited found in
      let q = second (visited ++ p.0) p.2 in
      (p.0 ++ q.0, both_run d a n p.0 q.0 p.1 q.1, q.2 ∙ ap (findings_among flags a) (assoc visited p.0 q.0))

-- one of the arrivals after each history that a state agrees with
pub arrival_is : (d : Delivery) (agrees : List ℕ → ModuleTree → History → Type 0) (m : ModuleTree) (from : Visit) (rs : List Arrived) (r : Arrived) → ((h : History) → agrees from.row m h → AreArrivals d (of_module agrees m) (program_of m) h rs) → IsAmong r rs
    → (a : Program) (h : History) → of_module agrees m from.row a h → MayArrive d (of_module agrees m) a h r
arrival_is d agrees m from rs r are there a h p = subst (λ b. MayArrive d (of_module agrees m) b h r) p.0 (all_have (MayArrive d (of_module agrees m) (program_of m) h) rs r (all_may d (of_module agrees m) (program_of m) h rs (are h p.1)) there)

module _ (Agrees : List ℕ → Program → History → Type 0) (flags : Flags) where
  -- ---- after one step

  pub one_arrival : (schedule : List Step) (r : Arrived) (s : List Step) (before after : Findings) → s ≡ schedule ++ r.of.step ∷ [] → AddsSchedule flags s (map identity_in r.of.shown.items) before after → NotesArrival Agrees flags schedule r before after
  one_arrival schedule r s before after is adds d a k h len delivers runs may =
      let arr : IsArrival Agrees a h r = may.0 in
      let n : length s ≡ k + 1 = ap length is ∙ longer schedule r.of.step ∙ ap (λ m. m + 1) len in
      notes_one flags d a (k + 1) s (arr.event ∷ h) (map identity_in r.of.shown.items) before after (omega (arith, n)) (subst (DeliversBy d a) (sym is) (delivers_more d a schedule r.of.step h delivers runs may.1))
      (ap (run a) is ∙ run_more a (Some []) schedule r.of.step h arr.event runs arr.is_next) arr.shown adds

  -- ---- after the steps from a state

  pub arrivals_more : (d : Delivery) (from : Visit) (r : Arrived) (begun before after : Findings) → ((a : Program) (h : History) → Agrees from.row a h → MayArrive d Agrees a h r) → NotesArrivals d Agrees flags from begun before → NotesArrival Agrees flags (schedule_in from.of) r before after → NotesArrivals d Agrees flags from begun after
  arrivals_more d from r begun before after is so_far more a k h len delivers runs agrees =
      notes_both flags d a (k + 1) begun before after (so_far a k h len delivers runs agrees) (more d a k h len delivers runs (is a h agrees))

  -- ---- after those from the states of a level

  pub level_none : (d : Delivery) (level : List Visit) (begun : Findings) → NotesLevel d Agrees flags level begun begun
  level_none d level begun a k at = notes_none flags d a (k + 1) begun begun refl

  pub level_both : (d : Delivery) (level : List Visit) (begun before after : Findings) → NotesLevel d Agrees flags level begun before → NotesLevel d Agrees flags level before after → NotesLevel d Agrees flags level begun after
  level_both d level begun before after so_far more a k at = notes_both flags d a (k + 1) begun before after (so_far a k at) (more a k at)

  pub level_more : (d : Delivery) (level : List Visit) (x : Visit) (begun before after : Findings) → IsAmong x level → NotesLevel d Agrees flags level begun before → NotesArrivals d Agrees flags x before after → NotesLevel d Agrees flags level begun after
  level_more d level x begun before after there so_far more a k at =
      let is : IsAt d Agrees a k x = at x there in
      notes_both flags d a (k + 1) begun before after (so_far a k at) (more a k is.2 is.0 is.1 is.3 is.4)
