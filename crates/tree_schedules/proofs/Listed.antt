-- All schedules are listed.
use Rattle.std.proofs.Common.{◌≡◌, inl, inr, ℕ, zero, suc, ◌≤◌, List, [], ◌∷◌, ◌++◌, map, length, Some, refl, sym, ap, ◌∙◌, subst, append_assoc, append-nil, arith}
use Rattle.term_core.specs.declared.step.Step.{Step}
use Rattle.tree_coverage.specs.Explored.{explored}
use Rattle.tree_coverage.proofs.Instance.{Happened, happened}
use Rattle.tree_coverage.proofs.Lists.{Source, among_right, from_theory, source, to_theory}
use Rattle.tree_coverage.proofs.Runs.{Led, led, run_of}
use Rattle.tree_schedules.specs.Deliveries.{DeliversBy, steps_by}
use Rattle.tree_schedules.specs.Schedules.{AllAreListed, IsRunBy, all_schedules, all_taken}
use Rattle.tree_schedules.specs.declared.delivery.Delivery.{Delivery}
use Rattle.tree_schedules.proofs.Delivering.{delivers_at, delivers_more, delivers_none, run_more}
use Rattle.tree_sleep_sets.specs.Schedules as theory
use Rattle.tree_sleep_sets.specs.System.{Takes}
use Rattle.tree_sleep_sets.specs.Tree.{Child, IsPath, asleep}
use Rattle.tree_sleep_sets.proofs.Listing.{listed_nodes}
use Rattle.tree_sleep_sets.proofs.Showing.{path_short}
use Rattle.world_model.specs.Events.{History}
use Rattle.world_model.specs.Names.{IsAmong}
use Rattle.world_model.specs.Requests.{Program}
use Rattle.world_model.specs.Run.{run}

-- where an element of a list is
record Place {X : Type 0} (xs : List X) (x : X) : Type 0 where
  before : List X
  after : List X
  is : xs ≡ before ++ x ∷ after

placed : {X Y : Type 0} (f : X → Y) (xs : List X) (x : X) → IsAmong x xs → Place (map f xs) (f x)
placed f [] x there = absurd there
placed f (y ∷ ys) x (inl e) = record { before = []; after = map f ys; is = ap (λ z. f z ∷ map f ys) e }
placed f (y ∷ ys) x (inr there) =
    let p = placed f ys x there in
    record { before = f y ∷ p.before; after = p.after; is = ap (λ zs. f y ∷ zs) p.is }

module _ (d : Delivery) (a : Program) where
  -- each step of a run is one that may be taken then
  abbrev MayBeTaken : (h : History) (s : List Step) → theory.Runs (explored a) h s → Type 0
  MayBeTaken h [] runs = Unit {0}
  MayBeTaken h (x ∷ s) runs = IsAmong x (steps_by d a h) × MayBeTaken runs.0.world s runs.1

  -- ---- along the paths of the plan

  child : (h : History) (slept : List Step) (s : Step) → Takes (explored a) h s → IsAmong s (steps_by d a h) → Child (explored a) (all_taken d a) tt h slept s
  child h slept s t there =
      let p = placed (λ x. (x, tt)) (steps_by d a h) s there in
      record { before = p.before; place = tt; after = p.after; is_in_line = p.is; takes = t }

  to_path : (n : ℕ) (h : History) (slept s : List Step) → length s ≤ n → (runs : theory.Runs (explored a) h s) → MayBeTaken h s runs → IsPath (explored a) (all_taken d a) n tt h slept s
  unfolding child
  to_path n h slept [] short runs may = path_here n
    where
      path_here : (k : ℕ) → IsPath (explored a) (all_taken d a) k tt h slept []
      path_here zero = tt
      path_here (suc k) = tt
  to_path zero h slept (x ∷ s) short runs may = absurd (omega (arith, short))
  to_path (suc n) h slept (x ∷ s) short runs may =
      let c = child h slept x runs.0 may.0 in
      (c, to_path n runs.0.world (asleep (explored a) (all_taken d a) h slept c.before x) s (omega (arith, short)) runs.1 may.1)

  taken_there : (h : History) (slept : List Step) (x : Step) → Child (explored a) (all_taken d a) tt h slept x → IsAmong x (steps_by d a h)
  taken_there h slept x c =
      let r : Source (λ (y : Step). (y, tt)) (steps_by d a h) (x, c.place) = source (λ y. (y, tt)) (steps_by d a h) (x, c.place) (subst (IsAmong (x, c.place)) (sym c.is_in_line) (among_right c.before ((x, c.place) ∷ c.after) (x, c.place) (inl refl))) in
      subst (λ y. IsAmong y (steps_by d a h)) (ap (λ (p : Step × Unit {0}). p.0) r.is) r.is_among

  from_path : (n : ℕ) (h : History) (slept s : List Step) (is : IsPath (explored a) (all_taken d a) n tt h slept s) → (runs : theory.Runs (explored a) h s) × MayBeTaken h s runs
  from_path n h slept [] is = (tt, tt)
  from_path zero h slept (x ∷ s) is = absurd is
  from_path (suc n) h slept (x ∷ s) is =
      let rest = from_path n is.0.takes.world (asleep (explored a) (all_taken d a) h slept is.0.before x) s is.1 in
      ((is.0.takes, rest.0), (taken_there h slept x is.0, rest.1))

  -- ---- after the steps before

  after_step : (before : List Step) (h : History) (x : Step) (s : List Step) → run a before ≡ Some h → (t : Takes (explored a) h x) → run a (before ++ x ∷ []) ≡ Some t.world
  after_step before h x s now t =
      let k : Happened a h x t.event t.world = happened a h x t in
      run_more a (Some []) before x h k.event now k.is_next ∙ ap Some k.is_world

  may_be_taken : (before : List Step) (h : History) (s : List Step) → run a before ≡ Some h → DeliversBy d a (before ++ s) → (runs : theory.Runs (explored a) h s) → MayBeTaken h s runs
  may_be_taken before h [] now is runs = tt
  may_be_taken before h (x ∷ s) now is runs =
      let k : Happened a h x runs.0.event runs.0.world = happened a h x runs.0 in (
        delivers_at d a before x s h k.event is now k.is_next,
        may_be_taken (before ++ x ∷ []) runs.0.world s (after_step before h x s now runs.0) (subst (DeliversBy d a) (sym (append_assoc before (x ∷ []) s)) is) runs.1,
      )

  delivers : (before : List Step) (h : History) (s : List Step) → run a before ≡ Some h → DeliversBy d a before → (runs : theory.Runs (explored a) h s) → MayBeTaken h s runs → DeliversBy d a (before ++ s)
  delivers before h [] now is runs may = subst (DeliversBy d a) (sym (append-nil before)) is
  delivers before h (x ∷ s) now is runs may =
      subst (DeliversBy d a) (append_assoc before (x ∷ []) s)
      (delivers (before ++ x ∷ []) runs.0.world s (after_step before h x s now runs.0) (delivers_more d a before x h is now may.0) runs.1 may.1)

pub all_listed : AllAreListed
all_listed d a n s = (λ there. to there, λ r. from r)
  where
    to : IsAmong s (all_schedules d a n) → IsRunBy d a n s
    to there =
        let is : IsPath (explored a) (all_taken d a) n tt [] [] s = (listed_nodes (explored a) (all_taken d a) n tt [] [] s).0 (to_theory (all_schedules d a n) s there) in
        let taken : (runs : theory.Runs (explored a) [] s) × MayBeTaken d a [] s runs = from_path d a n [] [] s is in
        (path_short (explored a) (all_taken d a) n tt [] [] s is, delivers d a [] [] s refl (delivers_none d a) taken.0 taken.1, theory.final (explored a) [] s taken.0, run_of a [] s taken.0)

    from : IsRunBy d a n s → IsAmong s (all_schedules d a n)
    from r =
        let l : Led a [] s r.2 = led a [] s r.2 r.3 in
        from_theory (all_schedules d a n) s ((listed_nodes (explored a) (all_taken d a) n tt [] [] s).1 (to_path d a n [] [] s r.0 l.runs (may_be_taken d a [] [] s refl r.1 l.runs)))
