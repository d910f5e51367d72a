-- Steps from a state.
use Rattle.std.proofs.Common.{◌≡◌, inl, inr, ℕ, ◌+◌, List, [], ◌∷◌, ◌++◌, length, map, Option, Some, None, refl, sym, ap, subst, ◌∙◌, arith}
use Rattle.std.proofs.lemmas.List.{append-nil}
use Rattle.std.specs.List.{AllByRecursion}
use Rattle.std.specs.declared.cmp.Ordering.TheVariants.{Less}
use Rattle.search_levels.specs.Arrivals.{Arrived, AreArrivals, IsArrival}
use Rattle.search_levels.specs.inside.Expanding.{Arrives, ArrivesAt, Expands, MayArrive, on_by}
use Rattle.search_levels.specs.inside.Levels.{AreAt, AreBefore, AreBeforeNext, ComeInOrder, IsCovered, Keeps}
use Rattle.search_levels.specs.inside.Paths.{schedule_in}
use Rattle.search_levels.specs.inside.Visits.{Visit}
use Rattle.search_levels.proofs.InOrder.{StepsInOrder, arrivals_sorted, before_last, sorted_front}
use Rattle.search_levels.proofs.Orders.{less_by_step, less_chain, less_next}
use Rattle.search_levels.proofs.Placed.{all_front, all_have, all_last}
use Rattle.search_levels.proofs.Putting.{Puts, PutsAt}
use Rattle.tree_coverage.specs.Findings.{Findings, findings_among}
use Rattle.tree_coverage.proofs.Lists.{Source, among_append, among_map, among_right, source}
use Rattle.tree_schedules.proofs.Delivering.{delivers_more, run_more}
use Rattle.tree_schedules.specs.Deliveries.{DeliversBy, steps_by}
use Rattle.tree_schedules.specs.StandIns.{IsUpTo}
use Rattle.tree_schedules.specs.declared.delivery.Delivery.{Delivery}
use Rattle.tree_findings.specs.Laws.{AddsSchedule}
use Rattle.world_identities.specs.Identities.{identity_in}
use Rattle.world_model.specs.Names.{IsAmong}
use Rattle.world_model.specs.Shown.{Flags, shown}
use Rattle.term_core.specs.StepOrder.{order_of_schedules, order_of_steps}
use Rattle.term_core.specs.declared.step.Step.{Step}
use Rattle.world_model.specs.Events.{Event, History}
use Rattle.world_model.specs.Requests.{Program}
use Rattle.world_model.specs.Run.{extended, next_event, run, run_from}

-- ---- runs of one more step

some_is : {X : Type 0} {x y : X} → Some x ≡ Some y → x ≡ y
some_is e = cc

-- the last step of a run
pub record LastStep (a : Program) (o : Option History) (s : List Step) (h : History) : Type 0 where
  pub front : List Step
  pub step : Step
  pub before : History
  pub event : Event
  pub is : s ≡ front ++ step ∷ []
  pub runs : run_from a o front ≡ Some before
  pub next : next_event a before step ≡ Some event
  pub history : event ∷ before ≡ h

one_step : (a : Program) (g : History) (y : Step) (h : History) (o : Option Event) → next_event a g y ≡ o → run_from a (extended g o) [] ≡ Some h → LastStep a (Some g) (y ∷ []) h
one_step a g y h None e now = absurd cc
one_step a g y h (Some d) e now = record { front = []; step = y; before = g; event = d; is = refl; runs = refl; next = e; history = some_is now }

pub last_step : (a : Program) (o : Option History) (y : Step) (s : List Step) (h : History) → run_from a o (y ∷ s) ≡ Some h → LastStep a o (y ∷ s) h
last_step a None y s h now = absurd cc
last_step a (Some g) y [] h now = one_step a g y h (next_event a g y) refl now
last_step a (Some g) y (z ∷ s) h now =
    let r = last_step a (extended g (next_event a g y)) z s h now in
    record { front = y ∷ r.front; step = r.step; before = r.before; event = r.event; is = ap (λ t. y ∷ t) r.is; runs = r.runs; next = r.next; history = r.history }

pub longer : {X : Type 0} (s : List X) (x : X) → length (s ++ x ∷ []) ≡ length s + 1
longer [] x = refl
longer (y ∷ s) x = omega (arith, longer s x)

pub assoc : {X : Type 0} (xs ys zs : List X) → (xs ++ ys) ++ zs ≡ xs ++ (ys ++ zs)
assoc [] ys zs = refl
assoc (x ∷ xs) ys zs = ap (λ r. x ∷ r) (assoc xs ys zs)

pub same_all : {X : Type 0} (xs : List X) → map (λ y. y) xs ≡ xs
same_all [] = refl
same_all (x ∷ xs) = ap (λ r. x ∷ r) (same_all xs)

map_more : {X Y : Type 0} (f : X → Y) (xs : List X) (x : X) → map f (xs ++ x ∷ []) ≡ map f xs ++ f x ∷ []
map_more f [] x = refl
map_more f (y ∷ xs) x = ap (λ r. f y ∷ r) (map_more f xs x)

-- each of them is a step that may be taken
pub all_may : (d : Delivery) (Agrees : List ℕ → Program → History → Type 0) (a : Program) (h : History) (rs : List Arrived) → AreArrivals d Agrees a h rs → AllByRecursion (MayArrive d Agrees a h) rs
all_may d Agrees a h rs all = go rs all.each (λ r there. subst (IsAmong r.of.step) all.steps (among_map (λ r. r.of.step) rs r there))
  where
    go : (ys : List Arrived) → AllByRecursion (IsArrival Agrees a h) ys → ((r : Arrived) → IsAmong r ys → IsAmong r.of.step (steps_by d a h)) → AllByRecursion (MayArrive d Agrees a h) ys
    go [] each may = tt
    go (y ∷ ys) each may = ((each.0, may y (inl refl)), go ys each.1 (λ r there. may r (inr there)))

module _ (Agrees : List ℕ → Program → History → Type 0) (flags : Flags) where
  -- ---- one step

  pub arrives_at : (schedule s : List Step) (r : Arrived) (old new : List Visit) (before after : Findings) → s ≡ schedule ++ r.of.step ∷ [] → Puts Agrees old s r.row new → AddsSchedule flags s (map identity_in r.of.shown.items) before after → Arrives Agrees flags schedule r old new before after
  arrives_at schedule s r old new before after is puts adds d a k h visited len delivers runs may at in_order first found =
      let arr : IsArrival Agrees a h r = may.0 in
      let now : run a s ≡ Some (arr.event ∷ h) = ap (run a) is ∙ run_more a (Some []) schedule r.of.step h arr.event runs arr.is_next in
      let so : DeliversBy d a s = subst (DeliversBy d a) (sym is) (delivers_more d a schedule r.of.step h delivers runs may.1) in
      let p : PutsAt d Agrees a (k + 1) old s r.row new = puts d a (k + 1) (arr.event ∷ h) (ap length is ∙ longer schedule r.of.step ∙ ap (λ n. n + 1) len) so now arr.agrees at in_order (subst (AreBefore old) (sym is) first) in
      record {
        at = p.at;
        in_order = p.in_order;
        before = λ t less. p.before t (ap (λ q. order_of_schedules q t) is ∙ less);
        keeps = p.keeps;
        covers = λ t g agrees up. p.covers t g agrees (subst (λ q. IsUpTo q t) (sym is) up);
        found = adds a visited (arr.event ∷ h) now arr.shown found ∙ ap (λ t. findings_among flags a (visited ++ t ∷ [])) is;
      }

  -- ---- all steps from a state

  module _ (schedule : List Step) (first : List Visit) (begun : Findings) where
    -- what is after these steps is covered, and what is shown there is found
    pub record ExpandsSoFar (d : Delivery) (a : Program) (k : ℕ) (visited : List (List Step)) (ys : List Arrived) (level : List Visit) (findings : Findings) : Type 0 where
      pub at : AreAt d Agrees a (k + 1) level
      pub in_order : ComeInOrder level
      pub before : (s : List Step) → AreBefore first s → ((r : Arrived) → IsAmong r ys → order_of_schedules (schedule ++ r.of.step ∷ []) s ≡ Less) → AreBefore level s
      pub keeps : Keeps Agrees a first level
      pub covers : (r : Arrived) → IsAmong r ys → (s : List Step) (g : History) → Agrees r.row a g → IsUpTo (schedule ++ r.of.step ∷ []) s → IsCovered Agrees a level s g
      pub found : findings ≡ findings_among flags a (visited ++ on_by schedule (map (λ r. r.of.step) ys))

    abbrev pub SoFar : List Arrived → List Visit → Findings → Type 0
    SoFar ys level findings =
        (d : Delivery) (a : Program) (k : ℕ) (h : History) (visited : List (List Step)) → length schedule ≡ k → DeliversBy d a schedule → run a schedule ≡ Some h
        → AreAt d Agrees a (k + 1) first → ComeInOrder first → AreBeforeNext first schedule → begun ≡ findings_among flags a visited → AllByRecursion (MayArrive d Agrees a h) ys → StepsInOrder ys → ExpandsSoFar d a k visited ys level findings

    pub so_far_none : SoFar [] first begun
    so_far_none d a k h visited len delivers runs at in_order next found all sorted = record {
      at = at;
      in_order = in_order;
      before = λ s before each. before;
      keeps = λ s g c. c;
      covers = λ r there. absurd there;
      found = found ∙ ap (findings_among flags a) (sym (append-nil visited));
    }

    pub so_far_more : (ys : List Arrived) (r : Arrived) (old new : List Visit) (before after : Findings) → SoFar ys old before → Arrives Agrees flags schedule r old new before after → SoFar (ys ++ r ∷ []) new after
    so_far_more ys r old new before after so_far arrives d a k h visited len delivers runs at in_order next found all sorted =
        let by_steps = λ (x y : Arrived). order_of_steps x.of.step y.of.step in
        let p : ExpandsSoFar d a k visited ys old before = so_far d a k h visited len delivers runs at in_order next found (all_front (MayArrive d Agrees a h) ys r all) (sorted_front by_steps ys r sorted) in
        let first_ones : AreBefore old (schedule ++ r.of.step ∷ []) = p.before (schedule ++ r.of.step ∷ []) (next r.of.step) (λ y there. less_by_step schedule y.of.step r.of.step (before_last by_steps ys r sorted y there)) in
        let here : List (List Step) = visited ++ on_by schedule (map (λ r. r.of.step) ys) in
        let q : ArrivesAt d Agrees flags a k here schedule r old new after = arrives d a k h here len delivers runs (all_last (MayArrive d Agrees a h) ys r all) p.at p.in_order first_ones p.found in
        record {
          at = q.at;
          in_order = q.in_order;
          before = λ s first_before each. q.before s (each r (among_right ys (r ∷ []) r (inl refl)));
          keeps = λ s g c. q.keeps s g (p.keeps s g c);
          covers = λ z there s g agrees up. elim (among_append ys (r ∷ []) z there) [
            | inl t ↦ q.keeps s g (p.covers z t s g agrees up)
            | inr t ↦ only z t s g agrees up q
          ];
          found = q.found ∙ ap (findings_among flags a) (assoc visited (on_by schedule (map (λ r. r.of.step) ys)) ((schedule ++ r.of.step ∷ []) ∷ []) ∙ ap (λ t. visited ++ t) (sym (ap (on_by schedule) (map_more (λ r. r.of.step) ys r) ∙ map_more (λ x. schedule ++ x ∷ []) (map (λ r. r.of.step) ys) r.of.step)));
        }
      where
        only : (z : Arrived) → IsAmong z (r ∷ []) → (s : List Step) (g : History) → Agrees z.row a g → IsUpTo (schedule ++ z.of.step ∷ []) s → ArrivesAt d Agrees flags a k (visited ++ on_by schedule (map (λ r. r.of.step) ys)) schedule r old new after → IsCovered Agrees a new s g
        only z (inl e) s g agrees up q = q.covers s g (subst (λ (y : Arrived). Agrees y.row a g) (sym e) agrees) (subst (λ (y : Arrived). IsUpTo (schedule ++ y.of.step ∷ []) s) (sym e) up)
        only z (inr never) s g agrees up q = absurd never

  event_is : (a : Program) (g : History) (x y : Step) (f e : Event) → y ≡ x → next_event a g y ≡ Some f → next_event a g x ≡ Some e → f ≡ e
  event_is a g x y f e is p q = some_is (sym p ∙ ap (next_event a g) is ∙ q)

  pub so_far_all : (d : Delivery) (from : Visit) (rs : List Arrived) (first level : List Visit) (begun after : Findings) → ((a : Program) (h : History) → Agrees from.row a h → AreArrivals d Agrees a h rs) → SoFar (schedule_in from.of) first begun rs level after → Expands d Agrees flags from first level begun after
  so_far_all d from rs first level begun after are so_far a k h visited len delivers runs agrees at in_order next found =
      let all : AreArrivals d Agrees a h rs = are a h agrees in
      let p : ExpandsSoFar (schedule_in from.of) first begun d a k visited rs level after = so_far d a k h visited len delivers runs at in_order next found (all_may d Agrees a h rs all) (arrivals_sorted d a h rs all.steps) in
      record {
        at = p.at;
        in_order = p.in_order;
        before = λ s less x. p.before (s ++ x ∷ []) (λ y there. less_chain (schedule_in y.of) (schedule_in from.of ++ x ∷ []) (s ++ x ∷ []) (next x y there) (less_next (schedule_in from.of) s x x less)) (λ r there. less_next (schedule_in from.of) s r.of.step x less);
        keeps = p.keeps;
        covers = λ s g agrees x e may next up.
            let r : Source (λ (r : Arrived). r.of.step) rs x = source (λ r. r.of.step) rs x (subst (λ xs. IsAmong x xs) (sym (are a g agrees).steps) may) in
            let b : IsArrival Agrees a g r.from = all_have (IsArrival Agrees a g) rs r.from (are a g agrees).each r.is_among in
            let is : b.event ≡ e = event_is a g x r.from.of.step b.event e r.is b.is_next next in
            p.covers r.from r.is_among s (e ∷ g) (subst (λ f. Agrees r.from.row a (f ∷ g)) is b.agrees) (subst (λ z. IsUpTo (schedule_in from.of ++ z ∷ []) s) (sym r.is) up);
        same = λ g agrees x e may next.
            let r : Source (λ (r : Arrived). r.of.step) rs x = source (λ r. r.of.step) rs x (subst (λ xs. IsAmong x xs) (sym (are a g agrees).steps) may) in
            let b : IsArrival Agrees a g r.from = all_have (IsArrival Agrees a g) rs r.from (are a g agrees).each r.is_among in
            let c : IsArrival Agrees a h r.from = all_have (IsArrival Agrees a h) rs r.from all.each r.is_among in
            let is : b.event ≡ e = event_is a g x r.from.of.step b.event e r.is b.is_next next in
            (subst (IsAmong x) (sym (are a g agrees).steps ∙ all.steps) may, c.event, sym (ap (next_event a h) r.is) ∙ c.is_next, sym c.shown ∙ b.shown ∙ ap (λ f. shown a (f ∷ g)) is);
        found = p.found ∙ ap (λ xs. findings_among flags a (visited ++ on_by (schedule_in from.of) xs)) all.steps;
      }
