-- One level after another.
use Rattle.std.proofs.Common.{◌<◌, slice_get, ◌≡◌, ◌⊎◌, inl, inr, ℕ, zero, suc, ◌+◌, ◌≤◌, List, [], ◌∷◌, ◌++◌, length, take, Option, Some, None, is_some, true, refl, sym, ap, subst, ◌∙◌, arith, drop, slice_range, ◌-◌, take_all, length-take-le, length-drop}
use Rattle.std.proofs.lemmas.List.{append-nil, take_more}
use Rattle.std.proofs.lemmas.List.{drop_more}
use Rattle.std.proofs.lemmas.Option.{get_or_from_slice_get, slice_get_within}
use Rattle.search_levels.specs.inside.Expanding.{GoesOnSoFar, LevelSoFar, Expands, ExpandsAt, on_by}
use Rattle.search_levels.specs.inside.Levels.{IsAt, IsCovered}
use Rattle.search_levels.specs.inside.Paths.{schedule_in}
use Rattle.search_levels.specs.inside.Searching.{Begins, GoesOn, IsLevel}
use Rattle.search_levels.specs.inside.Visits.{Visit}
use Rattle.search_levels.proofs.Arriving.{LastStep, assoc, last_step, longer}
use Rattle.search_levels.proofs.InOrder.{before_last, sorted_front, sorted_none}
use Rattle.search_levels.proofs.Orders.{up_to_itself, up_to_more}
use Rattle.search_levels.proofs.Placed.{got_there}
use Rattle.search_levels.proofs.Putting.{PutsAt, puts_last}
use Rattle.term_core.specs.StepOrder.{order_of_schedules}
use Rattle.term_core.specs.declared.step.Step.{Step}
use Rattle.tree_coverage.specs.Findings.{Findings, findings_among}
use Rattle.tree_coverage.proofs.Lists.{Source, among_append, among_left, among_map, among_right, kept_passes, source}
use Rattle.tree_schedules.proofs.Delivering.{delivers_front, delivers_last, delivers_more, delivers_none, run_more, steps_enabled}
use Rattle.tree_schedules.proofs.Least.{stand_ins}
use Rattle.tree_schedules.specs.Deliveries.{DeliversBy, steps_by}
use Rattle.tree_schedules.specs.Schedules.{IsRunBy, findings_of_all}
use Rattle.tree_schedules.specs.StandIns.{HasStandIn, IsUpTo, StandForAll}
use Rattle.tree_schedules.specs.declared.delivery.Delivery.{Delivery}
use Rattle.world_model.specs.Events.{Event, History}
use Rattle.world_model.specs.Names.{IsAmong}
use Rattle.world_model.specs.Requests.{Program}
use Rattle.world_model.specs.Run.{is_enabled, next_event, possible_steps, run}
use Rattle.world_model.specs.Shown.{Flags, shown}

-- the element at this place
pub element : {X : Type 0} (xs : List X) (i : ℕ) (x : X) → slice_get xs i ≡ Some x → IsAmong x xs
element xs i x is = subst (λ y. IsAmong y xs) (get_or_from_slice_get xs i x x is) (got_there xs i x (slice_get_within xs i x is))

-- so many elements, and the one at this place
pub taken : {X : Type 0} (xs : List X) (i : ℕ) (x : X) → slice_get xs i ≡ Some x → take (i + 1) xs ≡ take i xs ++ x ∷ []
taken xs i x is = take_more xs i x (slice_get_within xs i x is) ∙ ap (λ y. take i xs ++ y ∷ []) (get_or_from_slice_get xs i x x is)

-- the elements from a place on are that one and those after it
pub left_at : {X : Type 0} (xs : List X) (i : ℕ) (x : X) → slice_get xs i ≡ Some x → drop i xs ≡ x ∷ drop (i + 1) xs
left_at xs i x is = drop_more xs i x (slice_get_within xs i x is) ∙ ap (λ y. y ∷ drop (i + 1) xs) (get_or_from_slice_get xs i x x is)

-- what stands after so many elements
pub got_dropped : {X : Type 0} (xs : List X) (a i n : ℕ) → a + i ≡ n → slice_get (drop a xs) i ≡ slice_get xs n
got_dropped xs zero i n is = ap (slice_get xs) (omega (arith, is))
got_dropped [] (suc a) i n is = refl
got_dropped (x ∷ xs) (suc a) i zero is = absurd (omega (arith, is))
got_dropped (x ∷ xs) (suc a) i (suc n) is = got_dropped xs a i n (omega (arith, is))

-- what stands among so many elements
pub got_within : {X : Type 0} (xs : List X) (n i : ℕ) → i < n → slice_get (take n xs) i ≡ slice_get xs i
got_within xs zero i lt = absurd (omega (arith, lt))
got_within [] (suc n) i lt = refl
got_within (x ∷ xs) (suc n) zero lt = refl
got_within (x ∷ xs) (suc n) (suc i) lt = got_within xs n i (omega (arith, lt))

-- a part of a list, and the element after it
pub range_next : {X : Type 0} (xs : List X) (a b : ℕ) (x : X) → a ≤ b → slice_get xs b ≡ Some x → slice_range xs a (b + 1) ≡ slice_range xs a b ++ x ∷ []
range_next xs a b x le is =
    let more : b + 1 - a ≡ b - a + 1 = omega (arith, le) in
    let on : a + (b - a) ≡ b = omega (arith, le) in
    ap (λ n. take n (drop a xs)) more ∙ taken (drop a xs) (b - a) x (got_dropped xs a (b - a) b on ∙ is)

pub range_none : {X : Type 0} (xs : List X) (a : ℕ) → slice_range xs a a ≡ []
range_none xs a = let none : a - a ≡ 0 = omega arith in ap (λ n. take n (drop a xs)) none

pub whole_range : {X : Type 0} (xs : List X) (n : ℕ) → n ≡ length xs → slice_range xs 0 n ≡ xs
whole_range xs n is = take_all (n - 0) xs (omega (arith, is))

pub range_first : {X : Type 0} (xs : List X) (a b : ℕ) (x : X) → a < b → slice_get xs a ≡ Some x → slice_range xs a b ≡ x ∷ slice_range xs (a + 1) b
range_first xs a b x lt is =
    let more : b - a ≡ suc (b - (a + 1)) = omega (arith, lt) in
    ap (take (b - a)) (left_at xs a x is) ∙ ap (λ n. take n (x ∷ drop (a + 1) xs)) more

pub range_length : {X : Type 0} (xs : List X) (a b : ℕ) → a ≤ b → b ≤ length xs → length (slice_range xs a b) ≡ b - a
range_length xs a b le within = length-take-le (b - a) (drop a xs) (omega (arith, le, within, length-drop a xs))

pub got_range : {X : Type 0} (xs : List X) (a b i : ℕ) → a ≤ i → i < b → slice_get (slice_range xs a b) (i - a) ≡ slice_get xs i
got_range xs a b i le lt = got_within (drop a xs) (b - a) (i - a) (omega (arith, le, lt)) ∙ got_dropped xs a (i - a) i (omega (arith, le))

-- an event, if there is one
pub some_event : (o : Option Event) → is_some o ≡ true → (e : Event) × (o ≡ Some e)
some_event None e = absurd cc
some_event (Some d) e = (d, refl)

module _ (d : Delivery) (Agrees : List ℕ → Program → History → Type 0) (flags : Flags) (begun : Findings) where
  pub level_none : LevelSoFar d Agrees flags begun [] [] begun
  level_none a k visited at in_order found = record {
    at = λ x there. absurd there;
    in_order = in_order;
    before = λ s before x y there. absurd there;
    covers = λ y there. absurd there;
    more = [];
    found = found ∙ ap (findings_among flags a) (sym (append-nil visited));
    runs = λ s there. absurd there;
    shows = λ y there. absurd there;
  }

  on_runs : (a : Program) (k : ℕ) (path : List Step) (h : History) → length path ≡ k → DeliversBy d a path → run a path ≡ Some h → (s : List Step) → IsAmong s (on_by path (steps_by d a h)) → (length s ≡ k + 1) × DeliversBy d a s × (g : History) × (run a s ≡ Some g)
  on_runs a k path h len delivers runs s there =
      let b : Source (λ (x : Step). path ++ x ∷ []) (steps_by d a h) s = source (λ x. path ++ x ∷ []) (steps_by d a h) s there in
      let f : (e : Event) × (next_event a h b.from ≡ Some e) = some_event (next_event a h b.from) ((kept_passes (is_enabled a h) (possible_steps h) b.from (steps_enabled d a h b.from b.is_among)).0) in
      subst (λ t. (length t ≡ k + 1) × DeliversBy d a t × (g : History) × (run a t ≡ Some g)) b.is (longer path b.from ∙ ap (λ n. n + 1) len, delivers_more d a path b.from h delivers runs b.is_among, f.0 ∷ h, run_more a (Some []) path b.from h f.0 runs f.1)

  pub level_more : (done : List Visit) (y : Visit) (old new : List Visit) (before after : Findings) → LevelSoFar d Agrees flags begun done old before → Expands d Agrees flags y old new before after → LevelSoFar d Agrees flags begun (done ++ y ∷ []) new after
  level_more done y old new before after so_far expands a k visited at in_order found =
      let by_schedules = λ (x z : Visit). order_of_schedules (schedule_in x.of) (schedule_in z.of) in
      let p : GoesOnSoFar d Agrees flags a k visited done old before = so_far a k visited (λ x there. at x (among_left done (y ∷ []) x there)) (sorted_front by_schedules done y in_order) found in
      let y_at : IsAt d Agrees a k y = at y (among_right done (y ∷ []) y (inl refl)) in
      let h : History = y_at.2 in
      let q : ExpandsAt d Agrees flags a k h (visited ++ p.more) y old new after = expands a k h (visited ++ p.more) y_at.0 y_at.1 y_at.3 y_at.4 p.at p.in_order (p.before (schedule_in y.of) (before_last by_schedules done y in_order)) p.found in
      let here : List (List Step) = on_by (schedule_in y.of) (steps_by d a h) in
      record {
        at = q.at;
        in_order = q.in_order;
        before = λ s before_s. q.before s (before_s y (among_right done (y ∷ []) y (inl refl)));
        covers = λ z there s g agrees x e may next up. elim (among_append done (y ∷ []) z there) [
          | inl t ↦ q.keeps s (e ∷ g) (p.covers z t s g agrees x e may next up)
          | inr t ↦ one_covers z t s g agrees x e may next up h (visited ++ p.more) q
        ];
        more = p.more ++ here;
        found = q.found ∙ ap (findings_among flags a) (assoc visited p.more here);
        runs = λ s there. elim (among_append p.more here s there) [ inl t ↦ p.runs s t | inr t ↦ on_runs a k (schedule_in y.of) h y_at.0 y_at.1 y_at.3 s t ];
        shows = λ z there g agrees x e may next. elim (among_append done (y ∷ []) z there) [
          | inl t ↦ (let r = p.shows z t g agrees x e may next in (r.0, among_left p.more here _ r.1, r.2, r.3))
          | inr t ↦ one_shows z t g agrees x e may next p.more h (visited ++ p.more) y_at.3 q
        ];
      }
    where
      one_covers : (z : Visit) → IsAmong z (y ∷ []) → (s : List Step) (g : History) → Agrees z.row a g → (x : Step) (e : Event) → IsAmong x (steps_by d a g) → next_event a g x ≡ Some e → IsUpTo (schedule_in z.of ++ x ∷ []) s → (h : History) (here : List (List Step)) → ExpandsAt d Agrees flags a k h here y old new after → IsCovered Agrees a new s (e ∷ g)
      one_covers z (inl is) s g agrees x e may next up h here q = q.covers s g (subst (λ (v : Visit). Agrees v.row a g) (sym is) agrees) x e may next (subst (λ (v : Visit). IsUpTo (schedule_in v.of ++ x ∷ []) s) (sym is) up)
      one_covers z (inr never) s g agrees x e may next up h here q = absurd never

      one_shows : (z : Visit) → IsAmong z (y ∷ []) → (g : History) → Agrees z.row a g → (x : Step) (e : Event) → IsAmong x (steps_by d a g) → next_event a g x ≡ Some e → (more : List (List Step)) (h : History) (here : List (List Step)) → run a (schedule_in y.of) ≡ Some h → ExpandsAt d Agrees flags a k h here y old new after
          → (f : History) × IsAmong (schedule_in z.of ++ x ∷ []) (more ++ on_by (schedule_in y.of) (steps_by d a h)) × (run a (schedule_in z.of ++ x ∷ []) ≡ Some f) × (shown a f ≡ shown a (e ∷ g))
      one_shows z (inl is) g agrees x e may next more h here runs q =
          let f = q.same g (subst (λ (v : Visit). Agrees v.row a g) (sym is) agrees) x e may next in
          subst (λ (v : Visit). (f : History) × IsAmong (schedule_in v.of ++ x ∷ []) (more ++ on_by (schedule_in y.of) (steps_by d a h)) × (run a (schedule_in v.of ++ x ∷ []) ≡ Some f) × (shown a f ≡ shown a (e ∷ g))) is
          (f.1 ∷ h, among_right more _ _ (among_map (λ z. schedule_in y.of ++ z ∷ []) (steps_by d a h) x f.0), run_more a (Some []) (schedule_in y.of) x h f.1 runs f.2, f.3)
      one_shows z (inr never) g agrees x e may next more h here runs q = absurd never

  -- ---- the whole level

  shorter : (n k : ℕ) → n ≤ k + 1 → (n ≤ k) ⊎ (n ≡ k + 1)
  shorter zero k short = inl (omega arith)
  shorter (suc n) zero short = inr (omega (arith, short))
  shorter (suc n) (suc k) short = elim (shorter n k (omega (arith, short))) [ inl e ↦ inl (omega (arith, e)) | inr e ↦ inr (omega (arith, e)) ]

  split : (a : Program) (k : ℕ) (s : List Step) (h : History) → length s ≡ k + 1 → run a s ≡ Some h → LastStep a (Some []) s h
  split a k [] h len now = absurd (omega (arith, len))
  split a k (y ∷ s) h len now = last_step a (Some []) y s h now

  fronts : (k : ℕ) (s front : List Step) (x : Step) → s ≡ front ++ x ∷ [] → length s ≡ k + 1 → length front ≡ k
  fronts k s front x is len = let e : length front + 1 ≡ k + 1 = sym (longer front x) ∙ sym (ap length is) ∙ len in omega (arith, e)

  pub goes_on : (level next : List Visit) (after : Findings) → LevelSoFar d Agrees flags begun level next after → GoesOn d Agrees flags level next begun after
  goes_on level next after so_far a k l = record {
    at = p.at;
    in_order = p.in_order;
    covers = λ s h len delivers now. covers s h len delivers now;
    visited = l.visited ++ p.more;
    stand = record { runs = runs; stand = stand };
    found = p.found;
  }
    where
      p : GoesOnSoFar d Agrees flags a k l.visited level next after
      p = so_far a k l.visited l.at l.in_order l.found

      covers : (s : List Step) (h : History) → length s ≡ k + 1 → DeliversBy d a s → run a s ≡ Some h → IsCovered Agrees a next s h
      covers s h len delivers now =
          let r : LastStep a (Some []) s h = split a k s h len now in
          let n : length r.front ≡ k = fronts k s r.front r.step r.is len in
          let so : DeliversBy d a (r.front ++ r.step ∷ []) = subst (DeliversBy d a) r.is delivers in
          let may : IsAmong r.step (steps_by d a r.before) = delivers_last d a r.front r.step r.before r.event so r.runs r.next in
          let y : IsCovered Agrees a level r.front r.before = l.covers r.front r.before n (delivers_front d a r.front r.step so) r.runs in
          subst (λ g. IsCovered Agrees a next s g) r.history
          (p.covers y.0 y.1 s r.before y.2 r.step r.event may r.next (subst (λ t. IsUpTo (schedule_in y.0.of ++ r.step ∷ []) t) (sym r.is) (up_to_more r.step (schedule_in y.0.of) r.front y.3)))

      runs : (s : List Step) → IsAmong s (l.visited ++ p.more) → IsRunBy d a (k + 1) s
      runs s there = elim (among_append l.visited p.more s there) [
        | inl t ↦ (let r = l.stand.runs s t in let short : length s ≤ k = r.0 in (omega (arith, short), r.1, r.2, r.3))
        | inr t ↦ (let r = p.runs s t in let len : length s ≡ k + 1 = r.0 in (omega (arith, len), r.1, r.2, r.3))
      ]

      last : (s : List Step) (h : History) → length s ≡ k + 1 → DeliversBy d a s → run a s ≡ Some h → HasStandIn a (l.visited ++ p.more) s h
      last s h len delivers now =
          let r : LastStep a (Some []) s h = split a k s h len now in
          let n : length r.front ≡ k = fronts k s r.front r.step r.is len in
          let so : DeliversBy d a (r.front ++ r.step ∷ []) = subst (DeliversBy d a) r.is delivers in
          let may : IsAmong r.step (steps_by d a r.before) = delivers_last d a r.front r.step r.before r.event so r.runs r.next in
          let y : IsCovered Agrees a level r.front r.before = l.covers r.front r.before n (delivers_front d a r.front r.step so) r.runs in
          let f = p.shows y.0 y.1 r.before y.2 r.step r.event may r.next in
          record {
            by = schedule_in y.0.of ++ r.step ∷ [];
            is_among = among_right l.visited p.more _ f.1;
            history = f.0;
            runs = f.2;
            same = f.3 ∙ ap (shown a) r.history;
            up_to = subst (λ t. IsUpTo (schedule_in y.0.of ++ r.step ∷ []) t) (sym r.is) (up_to_more r.step (schedule_in y.0.of) r.front y.3);
          }

      stand : (s : List Step) (h : History) → length s ≤ k + 1 → DeliversBy d a s → run a s ≡ Some h → HasStandIn a (l.visited ++ p.more) s h
      stand s h short delivers now = elim (shorter (length s) k short) [
        | inl t ↦ (let b : HasStandIn a l.visited s h = l.stand.stand s h t delivers now in record { by = b.by; is_among = among_left l.visited p.more b.by b.is_among; history = b.history; runs = b.runs; same = b.same; up_to = b.up_to })
        | inr t ↦ last s h t delivers now
      ]

-- ---- the first level

-- the schedule without steps stands for all that have none
pub alone : (d : Delivery) (a : Program) → StandForAll d a 0 ([] ∷ [])
alone d a = record { runs = runs; stand = stand }
  where
    runs : (s : List Step) → IsAmong s ([] ∷ []) → IsRunBy d a 0 s
    runs s (inl e) = subst (IsRunBy d a 0) e (omega arith, delivers_none d a, [], refl)
    runs s (inr never) = absurd never

    stand : (s : List Step) (h : History) → length s ≤ 0 → DeliversBy d a s → run a s ≡ Some h → HasStandIn a ([] ∷ []) s h
    stand [] h short delivers now = record { by = []; is_among = inl refl; history = h; runs = now; same = refl; up_to = up_to_itself [] }
    stand (y ∷ s) h short delivers now = absurd (omega (arith, short))

module _ (Agrees : List ℕ → Program → History → Type 0) where
  pub begins : (x : Visit) → schedule_in x.of ≡ [] → Begins Agrees x.row (x ∷ [])
  begins x none d a agrees =
      let delivers : DeliversBy d a (schedule_in x.of) = subst (DeliversBy d a) (sym none) (delivers_none d a) in
      let p : PutsAt d Agrees a 0 [] (schedule_in x.of) x.row (x ∷ []) = puts_last Agrees [] x d a 0 [] (ap length none) delivers (ap (run a) none) agrees (λ y there. absurd there) (sorted_none _) (λ y there. absurd there) in
      (p.at, p.in_order, p.covers [] [] agrees (subst (λ t. IsUpTo t []) (sym none) (up_to_itself [])))

module _ (d : Delivery) (Agrees : List ℕ → Program → History → Type 0) (flags : Flags) (a : Program) where
  some_history : {h g : History} → Some h ≡ Some g → h ≡ g
  some_history e = cc

  pub first_level : (first : List ℕ) (level : List Visit) (findings : Findings) → Begins Agrees first level → Agrees first a [] → findings ≡ findings_among flags a ([] ∷ []) → IsLevel d Agrees flags a 0 level findings
  first_level first level findings begun agrees found = record {
    at = (begun d a agrees).0;
    in_order = (begun d a agrees).1;
    covers = covers;
    visited = [] ∷ [];
    stand = alone d a;
    found = found;
  }
    where
      covers : (s : List Step) (h : History) → length s ≡ 0 → DeliversBy d a s → run a s ≡ Some h → IsCovered Agrees a level s h
      covers [] h len delivers now = subst (λ g. IsCovered Agrees a level [] g) (some_history now) (begun d a agrees).2
      covers (y ∷ s) h len delivers now = absurd (omega (arith, len))

  -- where the last level is reached, all is found
  pub all_found : (n : ℕ) (level : List Visit) (findings : Findings) → IsLevel d Agrees flags a n level findings → findings ≡ findings_of_all flags d a n
  all_found n level findings l = l.found ∙ stand_ins flags d a n l.visited l.stand
