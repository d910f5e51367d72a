-- Steps from states that were followed.
use Rattle.std.proofs.Common.{◌≡◌, ◌∙◌, ◌+◌, ◌≤◌, inl, inr, ℕ, zero, suc, List, [], ◌∷◌, ◌++◌, Option, Some, None, map, slice_get, slice_range, refl, sym, ap, subst, arith, append_assoc, append-nil}
use Rattle.std.specs.List.{AllByRecursion}
use Rattle.std.specs.declared.cmp.Ordering.TheVariants.{Less}
use Rattle.core_tree.specs.Syntax.{ModuleTree}
use Rattle.search_levels.specs.Arrivals.{AreArrivals, Arrived}
use Rattle.search_levels.specs.Known.{Grows}
use Rattle.search_levels.specs.Rows.{HasRow}
use Rattle.search_levels.specs.inside.Expanding.{Arrives, ArrivesAt, Expands, MayArrive, NotesAll, NotesArrival, NotesArrivals}
use Rattle.search_levels.specs.inside.Following.{AreFollowed, AreKnownArrivals, AreShares, ArriveAll, FollowsOne, IsCopy, IsMerged, IsReady, KeepsRows, TakesRow, TakesRows, Thins, place_after, rows_after, taken_by}
use Rattle.search_levels.specs.inside.Levels.{AreBefore}
use Rattle.search_levels.specs.inside.Paths.{schedule_in}
use Rattle.search_levels.specs.inside.Visits.{Visit}
use Rattle.search_levels.specs.declared.share.Share.{Share}
use Rattle.search_levels.proofs.Arriving.{SoFar, all_may, arrives_at, so_far_all, so_far_more, so_far_none}
use Rattle.search_levels.proofs.Noting.{notes_both, notes_none}
use Rattle.search_levels.proofs.Placed.{all_have}
use Rattle.search_levels.proofs.Putting.{is_there}
use Rattle.search_levels.proofs.Thinning.{thins_source}
use Rattle.term_core.specs.StepOrder.{order_of_schedules}
use Rattle.term_core.specs.declared.step.Step.{Step}
use Rattle.tree_coverage.specs.Findings.{Findings, findings_among}
use Rattle.tree_coverage.proofs.Lists.{all_among, among_left, among_right}
use Rattle.tree_findings.proofs.Schedules.{adds_schedule}
use Rattle.tree_findings.specs.Laws.{AddsSchedule}
use Rattle.tree_schedules.specs.Deliveries.{steps_by}
use Rattle.tree_schedules.specs.StandIns.{IsUpTo}
use Rattle.tree_schedules.specs.declared.delivery.Delivery.{Delivery}
use Rattle.world_identities.specs.Identities.{identity_in}
use Rattle.world_model.specs.Events.{History}
use Rattle.world_model.specs.Names.{IsAmong}
use Rattle.world_model.specs.Requests.{Program}
use Rattle.world_model.specs.Run.{next_event}
use Rattle.world_model.specs.Shown.{Flags}

-- ---- rows of levels

pub put_last : (old new : List Visit) (x : Visit) → new ≡ old ++ x ∷ [] → TakesRow old x.row new
put_last old new x is = (λ row has. (has.0, subst (IsAmong has.0) (sym is) (among_left old (x ∷ []) has.0 has.1), has.2), (x, subst (IsAmong x) (sym is) (among_right old (x ∷ []) x (inl refl)), refl))

pub same_rows : (level : List Visit) → KeepsRows level level
same_rows level row has = has

pub takes_none : (level : List Visit) → TakesRows level [] level
takes_none level = (same_rows level, λ r there. absurd there)

pub takes_more : (old mid new : List Visit) (rs : List Arrived) (r : Arrived) → TakesRows old rs mid → TakesRow mid r.row new → TakesRows old (rs ++ r ∷ []) new
takes_more old mid new rs r before one = (λ row has. one.0 row (before.0 row has), λ x there. go rs before.1 x there)
  where
    go : (ys : List Arrived) → ((x : Arrived) → IsAmong x ys → HasRow mid x.row) → (x : Arrived) → IsAmong x (ys ++ r ∷ []) → HasRow new x.row
    go [] each x (inl e) = subst (λ (z : Arrived). HasRow new z.row) e one.1
    go [] each x (inr never) = absurd never
    go (y ∷ ys) each x (inl e) = one.0 x.row (each x (inl e))
    go (y ∷ ys) each x (inr there) = go ys (λ z t. each z (inr t)) x there

-- the rows that were there before, and those of arrivals, are there
pub have_after : (ks : List Arrived) (rows : List (List ℕ)) (new : List Visit) → ((row : List ℕ) → IsAmong row rows → HasRow new row) → ((r : Arrived) → IsAmong r ks → HasRow new r.row) → (row : List ℕ) → IsAmong row (rows_after ks rows) → HasRow new row
have_after [] rows new have each row there = have row there
have_after (k ∷ ks) rows new have each row there = have_after ks (k.row ∷ rows) new one (λ r t. each r (inr t)) row there
  where
    one : (r : List ℕ) → IsAmong r (k.row ∷ rows) → HasRow new r
    one r (inl e) = subst (HasRow new) e (each k (inl refl))
    one r (inr t) = have r t

module _ (Agrees : List ℕ → Program → History → Type 0) (flags : Flags) (schedule : List Step) where
  -- ---- one step

  pub arrive_last : (rs : List Arrived) (r : Arrived) (old mid new : List Visit) (before found after : Findings) → ArriveAll Agrees flags schedule rs old mid before found → Arrives Agrees flags schedule r mid new found after → TakesRow mid r.row new → ArriveAll Agrees flags schedule (rs ++ r ∷ []) old new before after
  arrive_last [] r old mid new before found after so_far arrives takes =
      (new, after, subst (λ v. Arrives Agrees flags schedule r v new before after) so_far.0 (subst (λ f. Arrives Agrees flags schedule r mid new f after) so_far.1 arrives), subst (λ v. TakesRow v r.row new) so_far.0 takes, (refl, refl))
  arrive_last (x ∷ rs) r old mid new before found after so_far arrives takes = (so_far.0, so_far.1, so_far.2, so_far.3, arrive_last rs r so_far.0 mid new so_far.1 found after so_far.4 arrives takes)

  -- one that is left out changes nothing
  left_out : (r : Arrived) (level : List Visit) (findings : Findings) → r.of.shown.items ≡ [] → HasRow level r.row → Arrives Agrees flags schedule r level level findings findings
  left_out r level findings none there =
      let longer : List Step = schedule ++ r.of.step ∷ [] in
      arrives_at Agrees flags schedule longer r level level findings findings refl (is_there Agrees level longer r.row there.0 there.1 there.2)
      (subst (λ is. AddsSchedule flags longer is findings findings) (sym (ap (map identity_in) none)) (adds_schedule flags longer [] findings findings refl))

  copied : (k r : Arrived) (old new : List Visit) (before after : Findings) → IsCopy k r → Arrives Agrees flags schedule k old new before after → Arrives Agrees flags schedule r old new before after
  copied k r old new before after copy arrives d a n h visited len delivers runs may at in_order first found =
      let q : ArrivesAt d Agrees flags a n visited schedule k old new after = arrives d a n h visited len delivers runs (copy_may d a h k r copy may) at in_order (subst (λ x. AreBefore old (schedule ++ x ∷ [])) (sym copy.step) first) found in
      record {
        at = q.at;
        in_order = q.in_order;
        before = λ s less. q.before s (subst (λ x. order_of_schedules (schedule ++ x ∷ []) s ≡ Less) (sym copy.step) less);
        keeps = q.keeps;
        covers = λ s g agrees up. q.covers s g (subst (λ row. Agrees row a g) (sym copy.row) agrees) (subst (λ x. IsUpTo (schedule ++ x ∷ []) s) (sym copy.step) up);
        found = q.found ∙ ap (λ x. findings_among flags a (visited ++ (schedule ++ x ∷ []) ∷ [])) copy.step;
      }
    where
      copy_may : (d : Delivery) (a : Program) (h : History) (k r : Arrived) → IsCopy k r → MayArrive d Agrees a h r → MayArrive d Agrees a h k
      copy_may d a h k r copy may = (
        record { event = may.0.event; is_next = ap (next_event a h) copy.step ∙ may.0.is_next; agrees = subst (λ row. Agrees row a (may.0.event ∷ h)) (sym copy.row) may.0.agrees; shown = copy.shown ∙ may.0.shown },
        subst (λ x. IsAmong x (steps_by d a h)) (sym copy.step) may.1,
      )

  -- ---- all steps

  thins_arrive : (first : List Visit) (begun : Findings) (ys rs ks : List Arrived) (rows : List (List ℕ)) (level new : List Visit) (findings after : Findings) → SoFar Agrees flags schedule first begun ys level findings → Thins rows rs ks → ((row : List ℕ) → IsAmong row rows → HasRow level row) → ArriveAll Agrees flags schedule ks level new findings after → SoFar Agrees flags schedule first begun (ys ++ rs) new after
  thins_arrive first begun ys [] [] rows level new findings after so_far thins have arrive =
      subst (λ zs. SoFar Agrees flags schedule first begun zs new after) (sym (append-nil ys)) (subst (λ f. SoFar Agrees flags schedule first begun ys new f) (sym arrive.1) (subst (λ v. SoFar Agrees flags schedule first begun ys v findings) (sym arrive.0) so_far))
  thins_arrive first begun ys [] (k ∷ ks) rows level new findings after so_far thins have arrive = absurd thins
  thins_arrive first begun ys (r ∷ rs) [] rows level new findings after so_far thins have arrive =
      let on = so_far_more Agrees flags schedule first begun ys r level level findings findings so_far (left_out r level findings thins.0.0 (have r.row thins.0.1)) in
      subst (λ zs. SoFar Agrees flags schedule first begun zs new after) (append_assoc ys (r ∷ []) rs) (thins_arrive first begun (ys ++ r ∷ []) rs [] rows level new findings after on thins.1 have arrive)
  thins_arrive first begun ys (r ∷ rs) (k ∷ ks) rows level new findings after so_far (inl thins) have arrive =
      let on = so_far_more Agrees flags schedule first begun ys r level level findings findings so_far (left_out r level findings thins.0.0 (have r.row thins.0.1)) in
      subst (λ zs. SoFar Agrees flags schedule first begun zs new after) (append_assoc ys (r ∷ []) rs) (thins_arrive first begun (ys ++ r ∷ []) rs (k ∷ ks) rows level new findings after on thins.1 have arrive)
  thins_arrive first begun ys (r ∷ rs) (k ∷ ks) rows level new findings after so_far (inr thins) have arrive =
      let mid : List Visit = arrive.0 in
      let on = so_far_more Agrees flags schedule first begun ys r level mid findings arrive.1 so_far (copied k r level mid findings arrive.1 thins.0 arrive.2) in
      subst (λ zs. SoFar Agrees flags schedule first begun zs new after) (append_assoc ys (r ∷ []) rs) (thins_arrive first begun (ys ++ r ∷ []) rs ks (k.row ∷ rows) mid new arrive.1 after on thins.1 (in_mid mid arrive.3) arrive.4)
    where
      in_mid : (mid : List Visit) → TakesRow level k.row mid → (row : List ℕ) → IsAmong row (k.row ∷ rows) → HasRow mid row
      in_mid mid takes row (inl e) = subst (HasRow mid) e takes.1
      in_mid mid takes row (inr there) = takes.0 row (have row there)

pub thins_itself : (rows : List (List ℕ)) (rs : List Arrived) → Thins rows rs rs
thins_itself rows [] = tt
thins_itself rows (r ∷ rs) = inr (record { step = refl; shown = refl; row = refl }, thins_itself (r.row ∷ rows) rs)

pub expands_thinned : (Agrees : List ℕ → Program → History → Type 0) (flags : Flags) (d : Delivery) (from : Visit) (all ks : List Arrived) (rows : List (List ℕ)) (old new : List Visit) (before after : Findings)
    → ((a : Program) (h : History) → Agrees from.row a h → AreArrivals d Agrees a h all) → Thins rows all ks → ((row : List ℕ) → IsAmong row rows → HasRow old row) → ArriveAll Agrees flags (schedule_in from.of) ks old new before after → Expands d Agrees flags from old new before after
expands_thinned Agrees flags d from all ks rows old new before after are thins have arrive =
    so_far_all Agrees flags d from all old new before after are (thins_arrive Agrees flags (schedule_in from.of) old before [] all ks rows old new before after (so_far_none Agrees flags (schedule_in from.of) old before) thins have arrive)

-- ---- also where it stops before its end

pub no_notes : (Agrees : List ℕ → Program → History → Type 0) (flags : Flags) (schedule : List Step) (rs : List Arrived) (begun : Findings) → NotesAll Agrees flags schedule rs begun begun
no_notes Agrees flags schedule rs begun d a k h len delivers runs each = notes_none flags d a (k + 1) begun begun refl

pub more_notes : (Agrees : List ℕ → Program → History → Type 0) (flags : Flags) (schedule : List Step) (rs : List Arrived) (r : Arrived) (begun before after : Findings) → IsAmong r rs → NotesAll Agrees flags schedule rs begun before → NotesArrival Agrees flags schedule r before after → NotesAll Agrees flags schedule rs begun after
more_notes Agrees flags schedule rs r begun before after there so_far more d a k h len delivers runs each =
    notes_both flags d a (k + 1) begun before after (so_far d a k h len delivers runs each) (more d a k h len delivers runs (each r there))

pub notes_thinned : (Agrees : List ℕ → Program → History → Type 0) (flags : Flags) (d : Delivery) (from : Visit) (all ks : List Arrived) (rows : List (List ℕ)) (before after : Findings)
    → ((a : Program) (h : History) → Agrees from.row a h → AreArrivals d Agrees a h all) → Thins rows all ks → NotesAll Agrees flags (schedule_in from.of) ks before after → NotesArrivals d Agrees flags from before after
notes_thinned Agrees flags d from all ks rows before after are thins notes a k h len delivers runs agrees =
    notes d a k h len delivers runs (λ x there.
    let s = thins_source rows all ks x thins there in
    let may : MayArrive d Agrees a h s.0 = all_have (MayArrive d Agrees a h) all s.0 (all_may d Agrees a h all (are a h agrees)) s.1 in (
      record { event = may.0.event; is_next = ap (next_event a h) s.2.step ∙ may.0.is_next; agrees = subst (λ row. Agrees row a (may.0.event ∷ h)) (sym s.2.row) may.0.agrees; shown = s.2.shown ∙ may.0.shown },
      subst (λ y. IsAmong y (steps_by d a h)) (sym s.2.step) may.1,
    ))

-- ---- what can be read

pub all_read : (IsOf : List ℕ → Type 0) (rows : List (List ℕ)) (all ks : List Arrived) → Thins rows all ks → AllByRecursion (λ r. IsOf r.row) all → AllByRecursion (λ r. IsOf r.row) ks
all_read IsOf rows all ks thins are = all_among (λ (r : Arrived). IsOf r.row) ks (λ x there. let s = thins_source rows all ks x thins there in subst IsOf (sym s.2.row) (all_have (λ (r : Arrived). IsOf r.row) all s.0 are s.1))

module _ {K : Type 0} (Agrees : K → List ℕ → ModuleTree → History → Type 0) (IsOf : K → List ℕ → Type 0) (Follows : K → K → Type 0) (before now : K) (grows : Grows IsOf Follows before now) (d : Delivery) where
  still_known : (row : List ℕ) (all : List Arrived) → AreKnownArrivals Agrees IsOf Follows before d row all → AreKnownArrivals Agrees IsOf Follows now d row all
  still_known row all are = (λ k later m. are.0 k (grows.passes k later) m, all_among (λ (r : Arrived). IsOf now r.row) all (λ x there. grows.keeps x.row (all_have (λ (r : Arrived). IsOf before r.row) all x are.1 there)))

  pub still_follows : (rows : List (List ℕ)) (x : Visit) (ks : List Arrived) → FollowsOne (AreKnownArrivals Agrees IsOf Follows before d) rows x ks → FollowsOne (AreKnownArrivals Agrees IsOf Follows now d) rows x ks
  still_follows rows x ks is = (is.0, still_known x.row is.0 is.1, is.2)

  pub still_ready : (x : Visit) (ks : List Arrived) (at : ℕ) (e : Option ℕ) (next : List Visit) → IsReady (AreKnownArrivals Agrees IsOf Follows before d) x ks at e next → IsReady (AreKnownArrivals Agrees IsOf Follows now d) x ks at e next
  still_ready x ks at None next is = tt
  still_ready x ks at (Some e) next is = (is.0, is.1, is.2, still_follows is.2 x (slice_range ks at e) is.3, is.4)

  pub still_followed : (rows : List (List ℕ)) (ks : List Arrived) (at : ℕ) (xs : List Visit) (es : List (Option ℕ)) → AreFollowed (AreKnownArrivals Agrees IsOf Follows before d) rows ks at xs es → AreFollowed (AreKnownArrivals Agrees IsOf Follows now d) rows ks at xs es
  still_followed rows ks at [] [] are = are
  still_followed rows ks at [] (e ∷ es) are = are
  still_followed rows ks at (x ∷ xs) [] are = are
  still_followed rows ks at (x ∷ xs) (None ∷ es) are = still_followed rows ks at xs es are
  still_followed rows ks at (x ∷ xs) (Some e ∷ es) are = (are.0, are.1, still_follows rows x (slice_range ks at e) are.2, still_followed (rows_after (slice_range ks at e) rows) ks e xs es are.3)

-- ---- states that are left

module _ (AreAll : List ℕ → List Arrived → Type 0) (ks : List Arrived) where
  pub ready : (at : ℕ) (x : Visit) (xs : List Visit) (e : Option ℕ) (es : List (Option ℕ)) (next : List Visit) → IsMerged AreAll ks at (x ∷ xs) (e ∷ es) next → IsReady AreAll x ks at e next
  ready at x xs None es next is = tt
  ready at x xs (Some e) es next is = (is.followed.0, is.followed.1, is.rows, is.followed.2, is.have)

  pub merged_next : (at : ℕ) (x : Visit) (xs : List Visit) (e : Option ℕ) (es : List (Option ℕ)) (old new : List Visit) → IsMerged AreAll ks at (x ∷ xs) (e ∷ es) old → TakesRows old (taken_by ks at e) new → IsMerged AreAll ks (place_after at e) xs es new
  merged_next at x xs None es old new is takes = record { rows = is.rows; followed = is.followed; have = λ row there. takes.0 row (is.have row there) }
  merged_next at x xs (Some e) es old new is takes = record {
    rows = rows_after (slice_range ks at e) is.rows;
    followed = is.followed.3;
    have = have_after (slice_range ks at e) is.rows new (λ row there. takes.0 row (is.have row there)) takes.1;
  }

-- ---- shares

pub shared_more : (at end last : ℕ) (shares : List Share) → AreShares at end shares → end ≤ last → (share : Share) → share.first ≡ end → share.last ≡ last → AreShares at last (shares ++ share ∷ [])
shared_more at end last [] are le share first is = (first ∙ sym are, omega (arith, are, le, is), omega (arith, is), is)
shared_more at end last (s ∷ shares) are le share first is = (are.0, are.1, omega (arith, are.2, le), shared_more s.last end last shares are.3 le share first is)

pub share_at : (at end : ℕ) (shares : List Share) (i : ℕ) (share : Share) → AreShares at end shares → slice_get shares i ≡ Some share → (share.first ≤ share.last) × (share.last ≤ end)
share_at at end [] i share are is = absurd cc
share_at at end (s ∷ shares) zero share are is = subst (λ (x : Share). (x.first ≤ x.last) × (x.last ≤ end)) (some_share is) (omega (arith, are.0, are.1), are.2)
  where
    some_share : Some s ≡ Some share → s ≡ share
    some_share e = cc
share_at at end (s ∷ shares) (suc i) share are is = share_at s.last end shares i share are.3 is
