-- A step that was planned and done in one world is taken over for another one.
use Rattle.std.proofs.Common.{◌≡◌, ◌∙◌, inl, ◌∷◌, ◌++◌, if◌then◌else◌, Bool, true, false, Some, map, option_map, refl, sym, ap, subst, true≢false}
use Rattle.core_tree.specs.Syntax.{ModuleTree}
use Rattle.term_core.specs.declared.step.Step.{Step}
use Rattle.term_core.specs.declared.step.Step.TheVariants.{Turn, Deliver}
use Rattle.world_model.specs.Asking.{program_of}
use Rattle.world_model.specs.Cells as cells
use Rattle.world_model.specs.Cells.{Cell, Contents}
use Rattle.world_model.specs.Changes.{after, cell_of}
use Rattle.world_model.specs.Events.{Deed, Event, event, History}
use Rattle.world_model.specs.Names.{IsAmong}
use Rattle.world_model.specs.Requests.{Program}
use Rattle.world_model.specs.Run.{IsRun, changes, next_event}
use Rattle.world_model.specs.Shown.{request_in, shown_by, shown_last}
use Rattle.world_model.specs.Steps.{changes_by, next_deed, reads}
use Rattle.world_model.specs.World.{contents}
use Rattle.world_model.proofs.Commuting.{follows, stays}
use Rattle.world_model.proofs.Histories.{deed_is, step_is}
use Rattle.world_records.specs.Places.{AgreesAt, place_of}
use Rattle.world_records.specs.Records.{Agrees, OfWorld}
use Rattle.world_records.specs.declared.place.Place.{Place}
use Rattle.world_records.specs.declared.place.Place.TheVariants.{Course}
use Rattle.world_records.specs.declared.records.Records.{Records}
use Rattle.world_planned.specs.Replies.{NamesMeanTables}
use Rattle.world_steps.proofs.Names.{names_mean}
use Rattle.world_footprints.specs.Deeds.{deed_in}
use Rattle.world_footprints.specs.Footprints.{IsPlan}
use Rattle.world_footprints.specs.Plans as plans
use Rattle.world_footprints.specs.Plans.{IsNewFor, first_changes, others_if}
use Rattle.world_footprints.specs.declared.plan.Plan.{Plan}
use Rattle.world_plans.proofs.Turning.{in_order}
use Rattle.world_core.proofs.Worlds.{new_for}
use Rattle.search_agenda.proofs.Settling.{plan_framed, writes_are}
use Rattle.search_expansion.proofs.Stepping.{done}
use Rattle.search_numbers.specs.Local.{CoversPlan, HasAll, IsTakenOver, StepsAreTakenOver, sees}
use Rattle.search_numbers.proofs.Everywhere.{places_agree}
use Rattle.search_numbers.proofs.Mixed.{Share, agree_where_covered, mixed, mixed_has_all, mixed_names_mean, mixed_new_for, sees_covered}
use Rattle.search_numbers.proofs.Seen.{seen_at, untouched}

-- ---- a deed that is planned of two contents changes the same in both

same_changes : (a : Program) (v u : Contents) (p : Plan) (d : Deed) → IsPlan a v p → IsPlan a u p → next_deed a v p.step ≡ Some d → changes_by u p.step d ≡ changes_by v p.step d
same_changes a v u p d one other here =
    let there : next_deed a u p.step ≡ Some d = sym other.deed ∙ one.deed ∙ here in
    let others = sym (ap (others_if u p.step) there) ∙ sym other.changes ∙ one.changes ∙ ap (others_if v p.step) here in
    in_order u p.step d ∙ ap (λ ks. first_changes p.step d ++ ks) others ∙ sym (in_order v p.step d)

-- so records that agree with what the step leaves of the others agree with what its event changes there
after_planned : (m : ModuleTree) (h : History) (e : Event) (u : Contents) (left : Records) (p : Plan) → IsPlan (program_of m) (contents h) p → IsPlan (program_of m) u p → next_event (program_of m) h p.step ≡ Some e → Agrees m left (plans.left u p.step (option_map deed_in p.deed)) → Agrees m left (after (changes h e) u)
after_planned m h e u left p one other now is =
    let a = program_of m in
    let deed : next_deed a (contents h) p.step ≡ Some e.deed = deed_is p.step (next_deed a (contents h) p.step) e now in
    let step : p.step ≡ e.step = step_is p.step (next_deed a (contents h) p.step) e now in
    let grown : Agrees m left (plans.left u p.step (Some e.deed)) = subst (λ d. Agrees m left (plans.left u p.step d)) (one.deed ∙ deed) is in
    subst (λ ks. Agrees m left (after ks u)) (same_changes a (contents h) u p e.deed one other deed ∙ ap (λ s. changes_by (contents h) s e.deed) step) grown

-- ---- what is given: two runs, what is kept of all their places, and a step that was planned and done after the first

record IsGiven (m : ModuleTree) (at_first at : Place → Records) (covers : Place → Bool) (first h : History) (before left : Records) (p : Plan) : Type 0 where
  first_runs : IsRun (program_of m) first
  runs : IsRun (program_of m) h
  shared : Share m covers at_first at (contents first) (contents h)
  before_first : (v : Contents) → HasAll m at_first v → Agrees m before v
  planned : OfWorld before (λ n v. NamesMeanTables v → IsPlan (program_of n) v p)
  done_so : OfWorld before (λ n v. IsPlan (program_of n) v p → IsNewFor v p.step → Agrees n left (plans.left v p.step (option_map deed_in p.deed)))
  covered : CoversPlan covers p

module _ (m : ModuleTree) (at_first at : Place → Records) (covers : Place → Bool) (first h : History) (before left : Records) (p : Plan) (given : IsGiven m at_first at covers first h before left p) where
  -- what the second run leaves where it is covered, and else what the first one does
  abbrev both_leave : Contents
  both_leave = mixed covers (contents h) (contents first)

  before_mixed : Agrees m before both_leave
  before_mixed = given.before_first both_leave (mixed_has_all m covers at_first at (contents first) (contents h) given.shared)

  -- the plan holds of the mixed contents, and so after both runs
  plan_mixed : IsPlan (program_of m) both_leave p
  plan_mixed = given.planned m both_leave before_mixed (mixed_names_mean covers (contents h) (contents first) (names_mean (program_of m) h given.runs) (names_mean (program_of m) first given.first_runs))

  reads_covered : (c : Cell) → IsAmong c (reads (program_of m) both_leave p.step) → covers (place_of c) ≡ true
  reads_covered = subst (λ cs. (c : Cell) → IsAmong c cs → covers (place_of c) ≡ true) plan_mixed.reads given.covered.reads

  plan_here : IsPlan (program_of m) (contents h) p
  plan_here = plan_framed (program_of m) both_leave (contents h) p plan_mixed (agree_where_covered covers (contents h) (contents first) (reads (program_of m) both_leave p.step) reads_covered)

  plan_first : IsPlan (program_of m) (contents first) p
  plan_first = given.planned m (contents first) (given.before_first (contents first) given.shared.first) (names_mean (program_of m) first given.first_runs)

  -- what the step leaves of the mixed contents
  left_mixed : (e : Event) → next_event (program_of m) h p.step ≡ Some e → Agrees m left (after (changes h e) both_leave)
  left_mixed e now =
      let new = mixed_new_for m covers at_first at (contents first) (contents h) given.shared (program_of m) p.step reads_covered (new_for (program_of m) h p.step given.runs) (new_for (program_of m) first p.step given.first_runs) in
      after_planned m h e both_leave left p plan_here plan_mixed now (given.done_so m both_leave before_mixed plan_mixed new)

  -- it leaves the same at the places that are covered
  left_covered : (e : Event) → next_event (program_of m) h p.step ≡ Some e → (q : Place) → covers q ≡ true → AgreesAt m q left (contents (e ∷ h))
  unfolding contents
  left_covered e now q on =
      seen_at m q left (after (changes h e) both_leave) (contents (e ∷ h))
      (λ c seen. follows (changes h e) both_leave (contents h) c (sees_covered m covers at_first at (contents first) (contents h) given.shared q on c seen))
      (places_agree m left (after (changes h e) both_leave) (left_mixed e now) q)

  writes_covered : (e : Event) → next_event (program_of m) h p.step ≡ Some e → (c : Cell) → IsAmong c (map cell_of (changes h e)) → (q : Place) → sees q c ≡ true → covers q ≡ true
  writes_covered e now = subst (λ cs. (c : Cell) → IsAmong c cs → (q : Place) → sees q c ≡ true → covers q ≡ true) (writes_are (program_of m) h e p plan_here now) given.covered.writes

  -- and all others stay
  left_other : (e : Event) → next_event (program_of m) h p.step ≡ Some e → (q : Place) → covers q ≡ false → AgreesAt m q (at q) (contents (e ∷ h))
  unfolding contents
  left_other e now q off =
      seen_at m q (at q) (contents h) (contents (e ∷ h))
      (λ c seen. sym (stays (changes h e) (contents h) c (untouched (changes h e) q c seen (λ d there sees_it. true≢false (sym (writes_covered e now d there q sees_it) ∙ off)))))
      (given.shared.second q)

  left_at : (e : Event) → next_event (program_of m) h p.step ≡ Some e → (q : Place) (b : Bool) → covers q ≡ b → AgreesAt m q (if b then left else at q) (contents (e ∷ h))
  left_at e now q true on = left_covered e now q on
  left_at e now q false off = left_other e now q off

  -- ---- it happens after both, and shows the same

  first_next : (e : Event) → next_event (program_of m) h p.step ≡ Some e → next_event (program_of m) first p.step ≡ Some e
  first_next e now = ap (option_map (event p.step)) (sym plan_first.deed ∙ plan_here.deed) ∙ now

  first_left : (e : Event) → next_event (program_of m) h p.step ≡ Some e → Agrees m left (contents (e ∷ first))
  first_left e now =
      (done m first e p before left (record { agrees = given.before_first (contents first) given.shared.first; is_run = given.first_runs }) plan_first (first_next e now) given.done_so).agrees

  same_request : (e : Event) → next_event (program_of m) h p.step ≡ Some e → (step : Step) → ((c : Cell) → IsAmong c (reads (program_of m) both_leave step) → covers (place_of c) ≡ true) → request_in step (e ∷ h) ≡ request_in step (e ∷ first)
  same_request e now (Turn q) on =
      sym (left_covered e now (Course q) (on (cells.Machine q) (inl refl))).turns ∙ (places_agree m left (contents (e ∷ first)) (first_left e now) (Course q)).turns
  same_request e now (Deliver s r) on = refl

  shows_same : (e : Event) → next_event (program_of m) h p.step ≡ Some e → shown_last (e ∷ h) ≡ shown_last (e ∷ first)
  shows_same e now =
      let step : p.step ≡ e.step = step_is p.step (next_deed (program_of m) (contents h) p.step) e now in
      let on = subst (λ s. (c : Cell) → IsAmong c (reads (program_of m) both_leave s) → covers (place_of c) ≡ true) step reads_covered in
      ap (λ n. shown_by e.step n e.deed) (same_request e now e.step on)

  taken : IsTakenOver m at covers first h left p
  taken = record {
    plan = plan_here;
    agrees = λ e now q. left_at e now q (covers q) refl;
    happens = λ e now. (e, first_next e now, shows_same e now);
  }

pub taken_over : StepsAreTakenOver
taken_over m at_first at covers first h before left p first_runs runs has_first has_all same before_first planned done_so covered =
    taken m at_first at covers first h before left p (record {
      first_runs = first_runs;
      runs = runs;
      shared = record { first = has_first; second = has_all; same = same };
      before_first = before_first;
      planned = planned;
      done_so = done_so;
      covered = covered;
    })
