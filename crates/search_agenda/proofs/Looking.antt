-- What is found in an agenda.
use Rattle.std.proofs.Common.{◌≡◌, ◌∙◌, inl, inr, ◌<◌, ◌≤◌, ◌+◌, ℕ, Bool, true, false, ◌||◌, cond, not, List, [], ◌∷◌, ◌++◌, None, Some, drop, get_or, length, take, is_some, map, refl, sym, ap, subst, true≢false}
use Rattle.std.specs.List.{AllByRecursion, filter}
use Rattle.std.specs.Prelude.{◌&&◌}
use Rattle.std.proofs.lemmas.List.{drop_all, drop_more, take_all, take_more}
use Rattle.std.proofs.lemmas.Cmp.{tied_itself}
use Rattle.std.specs.Ordering.{is_eq}
use Rattle.term_core.specs.inside.StepOrderLaws.{steps_total}
use Rattle.term_core.specs.declared.step.Step.{Step}
use Rattle.world_model.specs.Events.{Event, History}
use Rattle.world_model.specs.Independence.{footprint, some_meet}
use Rattle.world_model.specs.Names.{IsAmong}
use Rattle.world_model.specs.Requests.{Program}
use Rattle.world_model.specs.Run.{enabled_steps, is_enabled, next_event}
use Rattle.world_model.specs.Signals.{first_of}
use Rattle.world_model.proofs.Opened.{enabled_listed}
use Rattle.tree_coverage.specs.Explored.{same_step}
use Rattle.tree_coverage.proofs.Lists.{found_by}
use Rattle.tree_sleep_sets.specs.Search.{is_among}
use Rattle.world_records.specs.Cells.{cells_in}
use Rattle.world_footprints.specs.Footprints.{written_in}
use Rattle.search_agenda.specs.Plans.{ArePlans, IsAgenda, IsPlan, Shared, enabled_in, steps_in}
use Rattle.search_agenda.specs.declared.agenda.Agenda.{Agenda}
use Rattle.world_footprints.specs.declared.plan.Plan.{Plan}
use Rattle.search_agenda.proofs.Putting.{all_append, all_held, held_at}
use Rattle.search_agenda.proofs.Settling.{enabled_here, footprint_here, plan_stays, writes_are}

-- a plan of an agenda
pub plan_at : (a : Program) (h : History) (g : Agenda) (plans : List Shared) (i : ℕ) (p : Shared) → plans ≡ g.plans.items → i < length plans → p ≡ get_or plans i p → IsAgenda a h g → IsPlan a h p.value
plan_at a h g plans i p same within at is = all_held (λ (q : Shared). IsPlan a h q.value) p plans (subst (ArePlans a h) (sym same) is.plans) (held_at plans i p within at)

-- ---- the first of those that are enabled

split_at : {X : Type 0} (xs : List X) (i : ℕ) (x : X) → i < length xs → x ≡ get_or xs i x → drop i xs ≡ x ∷ drop (i + 1) xs
split_at xs i x within at = drop_more xs i x within ∙ ap (λ y. y ∷ drop (i + 1) xs) (sym at)

off_first : (p : Shared) (ps : List Shared) → is_some p.value.deed ≡ false → enabled_in (p ∷ ps) ≡ enabled_in ps
off_first p ps off = ap (λ b. map (λ (q : Shared). q.value.step) (cond b (p ∷ filter (λ (q : Shared). is_some q.value.deed) ps) (filter (λ (q : Shared). is_some q.value.deed) ps))) off

on_first : (p : Shared) (ps : List Shared) → is_some p.value.deed ≡ true → enabled_in (p ∷ ps) ≡ p.value.step ∷ enabled_in ps
on_first p ps on = ap (λ b. map (λ (q : Shared). q.value.step) (cond b (p ∷ filter (λ (q : Shared). is_some q.value.deed) ps) (filter (λ (q : Shared). is_some q.value.deed) ps))) on

pub none_so_far : (plans : List Shared) (i : ℕ) (p : Shared) → i < length plans → p ≡ get_or plans i p → is_some p.value.deed ≡ false → enabled_in plans ≡ enabled_in (drop i plans) → enabled_in plans ≡ enabled_in (drop (i + 1) plans)
none_so_far plans i p within at off so_far = so_far ∙ ap enabled_in (split_at plans i p within at) ∙ off_first p (drop (i + 1) plans) off

pub first_found : (a : Program) (h : History) (g : Agenda) (plans : List Shared) (i : ℕ) (p : Shared) → plans ≡ g.plans.items → i < length plans → p ≡ get_or plans i p → is_some p.value.deed ≡ true → enabled_in plans ≡ enabled_in (drop i plans) → IsAgenda a h g → Some p.value.step ≡ first_of (enabled_steps a h)
first_found a h g plans i p same within at on so_far is =
    ap first_of (sym (so_far ∙ ap enabled_in (split_at plans i p within at) ∙ on_first p (drop (i + 1) plans) on) ∙ ap enabled_in same ∙ is.enabled)

pub none_found : (a : Program) (h : History) (g : Agenda) (plans : List Shared) (i : ℕ) → plans ≡ g.plans.items → length plans ≤ i → enabled_in plans ≡ enabled_in (drop i plans) → IsAgenda a h g → None ≡ first_of (enabled_steps a h)
none_found a h g plans i same within so_far is =
    ap first_of (sym (so_far ∙ ap enabled_in (drop_all i plans within)) ∙ ap enabled_in same ∙ is.enabled)

-- ---- those that are enabled and do not sleep

-- the steps that are enabled and are not among these
abbrev pub awake_in : List Shared → List Shared → List Step
awake_in slept plans = filter (λ s. not (is_among same_step (steps_in slept) s)) (enabled_in plans)

-- ---- a step that is enabled, or is not

-- whether a plan is of this step, and enabled
abbrev pub is_of : Plan → Step → Bool
is_of p s = is_some p.deed && same_step p.step s

skipped_if : (b same : Bool) (ps : List Shared) (p : Shared) (s : Step) → same ≡ same_step p.value.step s → (b && same) ≡ false → is_among same_step (map (λ (q : Shared). q.value.step) (cond b (p ∷ filter (λ (q : Shared). is_some q.value.deed) ps) (filter (λ (q : Shared). is_some q.value.deed) ps))) s ≡ is_among same_step (enabled_in ps) s
skipped_if true true ps p s is off = absurd (true≢false off)
skipped_if true false ps p s is off = ap (λ b. b || is_among same_step (enabled_in ps) s) (sym is)
skipped_if false same ps p s is off = refl

pub skipped : (ps : List Shared) (p : Shared) (s : Step) → is_of p.value s ≡ false → is_among same_step (enabled_in (p ∷ ps)) s ≡ is_among same_step (enabled_in ps) s
skipped ps p s off = skipped_if (is_some p.value.deed) (same_step p.value.step s) ps p s refl off

itself : (s : Step) → same_step s s ≡ true
itself s = ap is_eq (tied_itself steps_total s)

off_if : (a : Program) (h : History) (s : Step) (b : Bool) → is_enabled a h s ≡ b → is_among same_step (enabled_steps a h) s ≡ false → b ≡ false
off_if a h s true on none = absurd (true≢false (sym (found_by same_step itself (enabled_steps a h) s (enabled_listed a h s on)) ∙ none))
off_if a h s false off none = refl

-- a step that no plan says to be enabled is not enabled
pub not_enabled : (a : Program) (h : History) (g : Agenda) (s : Step) → is_among same_step (enabled_in g.plans.items) s ≡ false → IsAgenda a h g → is_enabled a h s ≡ false
not_enabled a h g s none is = off_if a h s (is_enabled a h s) refl (ap (λ steps. is_among same_step steps s) (sym is.enabled) ∙ none)

-- ---- a step that stays enabled

split_on : (b m : Bool) → (b && not m) ≡ true → (b ≡ true) × (m ≡ false)
split_on true true e = absurd (true≢false (sym e))
split_on true false e = (refl, refl)
split_on false m e = absurd (true≢false (sym e))

pub stays_enabled : (a : Program) (h : History) (e : Event) (taken p : Plan) → IsPlan a h taken → IsPlan a h p → (is_some p.deed && not (some_meet (written_in taken) (cells_in p.planned.reads.items))) ≡ true → next_event a h taken.step ≡ Some e → enabled_steps a (e ∷ h) ≡ [] → ⊥
stays_enabled a h e taken p of is on now none =
    let parts = split_on (is_some p.deed) (some_meet (written_in taken) (cells_in p.planned.reads.items)) on in
    let writes = writes_are a h e taken of now in
    let after : IsPlan a (e ∷ h) p = plan_stays a h e p is (ap (λ ws. some_meet ws (cells_in p.planned.reads.items)) (sym writes) ∙ parts.1) in
    let there : IsAmong p.step (enabled_steps a (e ∷ h)) = enabled_listed a (e ∷ h) p.step (sym (enabled_here a (e ∷ h) p after) ∙ parts.0) in
    absurd (subst (IsAmong p.step) none there)

-- ---- the steps that are met

-- the enabled ones of these plans are of steps that read what this one writes
abbrev pub AllMet : Plan → List Shared → Type 0
AllMet taken plans = AllByRecursion (λ p. is_some p.value.deed ≡ true → some_meet (written_in taken) (cells_in p.value.planned.reads.items) ≡ true) plans

met_by : (b m : Bool) → (b && not m) ≡ false → b ≡ true → m ≡ true
met_by true true off on = refl
met_by true false off on = absurd (true≢false off)
met_by false m off on = absurd (true≢false (sym on))

pub met_more : (taken : Plan) (plans : List Shared) (i : ℕ) (p : Shared) → i < length plans → p ≡ get_or plans i p → (is_some p.value.deed && not (some_meet (written_in taken) (cells_in p.value.planned.reads.items))) ≡ false → AllMet taken (take i plans) → AllMet taken (take (i + 1) plans)
met_more taken plans i p within at off before =
    subst (AllMet taken) (ap (λ (q : Shared). take i plans ++ q ∷ []) at ∙ sym (take_more plans i p within))
    (all_append (λ (q : Shared). is_some q.value.deed ≡ true → some_meet (written_in taken) (cells_in q.value.planned.reads.items) ≡ true) (take i plans) (p ∷ []) before (met_by (is_some p.value.deed) _ off, tt))

meets_as : (a : Program) (h : History) (taken p : Plan) → IsPlan a h taken → IsPlan a h p → some_meet (written_in taken) (cells_in p.planned.reads.items) ≡ some_meet (footprint a h taken.step).writes (footprint a h p.step).reads
meets_as a h taken p of is = λ i. some_meet (footprint_here a h taken of i).writes (footprint_here a h p is i).reads

first_met : (a : Program) (h : History) (taken : Plan) (s : Step) (p : Shared) (ps : List Shared) (b : Bool) → is_some p.value.deed ≡ b → IsPlan a h taken → IsPlan a h p.value → (is_some p.value.deed ≡ true → some_meet (written_in taken) (cells_in p.value.planned.reads.items) ≡ true) → (IsAmong s (enabled_in ps) → some_meet (footprint a h taken.step).writes (footprint a h s).reads ≡ true) → IsAmong s (map (λ (q : Shared). q.value.step) (cond b (p ∷ filter (λ (q : Shared). is_some q.value.deed) ps) (filter (λ (q : Shared). is_some q.value.deed) ps))) → some_meet (footprint a h taken.step).writes (footprint a h s).reads ≡ true
first_met a h taken s p ps true on of is met rest (inl same) = ap (λ t. some_meet (footprint a h taken.step).writes (footprint a h t).reads) (sym same) ∙ sym (meets_as a h taken p.value of is) ∙ met on
first_met a h taken s p ps true on of is met rest (inr there) = rest there
first_met a h taken s p ps false off of is met rest there = rest there

among_met : (a : Program) (h : History) (taken : Plan) (s : Step) (plans : List Shared) → IsPlan a h taken → ArePlans a h plans → AllMet taken plans → IsAmong s (enabled_in plans) → some_meet (footprint a h taken.step).writes (footprint a h s).reads ≡ true
among_met a h taken s [] of all met there = absurd there
among_met a h taken s (p ∷ ps) of all met there = first_met a h taken s p ps (is_some p.value.deed) refl of all.0 met.0 (among_met a h taken s ps of all.1 met.1) there

pub all_met : (a : Program) (h : History) (g : Agenda) (taken : Plan) (plans : List Shared) (i : ℕ) (s : Step) → plans ≡ g.plans.items → length plans ≤ i → AllMet taken (take i plans) → IsPlan a h taken → IsAgenda a h g → IsAmong s (enabled_steps a h) → some_meet (footprint a h taken.step).writes (footprint a h s).reads ≡ true
all_met a h g taken plans i s same within met of is there =
    among_met a h taken s g.plans.items of is.plans (subst (AllMet taken) (take_all i plans within ∙ same) met) (subst (IsAmong s) (sym is.enabled) there)
