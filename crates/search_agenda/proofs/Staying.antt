-- Plans of steps that sleep.
use Rattle.std.proofs.Common.{◌≡◌, ◌∙◌, ◌<◌, ◌+◌, ℕ, Bool, true, false, cond, not, List, [], ◌∷◌, ◌++◌, Some, get_or, length, take, refl, sym, ap, subst, true≢false}
use Rattle.std.specs.List.{filter}
use Rattle.std.specs.Prelude.{◌&&◌}
use Rattle.std.proofs.lemmas.List.{map-append, take_more}
use Rattle.std.proofs.lemmas.List.Elements.{filter-append}
use Rattle.term_core.specs.declared.step.Step.{Step}
use Rattle.world_model.specs.Events.{Event, History}
use Rattle.world_model.specs.Independence.{are_independent, footprint, some_meet, written}
use Rattle.world_model.specs.Requests.{Program}
use Rattle.world_model.specs.Run.{is_enabled, next_event}
use Rattle.search_agenda.specs.Plans.{ArePlans, IsPlan, Shared, steps_in}
use Rattle.world_footprints.specs.declared.plan.Plan.{Plan}
use Rattle.search_agenda.proofs.Putting.{all_append, all_held, held_at}
use Rattle.search_agenda.proofs.Settling.{plan_stays}

-- ---- those that stay asleep

pub one_more : (test : Step → Bool) (slept : List Shared) (i : ℕ) (p : Shared) (old new : List Step) (b : Bool) → i < length slept → p ≡ get_or slept i p → b ≡ test p.value.step → old ≡ filter test (steps_in (take i slept)) → new ≡ old ++ cond b (p.value.step ∷ []) [] → new ≡ filter test (steps_in (take (i + 1) slept))
one_more test slept i p old new b within at passes before now =
    now ∙ (λ k. before k ++ cond (passes k) (p.value.step ∷ []) [])
    ∙ sym (filter-append test (steps_in (take i slept)) (p.value.step ∷ []))
    ∙ ap (filter test)
    (sym (map-append (λ (q : Shared). q.value.step) (take i slept) (p ∷ []))
    ∙ ap steps_in (ap (λ (q : Shared). take i slept ++ q ∷ []) at ∙ sym (take_more slept i p within)))

third : (b c m d : Bool) → (b && (c && (not m && d))) ≡ true → m ≡ false
third true true true d e = absurd (true≢false (sym e))
third true true false d e = refl
third true false m d e = absurd (true≢false (sym e))
third false c m d e = absurd (true≢false (sym e))

-- a step writes nothing that one reads which is independent of it
unmet : (a : Program) (h : History) (s t : Step) → are_independent a h s t ≡ true → some_meet (footprint a h s).writes (footprint a h t).reads ≡ false
unmet a h s t e = third (is_enabled a h s) (is_enabled a h t) (some_meet (footprint a h s).writes (footprint a h t).reads) _ e

pub stays_asleep : (a : Program) (h : History) (e : Event) (taken p : Plan) → IsPlan a h p → are_independent a h taken.step p.step ≡ true → next_event a h taken.step ≡ Some e → IsPlan a (e ∷ h) p
stays_asleep a h e taken p is apart now =
    plan_stays a h e p is
    ((λ i. some_meet (written h (sym now i)) (is.reads i)) ∙ unmet a h taken.step p.step apart)

pub plan_among : (a : Program) (h : History) (plans : List Shared) (i : ℕ) (p : Shared) → i < length plans → p ≡ get_or plans i p → ArePlans a h plans → IsPlan a h p.value
plan_among a h plans i p within at all = all_held (λ (q : Shared). IsPlan a h q.value) p plans all (held_at plans i p within at)

pub one_plan_more : (a : Program) (h : History) (p q : Shared) (old new : List Shared) → new ≡ old ++ q ∷ [] → q.value ≡ p.value → IsPlan a h p.value → ArePlans a h old → ArePlans a h new
one_plan_more a h p q old new now same is all =
    subst (ArePlans a h) (sym now) (all_append (λ (r : Shared). IsPlan a h r.value) old (q ∷ []) all (subst (IsPlan a h) (sym same) is, tt))
