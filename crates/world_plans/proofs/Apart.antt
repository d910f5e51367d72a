-- Independence of steps, by their plans.
use Rattle.std.proofs.Common.{◌≡◌, ◌∙◌, ◌<◌, ◌+◌, ℕ, Bool, true, false, true≢false, cond, List, [], ◌∷◌, ◌++◌, Option, Some, None, is_some, option_map, map, length, take, get_or, refl, sym, ap, if◌then◌else◌, subst}
use Rattle.std.specs.List.{filter}
use Rattle.std.specs.Prelude.{◌&&◌, IfNone, IfSome}
use Rattle.std.proofs.lemmas.List.Elements.{filter_more}
use Rattle.term_core.specs.declared.step.Step.{Step}
use Rattle.term_core.specs.declared.step.Step.TheVariants.{Turn, Deliver}
use Rattle.world_model.specs.Cells as cells
use Rattle.world_model.specs.Cells.{Contents}
use Rattle.world_model.specs.Changes.{cell_of}
use Rattle.world_model.specs.Events.{Deed}
use Rattle.world_model.specs.Independence.{are_apart}
use Rattle.world_model.specs.Requests.{Program}
use Rattle.world_model.specs.Signals.{first_of, waiting_in}
use Rattle.world_model.specs.Steps.{asked, deed_asked, deed_delivered, next_deed}
use Rattle.world_records.specs.Changes.{all_changes_in}
use Rattle.world_footprints.specs.Deeds.{deed_in}
use Rattle.world_plans.specs.Independence.{are_independent, asleep_below, footprint, is_enabled, written_of}
use Rattle.world_footprints.specs.Plans.{actor_of, first_changes, other_changes, others_if, written_by}
use Rattle.world_footprints.specs.Footprints.{IsPlan, footprint_in}
use Rattle.world_footprints.specs.declared.deed.Deed as stored
use Rattle.world_footprints.specs.declared.plan.Plan.{Plan}
use Rattle.world_planned.proofs.Adding.{map_both}
use Rattle.world_plans.proofs.Turning.{in_order}

-- of an option that is known
pub none_now : {A : Type 0} (P : Type 0) (o : Option A) → o ≡ None → IfNone o P → P
none_now P o is h = subst (λ x. IfNone x P) is h

pub some_now : {A : Type 0} (P : A → Type 0) (o : Option A) (x : A) → o ≡ Some x → IfSome o P → P x
some_now P o x is h = subst (λ y. IfSome y P) is h

has_deed : (o : Option stored.Deed) → is_some o ≡ is_some (option_map deed_in o)
has_deed None = refl
has_deed (Some d) = refl

-- a step is enabled where its plan has a deed
pub enabled_is : (a : Program) (v : Contents) (p : Plan) → IsPlan a v p → is_some p.deed ≡ is_enabled a v p.step
enabled_is a v p is = has_deed p.deed ∙ ap is_some is.deed

written_is : (v : Contents) (step : Step) (d : Option Deed) → written_by step d (others_if v step d) ≡ written_of v step d
written_is v step None = refl
written_is v step (Some deed) = sym (map_both cell_of (first_changes step deed) (other_changes v step deed)) ∙ ap (map cell_of) (sym (in_order v step deed))

-- its footprint is that of its plan
pub footprint_is : (a : Program) (v : Contents) (p : Plan) → IsPlan a v p → footprint_in p ≡ footprint a v p.step
footprint_is a v p is =
    let writes = ap (λ d. written_by p.step d (all_changes_in p.planned.changes.items)) is.deed ∙ ap (written_by p.step (next_deed a v p.step)) is.changes ∙ written_is v p.step (next_deed a v p.step) in
    λ i. record { reads = is.reads i; writes = writes i }

both_and : (x y z : Bool) → (x && y) ≡ true → z ≡ (x && (y && z))
both_and true true z e = refl
both_and true false z e = absurd (true≢false (sym e))
both_and false y z e = absurd (true≢false (sym e))

one_off : (x y z : Bool) → (x && y) ≡ false → false ≡ (x && (y && z))
one_off true true z e = absurd (true≢false e)
one_off true false z e = refl
one_off false y z e = refl

as_planned : (a : Program) (v : Contents) (p q : Plan) → IsPlan a v p → IsPlan a v q → (is_some p.deed && (is_some q.deed && are_apart (footprint_in p) (footprint_in q))) ≡ are_independent a v p.step q.step
as_planned a v p q is are = λ i. enabled_is a v p is i && (enabled_is a v q are i && are_apart (footprint_is a v p is i) (footprint_is a v q are i))

pub independent_when : (a : Program) (v : Contents) (p q : Plan) (r : Bool) → (is_some p.deed && is_some q.deed) ≡ true → r ≡ are_apart (footprint_in p) (footprint_in q) → IsPlan a v p → IsPlan a v q → r ≡ are_independent a v p.step q.step
independent_when a v p q r on apart is are = apart ∙ both_and (is_some p.deed) (is_some q.deed) (are_apart (footprint_in p) (footprint_in q)) on ∙ as_planned a v p q is are

pub dependent_when : (a : Program) (v : Contents) (p q : Plan) → (is_some p.deed && is_some q.deed) ≡ false → IsPlan a v p → IsPlan a v q → false ≡ are_independent a v p.step q.step
dependent_when a v p q off is are = one_off (is_some p.deed) (is_some q.deed) (are_apart (footprint_in p) (footprint_in q)) off ∙ as_planned a v p q is are

if_dead : {A : Type 0} (b : Bool) (x : Option A) → b ≡ false → is_some (if b then x else None) ≡ false
if_dead b x e = ap (λ y. is_some (if y then x else None)) e

-- no step of a process that does not live is enabled
pub dead_off : (a : Program) (v : Contents) (step : Step) → v (cells.Alive (actor_of step)) ≡ false → is_enabled a v step ≡ false
dead_off a v (Turn p) e = if_dead (v (cells.Alive p)) (deed_asked v p (asked a p (v (cells.Machine p)))) e
dead_off a v (Deliver s r) e = if_dead (v (cells.Alive r)) (deed_delivered v s r (first_of (waiting_in v s r))) e

and_false : (x y : Bool) → y ≡ false → (z : Bool) → false ≡ (x && (y && z))
and_false true y e z = ap (λ b. b && z) (sym e)
and_false false y e z = refl

pub dead_apart : (a : Program) (v : Contents) (s t : Step) → v (cells.Alive (actor_of t)) ≡ false → false ≡ are_independent a v s t
dead_apart a v s t e = and_false (is_enabled a v s) (is_enabled a v t) (dead_off a v t e) (are_apart (footprint a v s) (footprint a v t))

-- ---- what stays asleep

none_kept : (b : Bool) (test : Step → Bool) (xs : List Step) → b ≡ false → [] ≡ filter (λ t. b && test t) xs
none_kept b test [] e = refl
none_kept b test (x ∷ xs) e = none_kept b test xs e ∙ ap (λ y. cond (y && test x) (x ∷ filter (λ t. b && test t) xs) (filter (λ t. b && test t) xs)) (sym e)

-- below a step of a process that does not live nothing sleeps
pub none_asleep : (a : Program) (v : Contents) (slept : List Step) (s : Step) → v (cells.Alive (actor_of s)) ≡ false → [] ≡ asleep_below a v slept s
none_asleep a v slept s e = none_kept (is_enabled a v s) (λ t. is_enabled a v t && are_apart (footprint a v s) (footprint a v t)) slept (dead_off a v s e)

-- one step more is looked at
pub keeps : {A : Type 0} (test : A → Bool) (xs : List A) (i : ℕ) (x : A) (ys zs : List A) (b : Bool) → i < length xs → x ≡ get_or xs i x → b ≡ test x → ys ≡ filter test (take i xs) → zs ≡ ys ++ cond b (x ∷ []) [] → zs ≡ filter test (take (i + 1) xs)
keeps test xs i x ys zs b within here is before now =
    let passes = is ∙ ap test here in
    now ∙ (λ k. before k ++ cond (passes k) (here k ∷ []) []) ∙ sym (filter_more test xs i x within)
