-- Plans that are put after others.
use Rattle.std.proofs.Common.{◌≡◌, ◌≢◌, ◌∙◌, inl, inr, ◌<◌, ℕ, zero, suc, Bor, Bool, true, false, cond, List, [], ◌∷◌, ◌++◌, Option, Some, None, is_some, get_or, length, map, option_map, refl, sym, ap, subst, arith}
use Rattle.std.proofs.lemmas.List.{append_assoc, append-nil, map-append}
use Rattle.std.proofs.lemmas.List.Elements.{filter-append}
use Rattle.std.specs.List.{AllByRecursion, filter}
use Rattle.std.specs.List.Sorted.{IsStrictlySortedBy}
use Rattle.term_core.specs.Order.{order_of_lists}
use Rattle.term_core.specs.declared.step.Step.{Step}
use Rattle.term_core.specs.declared.step.Step.TheVariants.{Turn, Deliver}
use Rattle.core_tree.specs.Syntax.{ModuleTree}
use Rattle.proc_signals.specs.Channels.{order_of_pairs}
use Rattle.world_model.specs.Asking.{program_of}
use Rattle.world_model.specs.Cells.{Alive, Contents}
use Rattle.world_model.specs.Events.{event, History}
use Rattle.world_model.specs.Names.{Pid, IsAmong}
use Rattle.world_model.specs.Requests.{Program}
use Rattle.world_model.specs.Run.{is_enabled, enabled_steps}
use Rattle.world_model.specs.Signals.{waiting_in}
use Rattle.world_model.specs.Steps.{next_deed}
use Rattle.world_model.specs.World.{contents}
use Rattle.world_steps.proofs.Listed.{listed}
use Rattle.world_steps.proofs.Names.{names_mean}
use Rattle.world_steps.specs.inside.Enabling.{turns_of, deliveries_of, is_enabled_at}
use Rattle.world_records.specs.Records.{Agrees}
use Rattle.world_records.specs.declared.records.Records.{Records}
use Rattle.world_planned.specs.Replies.{NamesMeanTables}
use Rattle.world_footprints.specs.Plans.{actor_of}
use Rattle.world_footprints.specs.Footprints as footprints
use Rattle.world_footprints.specs.declared.plan.Plan.{Plan}
use Rattle.world_plans.proofs.Apart.{dead_off}
use Rattle.world_records.specs.Cells.{cells_in}
use Rattle.world_footprints.specs.Footprints.{written_in}
use Rattle.world_model.specs.Independence.{some_meet}
use Rattle.search_agenda.specs.Plans.{ArePlans, IsPlan, IsWorld, Shared, enabled_in}
use Rattle.search_agenda.specs.declared.above.Above.{Above}
use Rattle.search_agenda.specs.inside.Planning.{HasPlans, IsHeldIn, IsMetIn, PutsPlans}
use Rattle.search_agenda.proofs.Settling.{enabled_as, enabled_here}

-- ---- elements

pub all_append : {X : Type 0} (P : X → Type 0) (xs ys : List X) → AllByRecursion P xs → AllByRecursion P ys → AllByRecursion P (xs ++ ys)
all_append P [] ys p q = q
all_append P (x ∷ xs) ys p q = (p.0, all_append P xs ys p.1 q)

pub all_held : {X : Type 0} (P : X → Type 0) (x : X) (xs : List X) → AllByRecursion P xs → IsAmong x xs → P x
all_held P x [] all there = absurd there
all_held P x (y ∷ ys) all (inl is) = subst P is all.0
all_held P x (y ∷ ys) all (inr there) = all_held P x ys all.1 there

pub held_at : {X : Type 0} (xs : List X) (i : ℕ) (x : X) → i < length xs → x ≡ get_or xs i x → IsAmong x xs
held_at [] i x within is = absurd (omega (arith, within))
held_at (y ∷ ys) zero x within is = inl (sym is)
held_at (y ∷ ys) (suc i) x within is = inr (held_at ys i x (omega (arith, within)) is)

pub element_at : {X : Type 0} (xs : List X) (i : ℕ) → i < length xs → (x : X) × (x ≡ get_or xs i x)
element_at [] i within = absurd (omega (arith, within))
element_at (y ∷ ys) zero within = (y, refl)
element_at (y ∷ ys) (suc i) within = element_at ys i (omega (arith, within))

-- what is at a place is one thing
pub at_same : {X : Type 0} (xs : List X) (i : ℕ) (x y : X) → i < length xs → x ≡ get_or xs i x → y ≡ get_or xs i y → x ≡ y
at_same [] i x y within one other = absurd (omega (arith, within))
at_same (z ∷ zs) zero x y within one other = one ∙ sym other
at_same (z ∷ zs) (suc i) x y within one other = at_same zs i x y (omega (arith, within)) one other

-- ---- the steps of those that are enabled

pub enabled_append : (ps qs : List Shared) → enabled_in (ps ++ qs) ≡ enabled_in ps ++ enabled_in qs
enabled_append ps qs =
    ap (map (λ (p : Shared). p.value.step)) (filter-append (λ (p : Shared). is_some p.value.deed) ps qs)
    ∙ map-append (λ (p : Shared). p.value.step) (filter (λ (p : Shared). is_some p.value.deed) ps) (filter (λ (p : Shared). is_some p.value.deed) qs)

same_if : (b c : Bool) (s t : Step) → b ≡ c → s ≡ t → cond b (s ∷ []) [] ≡ cond c (t ∷ []) []
same_if b c s t test same = λ i. cond (test i) (same i ∷ []) []

pub mapped_if : (b : Bool) (p : Shared) → map (λ (q : Shared). q.value.step) (cond b (p ∷ []) []) ≡ cond b (p.value.step ∷ []) []
mapped_if true p = refl
mapped_if false p = refl

one_enabled : (a : Program) (h : History) (p : Shared) (s : Step) → IsPlan a h p.value → p.value.step ≡ s → enabled_in (p ∷ []) ≡ filter (is_enabled a h) (s ∷ [])
one_enabled a h p s is same =
    mapped_if (is_some p.value.deed) p ∙ same_if (is_some p.value.deed) (is_enabled a h s) p.value.step s (enabled_here a h p.value is ∙ ap (is_enabled a h) same) same

-- ---- plans that are put after others

pub has_one : (a : Program) (h : History) (s : Step) (p : Shared) (old new : List Shared) → new ≡ old ++ p ∷ [] → IsPlan a h p.value → p.value.step ≡ s → ArePlans a h old → HasPlans a h (s ∷ []) old new
has_one a h s p old new now is same all =
    subst (HasPlans a h (s ∷ []) old) (sym now)
    (record {
      hold = all_append (λ (q : Shared). IsPlan a h q.value) old (p ∷ []) all (is, tt);
      enabled = enabled_append old (p ∷ []) ∙ ap (λ steps. enabled_in old ++ steps) (one_enabled a h p s is same);
    })

pub has_none : (a : Program) (h : History) (s : Step) (old : List Shared) → is_enabled a h s ≡ false → ArePlans a h old → HasPlans a h (s ∷ []) old old
has_none a h s old off all = record {
  hold = all;
  enabled = sym (append-nil (enabled_in old)) ∙ ap (λ b. enabled_in old ++ cond b (s ∷ []) []) (sym off);
}

-- a plan that is taken over
pub puts_kept : (records : Records) (above : Above) (s : Step) (p q : Shared) (old new : List Shared) → IsHeldIn p above.plans.now → p.value.step ≡ s → some_meet (written_in above.taken.now) (cells_in p.value.planned.reads.items) ≡ false → q.value ≡ p.value → new ≡ old ++ q ∷ [] → PutsPlans records (Some above) (s ∷ []) old new
puts_kept records above s p q old new there is apart same now =
    λ m h world takes all.
    let holds = all_held (λ (r : Shared). some_meet (written_in above.taken.now) (cells_in r.value.planned.reads.items) ≡ false → IsPlan (program_of m) h r.value) p above.plans.now takes there apart in
    has_one (program_of m) h s q old new now (subst (IsPlan (program_of m) h) (sym same) holds) (ap (λ r. r.step) same ∙ is) all

-- one that is not, since it is met
pub met_at : (above : Above) (place : ℕ) (s : Step) → place < length above.plans.now → ((p : Shared) → p ≡ get_or above.plans.now place p → p.value.step ≡ s) → ((p : Shared) → p ≡ get_or above.plans.now place p → some_meet (written_in above.taken.now) (cells_in p.value.planned.reads.items) ≡ true) → IsMetIn above s
met_at above place s within same met =
    let here = element_at above.plans.now place within in
    record { plan = here.0; held = held_at above.plans.now place here.0 within here.1; same = same here.0 here.1; met = met here.0 here.1 }

-- one that is made
pub puts_new : (records : Records) (above : Option Above) (s : Step) (made : Plan) (p : Shared) (old new : List Shared) → made.step ≡ s → ((m : ModuleTree) (v : Contents) → Agrees m records v → NamesMeanTables v → footprints.IsPlan (program_of m) v made) → p.value ≡ made → new ≡ old ++ p ∷ [] → PutsPlans records above (s ∷ []) old new
puts_new records above s made p old new is holds same now = λ m h world takes all.
    let plan : IsPlan (program_of m) h made = holds m (contents h) world.agrees (names_mean (program_of m) h world.is_run) in
    has_one (program_of m) h s p old new now (subst (IsPlan (program_of m) h) (sym same) plan) (ap (λ (q : Plan). q.step) same ∙ is) all

pub puts_no_plan : (records : Records) (above : Option Above) (s : Step) (old : List Shared) → ((m : ModuleTree) (v : Contents) → Agrees m records v → v (Alive (actor_of s)) ≡ false) → PutsPlans records above (s ∷ []) old old
puts_no_plan records above s old dead = λ m h world takes all.
    has_none (program_of m) h s old (sym (enabled_as (program_of m) h s) ∙ dead_off (program_of m) (contents h) s (dead m (contents h) world.agrees)) all

-- those of more steps
pub puts_none : (records : Records) (above : Option Above) (old : List Shared) → PutsPlans records above [] old old
puts_none records above old = λ m h world takes all. record { hold = all; enabled = sym (append-nil (enabled_in old)) }

pub puts_more : (records : Records) (above : Option Above) (xs ys : List Step) (old mid new : List Shared) → PutsPlans records above xs old mid → PutsPlans records above ys mid new → PutsPlans records above (xs ++ ys) old new
puts_more records above xs ys old mid new first second = λ m h world takes all.
    let test = is_enabled (program_of m) h in
    let one = first m h world takes all in
    let two = second m h world takes one.hold in
    record {
      hold = two.hold;
      enabled =
          two.enabled
          ∙ ap (λ zs. zs ++ filter test ys) one.enabled
          ∙ append_assoc (enabled_in old) (filter test xs) (filter test ys)
          ∙ ap (λ zs. enabled_in old ++ zs) (sym (filter-append test xs ys));
    }

pub puts_turn : (records : Records) (above : Option Above) (ps : List (Bor (List ℕ))) (p : Bor (List ℕ)) (q : Pid) (old mid new : List Shared) → q ≡ p.now → PutsPlans records above (turns_of (map (λ x. x.now) ps)) old mid → PutsPlans records above (Turn q ∷ []) mid new → PutsPlans records above (turns_of (map (λ x. x.now) (ps ++ p ∷ []))) old new
puts_turn records above ps p q old mid new same first second =
    subst (λ xs. PutsPlans records above xs old new) (sym (ap turns_of (map-append (λ x. x.now) ps (p ∷ [])) ∙ map-append Turn (map (λ x. x.now) ps) (p.now ∷ []) ∙ ap (λ x. turns_of (map (λ y. y.now) ps) ++ Turn x ∷ []) (sym same)))
    (puts_more records above (turns_of (map (λ x. x.now) ps)) (Turn q ∷ []) old mid new first second)

pub puts_delivery : (records : Records) (above : Option Above) (pairs : List (Pid × Pid)) (pair : Pid × Pid) (old mid new : List Shared) → PutsPlans records above (deliveries_of pairs) old mid → PutsPlans records above (Deliver pair.0 pair.1 ∷ []) mid new → PutsPlans records above (deliveries_of (pairs ++ pair ∷ [])) old new
puts_delivery records above pairs pair old mid new first second =
    subst (λ xs. PutsPlans records above xs old new) (sym (map-append (λ (x : Pid × Pid). Deliver x.0 x.1) pairs (pair ∷ [])))
    (puts_more records above (deliveries_of pairs) (Deliver pair.0 pair.1 ∷ []) old mid new first second)

-- ---- the enabled steps

mapped_some : {A B : Type 0} (f : A → B) (o : Option A) → is_some (option_map f o) ≡ is_some o
mapped_some f None = refl
mapped_some f (Some x) = refl

enabled_at : (m : ModuleTree) (h : History) (s : Step) → is_enabled (program_of m) h s ≡ is_enabled_at m (contents h) s
enabled_at m h s = mapped_some (event s) (next_deed (program_of m) (contents h) s)

-- of the turns of those that live and the deliveries between pairs with a signal on its way, the plans of the enabled ones are those of the enabled steps
pub all_enabled : (m : ModuleTree) (h : History) (ps : List Pid) (pairs : List (Pid × Pid)) (plans : List Shared) → IsStrictlySortedBy order_of_lists ps → IsStrictlySortedBy order_of_pairs pairs
    → ((p : Pid) → contents h (Alive p) ≡ true → IsAmong p ps) → ((s r : Pid) → waiting_in (contents h) s r ≢ [] → IsAmong (s, r) pairs)
    → HasPlans (program_of m) h (turns_of ps ++ deliveries_of pairs) [] plans → enabled_in plans ≡ enabled_steps (program_of m) h
all_enabled m h ps pairs plans sorted ordered lives waits has =
    has.enabled
    ∙ (λ i. filter (λ s. enabled_at m h s i) (turns_of ps ++ deliveries_of pairs))
    ∙ listed m h ps pairs sorted ordered lives waits
