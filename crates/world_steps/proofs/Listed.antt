-- The steps that are listed are the enabled ones, in their order.
use Rattle.std.proofs.Common.{◌≡◌, ◌≢◌, ℕ, inl, inr, Bool, true, false, ◌||◌, List, [], ◌∷◌, ◌++◌, Option, Some, None, refl, sym, ap, ◌∙◌, if◌then◌else◌, true≢false, subst, is_some, option_map, map, Bor}
use Rattle.std.specs.BTreeMap.{is_at}
use Rattle.std.specs.Cmp.{Equal-is}
use Rattle.std.specs.List.{filter, list_any, AllByRecursion}
use Rattle.std.specs.List.Sorted.{IsStrictlySortedBy}
use Rattle.std.specs.Ordering.{is_eq}
use Rattle.std.specs.declared.cmp.Ordering.TheVariants.{Less, Equal}
use Rattle.term_core.specs.Order.{order_of_lists}
use Rattle.term_core.specs.StepOrder.{order_of_steps}
use Rattle.term_core.specs.inside.OrderLaws.{same_list}
use Rattle.term_core.specs.declared.step.Step.{Step}
use Rattle.term_core.specs.declared.step.Step.TheVariants.{Turn, Deliver}
use Rattle.core_tree.specs.Syntax.{ModuleTree}
use Rattle.proc_signals.specs.Channels.{order_of_pairs}
use Rattle.world_model.specs.Asking.{program_of}
use Rattle.world_model.specs.Cells.{Alive, Contents}
use Rattle.world_model.specs.Events.{Deed, Event, event, History, Signal}
use Rattle.world_model.specs.Names.{Pid, IsAmong}
use Rattle.world_model.specs.Requests.{Program}
use Rattle.world_model.specs.Run.{is_enabled, enabled_steps}
use Rattle.world_model.specs.Signals.{first_of, waiting_in}
use Rattle.world_model.specs.StepLaws.{ComesBefore, AreInOrder}
use Rattle.world_model.specs.Steps.{deed_delivered, next_deed}
use Rattle.world_model.specs.World.{contents}
use Rattle.world_model.proofs.Opened.{enabled_listed, listed_enabled, listed_in_order}
use Rattle.world_model.proofs.StepLists as steps
use Rattle.world_steps.specs.inside.Enabling.{PutsEnabled, is_enabled_at, turns_of, deliveries_of}
use Rattle.world_records.specs.Records.{Agrees}
use Rattle.world_records.specs.declared.records.Records.{Records}
use Rattle.std.proofs.lemmas.List.{append_assoc, append-nil, map-append}
use Rattle.std.proofs.lemmas.List.Elements.{filter-append}

-- ---- turns, and then deliveries, are in order

turns_before : (p : Pid) (ps : List Pid) (rest : List Step) → AllByRecursion (λ q. order_of_lists p q ≡ Less) ps → ComesBefore (Turn p) rest → ComesBefore (Turn p) (turns_of ps ++ rest)
turns_before p [] rest below after = after
turns_before p (q ∷ qs) rest below after = (below.0, turns_before p qs rest below.1 after)

before_deliveries : (p : Pid) (pairs : List (Pid × Pid)) → ComesBefore (Turn p) (deliveries_of pairs)
before_deliveries p [] = tt
before_deliveries p (pair ∷ pairs) = (refl, before_deliveries p pairs)

deliveries_before : (pair : Pid × Pid) (pairs : List (Pid × Pid)) → AllByRecursion (λ other. order_of_pairs pair other ≡ Less) pairs → ComesBefore (Deliver pair.0 pair.1) (deliveries_of pairs)
deliveries_before pair [] below = tt
deliveries_before pair (other ∷ others) below = (below.0, deliveries_before pair others below.1)

deliveries_in_order : (pairs : List (Pid × Pid)) → IsStrictlySortedBy order_of_pairs pairs → AreInOrder (deliveries_of pairs)
unfolding IsStrictlySortedBy
deliveries_in_order [] sorted = tt
deliveries_in_order (pair ∷ pairs) sorted = (deliveries_before pair pairs sorted.0, deliveries_in_order pairs sorted.1)

all_in_order : (ps : List Pid) (pairs : List (Pid × Pid)) → IsStrictlySortedBy order_of_lists ps → IsStrictlySortedBy order_of_pairs pairs → AreInOrder (turns_of ps ++ deliveries_of pairs)
unfolding IsStrictlySortedBy
all_in_order [] pairs sorted ordered = deliveries_in_order pairs ordered
all_in_order (p ∷ ps) pairs sorted ordered = (turns_before p ps (deliveries_of pairs) sorted.0 (before_deliveries p pairs), all_in_order ps pairs sorted.1 ordered)

before_turns : (p : Pid) (ps : List Pid) → AllByRecursion (λ q. order_of_lists p q ≡ Less) ps → ComesBefore (Turn p) (turns_of ps)
before_turns p [] below = tt
before_turns p (q ∷ qs) below = (below.0, before_turns p qs below.1)

pub turns_in_order : (ps : List Pid) → IsStrictlySortedBy order_of_lists ps → AreInOrder (turns_of ps)
unfolding IsStrictlySortedBy
turns_in_order [] sorted = tt
turns_in_order (p ∷ ps) sorted = (before_turns p ps sorted.0, turns_in_order ps sorted.1)

-- ---- what a test lets through

before_if : (step other : Step) (rest : List Step) (b : Bool) → order_of_steps step other ≡ Less → ComesBefore step rest → ComesBefore step (if b then other ∷ rest else rest)
before_if step other rest true less before = (less, before)
before_if step other rest false less before = before

filtered_before : (test : Step → Bool) (step : Step) (steps : List Step) → ComesBefore step steps → ComesBefore step (filter test steps)
filtered_before test step [] before = tt
filtered_before test step (other ∷ others) before = before_if step other (filter test others) (test other) before.0 (filtered_before test step others before.1)

in_order_if : (step : Step) (rest : List Step) (b : Bool) → ComesBefore step rest → AreInOrder rest → AreInOrder (if b then step ∷ rest else rest)
in_order_if step rest true before sorted = (before, sorted)
in_order_if step rest false before sorted = sorted

filtered_in_order : (test : Step → Bool) (steps : List Step) → AreInOrder steps → AreInOrder (filter test steps)
filtered_in_order test [] sorted = tt
filtered_in_order test (step ∷ others) sorted = in_order_if step (filter test others) (test step) (filtered_before test step others sorted.0) (filtered_in_order test others sorted.1)

kept_if : (x y : Step) (rest : List Step) (b : Bool) → IsAmong x rest → IsAmong x (if b then y ∷ rest else rest)
kept_if x y rest true there = inr there
kept_if x y rest false there = there

is_kept : (test : Step → Bool) (x : Step) (steps : List Step) → test x ≡ true → IsAmong x steps → IsAmong x (filter test steps)
is_kept test x [] passes there = absurd there
is_kept test x (y ∷ ys) passes (inl is) = subst (λ b. IsAmong x (if b then y ∷ filter test ys else filter test ys)) (sym (ap test is ∙ passes)) (inl is)
is_kept test x (y ∷ ys) passes (inr there) = kept_if x y (filter test ys) (test y) (is_kept test x ys passes there)

passed_if : (test : Step → Bool) (x y : Step) (rest : List Step) (b : Bool) → test y ≡ b → (IsAmong x rest → test x ≡ true) → IsAmong x (if b then y ∷ rest else rest) → test x ≡ true
passed_if test x y rest true is others (inl same) = sym (ap test same) ∙ is
passed_if test x y rest true is others (inr there) = others there
passed_if test x y rest false is others there = others there

has_passed : (test : Step → Bool) (x : Step) (steps : List Step) → IsAmong x (filter test steps) → test x ≡ true
has_passed test x [] there = absurd there
has_passed test x (y ∷ ys) there = passed_if test x y (filter test ys) (test y) refl (has_passed test x ys) there

-- ---- members

left_among : (x : Step) (xs ys : List Step) → IsAmong x xs → IsAmong x (xs ++ ys)
left_among x [] ys there = absurd there
left_among x (z ∷ zs) ys (inl is) = inl is
left_among x (z ∷ zs) ys (inr there) = inr (left_among x zs ys there)

right_among : (x : Step) (xs ys : List Step) → IsAmong x ys → IsAmong x (xs ++ ys)
right_among x [] ys there = there
right_among x (z ∷ zs) ys there = inr (right_among x zs ys there)

pub turn_among : (p : Pid) (ps : List Pid) → IsAmong p ps → IsAmong (Turn p) (turns_of ps)
turn_among p [] there = absurd there
turn_among p (q ∷ qs) (inl is) = inl (ap Turn is)
turn_among p (q ∷ qs) (inr there) = inr (turn_among p qs there)

delivery_among : (s r : Pid) (pairs : List (Pid × Pid)) → IsAmong (s, r) pairs → IsAmong (Deliver s r) (deliveries_of pairs)
delivery_among s r [] there = absurd there
delivery_among s r (pair ∷ pairs) (inl is) = inl (ap (λ (x : Pid × Pid). Deliver x.0 x.1) is)
delivery_among s r (pair ∷ pairs) (inr there) = inr (delivery_among s r pairs there)

key_or : (p q : Pid) (qs : List Pid) (b : Bool) → is_eq (order_of_lists p q) ≡ b → (list_any (is_at (order_of_lists p)) qs ≡ true → IsAmong p qs) → (b || list_any (is_at (order_of_lists p)) qs) ≡ true → IsAmong p (q ∷ qs)
key_or p q qs true is rest there = inl (sym (same_list p q ((Equal-is (order_of_lists p q)).0 is)))
key_or p q qs false is rest there = inr (rest there)

pub key_among : (p : Pid) (ps : List Pid) → list_any (is_at (order_of_lists p)) ps ≡ true → IsAmong p ps
key_among p [] there = absurd (true≢false (sym there))
key_among p (q ∷ qs) there = key_or p q qs (is_eq (order_of_lists p q)) refl (key_among p qs) there

-- ---- enabled steps

mapped_some : {A B : Type 0} (f : A → B) (o : Option A) → is_some (option_map f o) ≡ is_some o
mapped_some f None = refl
mapped_some f (Some x) = refl

lives_if : {D : Type 0} (b : Bool) (d : Option D) → is_some (if b then d else None) ≡ true → b ≡ true
lives_if true d now = refl
lives_if false d now = absurd (true≢false (sym now))

there_if : (b : Bool) (v : Contents) (s r : Pid) (o : Option Signal) → is_some (if b then deed_delivered v s r o else None) ≡ true → (x : Signal) × (o ≡ Some x)
there_if true v s r None now = absurd (true≢false (sym now))
there_if true v s r (Some x) now = (x, refl)
there_if false v s r o now = absurd (true≢false (sym now))

not_empty : (signals : List Signal) (x : Signal) → first_of signals ≡ Some x → signals ≢ []
not_empty [] x is e = absurd cc
not_empty (y ∷ ys) x is e = absurd cc

is_candidate : (m : ModuleTree) (v : Contents) (ps : List Pid) (pairs : List (Pid × Pid)) → ((p : Pid) → v (Alive p) ≡ true → IsAmong p ps) → ((s r : Pid) → waiting_in v s r ≢ [] → IsAmong (s, r) pairs)
    → (step : Step) → is_enabled_at m v step ≡ true → IsAmong step (turns_of ps ++ deliveries_of pairs)
is_candidate m v ps pairs lives waits (Turn p) now = left_among (Turn p) (turns_of ps) (deliveries_of pairs) (turn_among p ps (lives p (lives_if (v (Alive p)) _ now)))
is_candidate m v ps pairs lives waits (Deliver s r) now =
    let x = there_if (v (Alive r)) v s r (first_of (waiting_in v s r)) now in
    right_among (Deliver s r) (turns_of ps) (deliveries_of pairs) (delivery_among s r pairs (waits s r (not_empty (waiting_in v s r) x.0 x.1)))

-- of the turns of those that live and the deliveries between pairs with a signal on its way, those that are enabled are the enabled steps
pub listed : (m : ModuleTree) (h : History) (ps : List Pid) (pairs : List (Pid × Pid)) → IsStrictlySortedBy order_of_lists ps → IsStrictlySortedBy order_of_pairs pairs
    → ((p : Pid) → contents h (Alive p) ≡ true → IsAmong p ps) → ((s r : Pid) → waiting_in (contents h) s r ≢ [] → IsAmong (s, r) pairs)
    → filter (is_enabled_at m (contents h)) (turns_of ps ++ deliveries_of pairs) ≡ enabled_steps (program_of m) h
listed m h ps pairs sorted ordered lives waits =
    let a = program_of m in
    let all = turns_of ps ++ deliveries_of pairs in
    let test = is_enabled_at m (contents h) in
    steps.same_list (filter test all) (enabled_steps a h)
    (filtered_in_order test all (all_in_order ps pairs sorted ordered))
    (listed_in_order a h)
    (λ s there. enabled_listed a h s (mapped_some (event s) (next_deed a (contents h) s) ∙ has_passed test s all there))
    (λ s there.
    let now = sym (mapped_some (event s) (next_deed a (contents h) s)) ∙ listed_enabled a h s there in
    is_kept test s all now (is_candidate m (contents h) ps pairs lives waits s now))

-- ---- steps that are put after others

pub puts_none : (r : Records) (old : List Step) → PutsEnabled r [] old old
puts_none r old = λ m v told. sym (append-nil old)

puts_more : (r : Records) (xs ys : List Step) (old mid new : List Step) → PutsEnabled r xs old mid → PutsEnabled r ys mid new → PutsEnabled r (xs ++ ys) old new
puts_more r xs ys old mid new first second = λ m v told.
    second m v told
    ∙ ap (λ zs. zs ++ filter (is_enabled_at m v) ys) (first m v told)
    ∙ append_assoc old (filter (is_enabled_at m v) xs) (filter (is_enabled_at m v) ys)
    ∙ ap (λ zs. old ++ zs) (sym (filter-append (is_enabled_at m v) xs ys))

pub puts_turn : (r : Records) (ps : List (Bor (List ℕ))) (p : Bor (List ℕ)) (q : Pid) (old mid new : List Step) → q ≡ p.now → PutsEnabled r (turns_of (map (λ x. x.now) ps)) old mid → PutsEnabled r (Turn q ∷ []) mid new → PutsEnabled r (turns_of (map (λ x. x.now) (ps ++ p ∷ []))) old new
puts_turn r ps p q old mid new same first second =
    subst (λ xs. PutsEnabled r xs old new) (sym (ap turns_of (map-append (λ x. x.now) ps (p ∷ [])) ∙ map-append Turn (map (λ x. x.now) ps) (p.now ∷ []) ∙ ap (λ x. turns_of (map (λ y. y.now) ps) ++ Turn x ∷ []) (sym same)))
    (puts_more r (turns_of (map (λ x. x.now) ps)) (Turn q ∷ []) old mid new first second)

pub puts_delivery : (r : Records) (pairs : List (Pid × Pid)) (pair : Pid × Pid) (old mid new : List Step) → PutsEnabled r (deliveries_of pairs) old mid → PutsEnabled r (Deliver pair.0 pair.1 ∷ []) mid new → PutsEnabled r (deliveries_of (pairs ++ pair ∷ [])) old new
puts_delivery r pairs pair old mid new first second =
    subst (λ xs. PutsEnabled r xs old new) (sym (map-append (λ (x : Pid × Pid). Deliver x.0 x.1) pairs (pair ∷ [])))
    (puts_more r (deliveries_of pairs) (Deliver pair.0 pair.1 ∷ []) old mid new first second)

pub puts_both : (r : Records) (xs ys : List Step) (mid new : List Step) → PutsEnabled r xs [] mid → PutsEnabled r ys mid new → (m : ModuleTree) (v : Contents) → Agrees m r v → new ≡ filter (is_enabled_at m v) (xs ++ ys)
puts_both r xs ys mid new first second = puts_more r xs ys [] mid new first second
