-- The processes that live are those of the records, in their order.
use Rattle.std.proofs.Common.{◌≡◌, ◌∙◌, inl, inr, Bool, true, false, ◌||◌, List, [], ◌∷◌, Some, None, refl, sym, ap, if◌then◌else◌, subst, true≢false, is_some, option_map, map}
use Rattle.std.proofs.lemmas.Cmp.{tied_itself}
use Rattle.std.specs.BTreeMap.{is_at}
use Rattle.std.specs.Cmp.Lexicographic.{nat_list_cmp_total}
use Rattle.std.specs.List.{filter_map, list_any, AllByRecursion}
use Rattle.std.specs.List.Sorted.{IsStrictlySortedBy}
use Rattle.std.specs.Ordering.{is_eq}
use Rattle.std.specs.declared.cmp.Ordering.TheVariants.{Less}
use Rattle.term_core.specs.Order.{order_of_lists}
use Rattle.term_core.specs.declared.step.Step.{Step}
use Rattle.term_core.specs.declared.step.Step.TheVariants.{Turn, Deliver}
use Rattle.world_model.specs.Cells.{Alive}
use Rattle.world_model.specs.Events.{event, History, RanAway}
use Rattle.world_model.specs.Names.{Pid, IsAmong}
use Rattle.world_model.specs.Run.{is_enabled, enabled_steps, living, possible_steps, turn_of}
use Rattle.world_model.specs.StepLaws.{ComesBefore, AreInOrder}
use Rattle.world_model.specs.World.{alive, contents}
use Rattle.world_model.proofs.Opened.{enabled_listed, listed_enabled, listed_in_order}
use Rattle.world_model.proofs.StepLists as steps
use Rattle.world_model.proofs.StepLists.{everyone, living_in}
use Rattle.world_steps.specs.inside.Enabling.{turns_of}
use Rattle.world_steps.proofs.Listed.{key_among, turn_among, turns_in_order}

-- the turns among some steps
abbrev turns_among : List Step → List Step
turns_among steps = turns_of (filter_map turn_of steps)

-- ---- they are in order where the steps are

turns_after : (step : Step) (rest : List Step) → ComesBefore step rest → ComesBefore step (turns_among rest)
turns_after step [] before = tt
turns_after step (Turn p ∷ rest) before = (before.0, turns_after step rest before.1)
turns_after step (Deliver s r ∷ rest) before = turns_after step rest before.1

turns_sorted : (xs : List Step) → AreInOrder xs → AreInOrder (turns_among xs)
turns_sorted [] sorted = tt
turns_sorted (Turn p ∷ xs) sorted = (turns_after (Turn p) xs sorted.0, turns_sorted xs sorted.1)
turns_sorted (Deliver s r ∷ xs) sorted = turns_sorted xs sorted.1

-- ---- and they are those among the steps

was_among : (step : Step) (xs : List Step) → IsAmong step (turns_among xs) → IsAmong step xs
was_among step [] there = absurd there
was_among step (Turn p ∷ xs) (inl is) = inl is
was_among step (Turn p ∷ xs) (inr there) = inr (was_among step xs there)
was_among step (Deliver s r ∷ xs) there = inr (was_among step xs there)

no_turn : (s r p : Pid) → Deliver s r ≡ Turn p → ⊥
no_turn s r p is = absurd cc

stays_among : (p : Pid) (xs : List Step) → IsAmong (Turn p) xs → IsAmong (Turn p) (turns_among xs)
stays_among p [] there = absurd there
stays_among p (Turn q ∷ xs) (inl is) = inl is
stays_among p (Turn q ∷ xs) (inr there) = inr (stays_among p xs there)
stays_among p (Deliver s r ∷ xs) (inl is) = absurd (no_turn s r p is)
stays_among p (Deliver s r ∷ xs) (inr there) = stays_among p xs there

-- ---- turns of processes

no_delivery : (s r : Pid) (ps : List Pid) → IsAmong (Deliver s r) (turns_of ps) → ⊥
no_delivery s r [] there = there
no_delivery s r (p ∷ ps) (inl is) = no_turn s r p (sym is)
no_delivery s r (p ∷ ps) (inr there) = no_delivery s r ps there

pid_is : (p q : Pid) → Turn q ≡ Turn p → q ≡ p
pid_is p q is = cc

among_turns : (p : Pid) (ps : List Pid) → IsAmong (Turn p) (turns_of ps) → IsAmong p ps
among_turns p [] there = absurd there
among_turns p (q ∷ qs) (inl is) = inl (pid_is p q is)
among_turns p (q ∷ qs) (inr there) = inr (among_turns p qs there)

turns_back : (ps : List Pid) → filter_map turn_of (turns_of ps) ≡ ps
turns_back [] = refl
turns_back (p ∷ ps) = ap (λ qs. p ∷ qs) (turns_back ps)

-- ---- keys

or_true : (b : Bool) → (b || true) ≡ true
or_true true = refl
or_true false = refl

first_key : (p q : Pid) (rest : Bool) → q ≡ p → (is_eq (order_of_lists p q) || rest) ≡ true
first_key p q rest is = ap (λ r. is_eq (order_of_lists p r) || rest) is ∙ ap (λ o. is_eq o || rest) (tied_itself nat_list_cmp_total p)

among_key : (p : Pid) (ps : List Pid) → IsAmong p ps → list_any (is_at (order_of_lists p)) ps ≡ true
among_key p [] there = absurd there
among_key p (q ∷ qs) (inl is) = first_key p q (list_any (is_at (order_of_lists p)) qs) is
among_key p (q ∷ qs) (inr there) = ap (λ b. is_eq (order_of_lists p q) || b) (among_key p qs there) ∙ or_true (is_eq (order_of_lists p q))

-- ---- the living

lives_if : (p : Pid) (b : Bool) → is_some (option_map (event (Turn p)) (if b then Some RanAway else None)) ≡ true → b ≡ true
lives_if p true now = refl
lives_if p false now = absurd (true≢false (sym now))

turns_if : (p : Pid) (b : Bool) → b ≡ true → is_some (option_map (event (Turn p)) (if b then Some RanAway else None)) ≡ true
turns_if p b lives = ap (λ b. is_some (option_map (event (Turn p)) (if b then Some RanAway else None))) lives

-- a list of processes in order that has just those that live
AreLiving : History → List Pid → Type 0
AreLiving h ps = (p : Pid) → list_any (is_at (order_of_lists p)) ps ≡ contents h (Alive p)

found_here : (h : History) (ps : List Pid) → AreLiving h ps → (step : Step) → IsAmong step (turns_among (enabled_steps everyone h)) → IsAmong step (turns_of ps)
unfolding AreLiving
found_here h ps lives (Turn p) there =
    let now = listed_enabled everyone h (Turn p) (was_among (Turn p) (enabled_steps everyone h) there) in
    turn_among p ps (key_among p ps (lives p ∙ lives_if p (contents h (Alive p)) now))
found_here h ps lives (Deliver s r) there = absurd (no_delivery s r (filter_map turn_of (enabled_steps everyone h)) there)

found_there : (h : History) (ps : List Pid) → AreLiving h ps → (step : Step) → IsAmong step (turns_of ps) → IsAmong step (turns_among (enabled_steps everyone h))
unfolding AreLiving
found_there h ps lives (Turn p) there =
    let now = turns_if p (contents h (Alive p)) (sym (lives p) ∙ among_key p ps (among_turns p ps there)) in
    stays_among p (enabled_steps everyone h) (enabled_listed everyone h (Turn p) now)
found_there h ps lives (Deliver s r) there = absurd (no_delivery s r ps there)

pub living_are : (h : History) (ps : List Pid) → IsStrictlySortedBy order_of_lists ps → ((p : Pid) → list_any (is_at (order_of_lists p)) ps ≡ contents h (Alive p)) → ps ≡ living h
unfolding AreLiving
living_are h ps sorted lives =
    let open_ = enabled_steps everyone h in
    let same : turns_of ps ≡ turns_among open_ = steps.same_list (turns_of ps) (turns_among open_)
    (turns_in_order ps sorted)
    (turns_sorted open_ (listed_in_order everyone h))
    (found_there h ps lives)
    (found_here h ps lives) in
    sym (turns_back ps) ∙ ap (filter_map turn_of) same ∙ turns_back (filter_map turn_of open_) ∙ sym (living_in h (possible_steps h))

-- ---- the list of those that live

living_turns : (h : History) → turns_of (living h) ≡ turns_among (enabled_steps everyone h)
living_turns h = ap turns_of (living_in h (possible_steps h))

pub listed_alive : (h : History) (p : Pid) → IsAmong p (living h) → alive h p ≡ true
listed_alive h p there =
    let turn : IsAmong (Turn p) (turns_among (enabled_steps everyone h)) = subst (IsAmong (Turn p)) (living_turns h) (turn_among p (living h) there) in
    lives_if p (contents h (Alive p)) (listed_enabled everyone h (Turn p) (was_among (Turn p) (enabled_steps everyone h) turn))

pub alive_listed : (h : History) (p : Pid) → alive h p ≡ true → IsAmong p (living h)
alive_listed h p lives =
    let turn : IsAmong (Turn p) (turns_among (enabled_steps everyone h)) = stays_among p (enabled_steps everyone h) (enabled_listed everyone h (Turn p) (turns_if p (contents h (Alive p)) lives)) in
    among_turns p (living h) (subst (IsAmong (Turn p)) (sym (living_turns h)) turn)

below_all : (p : Pid) (ps : List Pid) → ComesBefore (Turn p) (turns_of ps) → AllByRecursion (λ q. order_of_lists p q ≡ Less) ps
below_all p [] before = tt
below_all p (q ∷ qs) before = (before.0, below_all p qs before.1)

sorted_back : (ps : List Pid) → AreInOrder (turns_of ps) → IsStrictlySortedBy order_of_lists ps
unfolding IsStrictlySortedBy
sorted_back [] sorted = tt
sorted_back (p ∷ ps) sorted = (below_all p ps sorted.0, sorted_back ps sorted.1)

pub living_sorted : (h : History) → IsStrictlySortedBy order_of_lists (living h)
living_sorted h = sorted_back (living h) (subst AreInOrder (sym (living_turns h)) (turns_sorted (enabled_steps everyone h) (listed_in_order everyone h)))
