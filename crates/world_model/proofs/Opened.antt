-- Every enabled step is among those that were opened, and these are in order.
use Rattle.std.proofs.Common.{◌≡◌, inl, inr, Bool, true, false, ◌&&◌, List, [], ◌∷◌, ◌++◌, Option, Some, None, refl, sym, ap, ◌∙◌, if◌then◌else◌, true≢false, subst, drop, zero, suc, ℕ}
use Rattle.std.specs.List.{filter}
use Rattle.std.specs.Ordering.{ordering_reverse}
use Rattle.std.specs.Prelude.{is_some, option_map}
use Rattle.std.specs.declared.cmp.Ordering.{Ordering}
use Rattle.std.specs.declared.cmp.Ordering.TheVariants.{Less, Equal, Greater}
use Rattle.term_core.specs.StepOrder.{order_of_steps}
use Rattle.term_core.specs.inside.StepOrderLaws.{steps_total, same_step}
use Rattle.term_core.specs.declared.step.Step.{Step}
use Rattle.term_core.specs.declared.step.Step.TheVariants.{Turn, Deliver}
use Rattle.core_semantics.specs.Ask.{is_first}
use Rattle.world_model.specs.Cells.{Contents, Alive, Tail, meet, Machine, Front}
use Rattle.world_model.specs.Changes.{Change, set_in_order, set_before, AliveSet, SignalPut, changed, AliveCleared, CellTouched, after}
use Rattle.world_model.specs.Events.{Signal, History, event}
use Rattle.world_model.specs.Names.{IsAmong, Pid, same_pid}
use Rattle.world_model.specs.Requests.{Program}
use Rattle.world_model.specs.Run.{opened, with_opened, opened_by, possible_steps, is_enabled}
use Rattle.world_model.specs.Signals.{first_of, waiting_in}
use Rattle.world_model.specs.StepLaws.{EnabledAreListed, ListedAreEnabled, ComesBefore, AreInOrder, AreListedInOrder}
use Rattle.world_model.specs.Steps.{changes_by, deed_delivered, deed_asked, asked}
use Rattle.world_model.specs.World.{contents}
use Rattle.world_model.proofs.Meeting.{pids_same, both}

-- ---- lists in order

module _ {A : Type 0} (order : A → A → Ordering) (same : (x y : A) → order x y ≡ Equal → x ≡ y) where
  -- what is put among others is there, and the others stay
  here_by : (x y : A) (ys : List A) (r : Ordering) → order x y ≡ r → IsAmong x (set_in_order order x ys) → IsAmong x (set_before r x y ys (set_in_order order x ys))
  here_by x y ys Less is rest = inl refl
  here_by x y ys Equal is rest = inl (sym (same x y is))
  here_by x y ys Greater is rest = inr rest

  pub is_here : (x : A) (ys : List A) → IsAmong x (set_in_order order x ys)
  is_here x [] = inl refl
  is_here x (y ∷ ys) = here_by x y ys (order x y) refl (is_here x ys)

  still_by : (x y z : A) (ys : List A) (r : Ordering) → (IsAmong z ys → IsAmong z (set_in_order order x ys)) → IsAmong z (y ∷ ys) → IsAmong z (set_before r x y ys (set_in_order order x ys))
  still_by x y z ys Less rest there = inr there
  still_by x y z ys Equal rest there = there
  still_by x y z ys Greater rest (inl is) = inl is
  still_by x y z ys Greater rest (inr there) = inr (rest there)

  pub is_still : (x z : A) (ys : List A) → IsAmong z ys → IsAmong z (set_in_order order x ys)
  is_still x z [] there = inr there
  is_still x z (y ∷ ys) there = still_by x y z ys (order x y) (is_still x z ys) there

-- ---- what is opened

IsOpen : Contents → List Step → Type 0
IsOpen v steps = ((p : Pid) → v (Alive p) ≡ true → IsAmong (Turn p) steps) × ((s r : Pid) (x : Signal) → first_of (v (Tail s r)) ≡ Some x → IsAmong (Deliver s r) steps)

-- what is opened stays, and a life and a signal open
still_open : (k : Change) (steps : List Step) (step : Step) → IsAmong step steps → IsAmong step (with_opened (opened_by k) steps)
still_open (AliveSet p) steps step there = is_still order_of_steps same_step (Turn p) step steps there
still_open (SignalPut s r x) steps step there = is_still order_of_steps same_step (Deliver s r) step steps there
still_open k steps step there = there

lives_by : (b : Bool) (p q : Pid) (lived : Bool) (steps : List Step) → same_pid p q ≡ b → (lived ≡ true → IsAmong (Turn q) (set_in_order order_of_steps (Turn p) steps)) → (if b then true else lived) ≡ true → IsAmong (Turn q) (set_in_order order_of_steps (Turn p) steps)
lives_by true p q lived steps is rest now = subst (λ x. IsAmong (Turn x) (set_in_order order_of_steps (Turn p) steps)) (pids_same p q is) (is_here order_of_steps same_step (Turn p) steps)
lives_by false p q lived steps is rest now = rest now

dies_by : (b lived : Bool) → (if b then false else lived) ≡ true → lived ≡ true
dies_by true lived now = absurd (true≢false (sym now))
dies_by false lived now = now

either : {A : Type 0} (b : Bool) (x : A) → (if b then x else x) ≡ x
either true x = refl
either false x = refl

puts_by : (b : Bool) (s r t u : Pid) (x y : Signal) (put_ : List Signal) (steps : List Step) → (same_pid s t && same_pid r u) ≡ b → ((z : Signal) → first_of put_ ≡ Some z → IsAmong (Deliver t u) (set_in_order order_of_steps (Deliver s r) steps)) → first_of (if b then put_ ++ (x ∷ []) else put_) ≡ Some y → IsAmong (Deliver t u) (set_in_order order_of_steps (Deliver s r) steps)
puts_by true s r t u x y put_ steps is rest now =
    let parts = both (same_pid s t) (same_pid r u) is in
    subst (λ q. IsAmong (Deliver q u) (set_in_order order_of_steps (Deliver s r) steps)) (pids_same s t parts.0) (subst (λ q. IsAmong (Deliver s q) (set_in_order order_of_steps (Deliver s r) steps)) (pids_same r u parts.1) (is_here order_of_steps same_step (Deliver s r) steps))
puts_by false s r t u x y put_ steps is rest now = rest y now

opens : (k : Change) (v : Contents) (steps : List Step) → IsOpen v steps → IsOpen (changed k v) (with_opened (opened_by k) steps)
unfolding IsOpen
opens (AliveSet p) v steps open_ = ((λ q. lives_by (same_pid p q) p q (v (Alive q)) steps refl (λ lived. is_still order_of_steps same_step (Turn p) (Turn q) steps (open_.0 q lived))), (λ s r x there. is_still order_of_steps same_step (Turn p) (Deliver s r) steps (open_.1 s r x there)))
opens (AliveCleared p) v steps open_ = ((λ q now. open_.0 q (dies_by (same_pid p q) (v (Alive q)) now)), open_.1)
opens (SignalPut s r x) v steps open_ = ((λ q lived. is_still order_of_steps same_step (Deliver s r) (Turn q) steps (open_.0 q lived)), (λ t u y. puts_by (same_pid s t && same_pid r u) s r t u x y (v (Tail t u)) steps refl (λ z there. is_still order_of_steps same_step (Deliver s r) (Deliver t u) steps (open_.1 t u z there))))
opens (CellTouched c) v steps open_ = ((λ q now. open_.0 q (sym (either (meet c (Alive q)) (v (Alive q))) ∙ now)), (λ s r x now. open_.1 s r x (sym (ap first_of (either (meet c (Tail s r)) (v (Tail s r)))) ∙ now)))
opens k v steps open_ = open_

all_open : (ks : List Change) (v : Contents) (steps : List Step) → IsOpen v steps → IsOpen (after ks v) (opened ks steps)
all_open [] v steps open_ = open_
all_open (k ∷ ks) v steps open_ = all_open ks (changed k v) (with_opened (opened_by k) steps) (opens k v steps open_)

first_is : (p : Pid) → is_first p ≡ true → IsAmong (Turn p) (Turn [] ∷ [])
first_is [] now = inl refl
first_is (n ∷ ns) now = absurd (true≢false (sym now))

are_open : (h : History) → IsOpen (contents h) (possible_steps h)
unfolding contents IsOpen
are_open [] = (first_is, (λ s r x now. absurd cc))
are_open (e ∷ h) = all_open (changes_by (contents h) e.step e.deed) (contents h) (possible_steps h) (are_open h)

-- ---- enabled steps

lives_if : (b : Bool) {D : Type 0} (d : Option D) {E : Type 0} (f : D → E) → is_some (option_map f (if b then d else None)) ≡ true → b ≡ true
lives_if true d f now = refl
lives_if false d f now = absurd (true≢false (sym now))

there_if : (b : Bool) (v : Contents) (s r : Pid) (o : Option Signal) → is_some (option_map (event (Deliver s r)) (if b then deed_delivered v s r o else None)) ≡ true → (x : Signal) × (o ≡ Some x)
there_if true v s r None now = absurd (true≢false (sym now))
there_if true v s r (Some x) now = (x, refl)
there_if false v s r o now = absurd (true≢false (sym now))

-- what waits was put
was_put : (n : ℕ) (xs : List Signal) (x : Signal) → first_of (drop n xs) ≡ Some x → (y : Signal) × (first_of xs ≡ Some y)
was_put zero xs x is = (x, is)
was_put (suc n) [] x is = absurd cc
was_put (suc n) (y ∷ xs) x is = (y, refl)

is_possible : (a : Program) (h : History) (step : Step) → is_enabled a h step ≡ true → IsAmong step (possible_steps h)
unfolding IsOpen
is_possible a h (Turn p) now = (are_open h).0 p (lives_if (contents h (Alive p)) (deed_asked (contents h) p (asked a p (contents h (Machine p)))) (event (Turn p)) now)
is_possible a h (Deliver s r) now =
    let x = there_if (contents h (Alive r)) (contents h) s r (first_of (waiting_in (contents h) s r)) now in
    let y = was_put (contents h (Front s r)) (contents h (Tail s r)) x.0 x.1 in
    (are_open h).1 s r y.0 y.1

-- ---- what a test lets through

kept_if : {A : Type 0} (x y : A) (rest : List A) (b : Bool) → IsAmong x rest → IsAmong x (if b then y ∷ rest else rest)
kept_if x y rest true there = inr there
kept_if x y rest false there = there

is_kept : {A : Type 0} (test : A → Bool) (x : A) (xs : List A) → test x ≡ true → IsAmong x xs → IsAmong x (filter test xs)
is_kept test x [] passes_ there = absurd there
is_kept test x (y ∷ ys) passes_ (inl is) = subst (λ b. IsAmong x (if b then y ∷ filter test ys else filter test ys)) (sym (ap test is ∙ passes_)) (inl is)
is_kept test x (y ∷ ys) passes_ (inr there) = kept_if x y (filter test ys) (test y) (is_kept test x ys passes_ there)

passed_if : {A : Type 0} (test : A → Bool) (x y : A) (rest : List A) (b : Bool) → test y ≡ b → (IsAmong x rest → test x ≡ true) → IsAmong x (if b then y ∷ rest else rest) → test x ≡ true
passed_if test x y rest true is others (inl same) = sym (ap test same) ∙ is
passed_if test x y rest true is others (inr there) = others there
passed_if test x y rest false is others there = others there

has_passed : {A : Type 0} (test : A → Bool) (x : A) (xs : List A) → IsAmong x (filter test xs) → test x ≡ true
has_passed test x [] there = absurd there
has_passed test x (y ∷ ys) there = passed_if test x y (filter test ys) (test y) refl (has_passed test x ys) there

pub enabled_listed : EnabledAreListed
enabled_listed a h step now = is_kept (is_enabled a h) step (possible_steps h) now (is_possible a h step now)

pub listed_enabled : ListedAreEnabled
listed_enabled a h step there = has_passed (is_enabled a h) step (possible_steps h) there

-- ---- in order

before_all : (s t : Step) (xs : List Step) → order_of_steps s t ≡ Less → ComesBefore t xs → ComesBefore s xs
before_all s t [] first rest = tt
before_all s t (x ∷ xs) first rest = (steps_total.trans s t x first rest.0, before_all s t xs first rest.1)

is_it : Ordering → Ordering → Bool
is_it Greater Greater = true
is_it Greater r = false
is_it q r = false

turned_by : (r q : Ordering) → r ≡ ordering_reverse q → r ≡ Greater → q ≡ Less
unfolding is_it
turned_by r Less is now = refl
turned_by r Equal is now = absurd (true≢false (sym (ap (is_it Greater) (sym is ∙ now))))
turned_by r Greater is now = absurd (true≢false (sym (ap (is_it Greater) (sym is ∙ now))))

comes_by : (s x y : Step) (ys : List Step) (r : Ordering) → order_of_steps s x ≡ Less → ComesBefore s (y ∷ ys) → ComesBefore s (set_in_order order_of_steps x ys) → ComesBefore s (set_before r x y ys (set_in_order order_of_steps x ys))
comes_by s x y ys Less first there rest = (first, there)
comes_by s x y ys Equal first there rest = there
comes_by s x y ys Greater first there rest = (there.0, rest)

set_comes : (s x : Step) (ys : List Step) → order_of_steps s x ≡ Less → ComesBefore s ys → ComesBefore s (set_in_order order_of_steps x ys)
set_comes s x [] first rest = (first, tt)
set_comes s x (y ∷ ys) first rest = comes_by s x y ys (order_of_steps x y) first rest (set_comes s x ys first rest.1)

sorted_by : (x y : Step) (ys : List Step) (r : Ordering) → order_of_steps x y ≡ r → AreInOrder (y ∷ ys) → AreInOrder (set_in_order order_of_steps x ys) → AreInOrder (set_before r x y ys (set_in_order order_of_steps x ys))
sorted_by x y ys Less is sorted rest = ((is, before_all x y ys is sorted.0), sorted)
sorted_by x y ys Equal is sorted rest = sorted
sorted_by x y ys Greater is sorted rest = (set_comes y x ys (turned_by (order_of_steps x y) (order_of_steps y x) (steps_total.antisymm x y) is) sorted.0, rest)

set_sorted : (x : Step) (ys : List Step) → AreInOrder ys → AreInOrder (set_in_order order_of_steps x ys)
set_sorted x [] sorted = (tt, tt)
set_sorted x (y ∷ ys) sorted = sorted_by x y ys (order_of_steps x y) refl sorted (set_sorted x ys sorted.1)

opened_sorted : (o : Option Step) (steps : List Step) → AreInOrder steps → AreInOrder (with_opened o steps)
opened_sorted None steps sorted = sorted
opened_sorted (Some step) steps sorted = set_sorted step steps sorted

all_sorted : (ks : List Change) (steps : List Step) → AreInOrder steps → AreInOrder (opened ks steps)
all_sorted [] steps sorted = sorted
all_sorted (k ∷ ks) steps sorted = all_sorted ks (with_opened (opened_by k) steps) (opened_sorted (opened_by k) steps sorted)

possible_sorted : (h : History) → AreInOrder (possible_steps h)
possible_sorted [] = (tt, tt)
possible_sorted (e ∷ h) = all_sorted (changes_by (contents h) e.step e.deed) (possible_steps h) (possible_sorted h)

before_if : (s x : Step) (rest : List Step) (b : Bool) → order_of_steps s x ≡ Less → ComesBefore s rest → ComesBefore s (if b then x ∷ rest else rest)
before_if s x rest true first there = (first, there)
before_if s x rest false first there = there

before_kept : (test : Step → Bool) (s : Step) (xs : List Step) → ComesBefore s xs → ComesBefore s (filter test xs)
before_kept test s [] there = tt
before_kept test s (x ∷ xs) there = before_if s x (filter test xs) (test x) there.0 (before_kept test s xs there.1)

sorted_if : (x : Step) (rest : List Step) (b : Bool) → ComesBefore x rest → AreInOrder rest → AreInOrder (if b then x ∷ rest else rest)
sorted_if x rest true first sorted = (first, sorted)
sorted_if x rest false first sorted = sorted

kept_sorted : (test : Step → Bool) (xs : List Step) → AreInOrder xs → AreInOrder (filter test xs)
kept_sorted test [] sorted = tt
kept_sorted test (x ∷ xs) sorted = sorted_if x (filter test xs) (test x) (before_kept test x xs sorted.0) (kept_sorted test xs sorted.1)

pub listed_in_order : AreListedInOrder
listed_in_order a h = kept_sorted (is_enabled a h) (possible_steps h) (possible_sorted h)
