-- The steps that are remembered as enabled are those that are.
use Rattle.std.proofs.Common.{◌≡◌, ◌∙◌, inl, inr, ◌+◌, ◌<◌, ◌++◌, ◌∷◌, [], ℕ, cond, Bool, true, false, List, Option, Some, None, Result, Ok, Err, IfOk, OnOk, Vec, Global, length, map, is_some, refl, sym, ap, subst, append_assoc, append-nil}
use Rattle.std.proofs.lemmas.List.Elements.{filter-append}
use Rattle.std.proofs.lemmas.List.Kept.{IsStrictlySortedBy-filter}
use Rattle.std.specs.List.{AllByRecursion, filter, slice_get}
use Rattle.std.proofs.Common.{drop, get_or, take}
use Rattle.std.proofs.lemmas.List.{drop_more, map-append, take-append-drop, take_more}
use Rattle.std.proofs.lemmas.Option.{slice_get-get_or, slice_get_read}
use Rattle.std.specs.List.Sorted.{IsStrictlySortedBy}
use Rattle.std.specs.declared.cmp.Ordering.TheVariants.{Less}
use Rattle.core_tree.specs.Syntax.{ModuleTree}
use Rattle.search_levels.specs.Arrivals.{is_some_step}
use Rattle.search_numbers.specs.Knowing.{AreAt, AreEnabled, AreRight, FirstIs, GoesOn, InWorlds, IsAt, IsEnabledAt, IsFirstAtOnce, KnowsMore}
use Rattle.search_numbers.specs.inside.Finding.{IsFoundAt}
use Rattle.search_numbers.specs.inside.Learning.{IsLearned}
use Rattle.search_numbers.specs.Remembering.{IsRight, IsSo, shown_in}
use Rattle.search_numbers.specs.Rows.{fits}
use Rattle.search_numbers.specs.Stored.{AllBegin, AreAsked, AreKept, AreOf, BeginsAt, Follows, IsWorldOf}
use Rattle.search_numbers.specs.declared.known.Known.{Known}
use Rattle.search_numbers.specs.declared.remembered.Remembered.{Remembered}
use Rattle.search_numbers.specs.declared.store.Store.{Store}
use Rattle.term_core.specs.StepOrder.{order_of_steps}
use Rattle.term_core.specs.declared.step.Step.{Step}
use Rattle.tree_schedules.specs.Deliveries.{is_at_once}
use Rattle.world_identities.specs.declared.identity.Identity.{Identity}
use Rattle.world_model.specs.Asking.{program_of}
use Rattle.world_model.specs.Events.{History}
use Rattle.world_model.specs.Names.{IsAmong}
use Rattle.world_model.specs.Requests.{Program}
use Rattle.world_model.specs.Run.{enabled_steps, is_enabled}
use Rattle.world_model.specs.StepLaws.{AreInOrder, ComesBefore}
use Rattle.world_model.proofs.Opened.{enabled_listed, listed_enabled, listed_in_order}
use Rattle.world_model.proofs.StepLists.{same_list}
use Rattle.world_records.specs.declared.place.Place.{Place}
use Rattle.search_numbers.proofs.Columns.{all_append, got_holds, got_last, got_still}
use Rattle.search_numbers.proofs.Kept.{all_right_later, follows_too}
use Rattle.search_numbers.proofs.Followed.{begins_later, follows_itself, same_begins}

-- ---- what is known stays known

pub knows_itself : (known : Known) → KnowsMore known known
knows_itself known = record {
  follows = follows_itself known.store;
  right = λ right. right;
  more = [];
  remembered = sym (append-nil known.remembered.items);
}

pub knows_too : (one two three : Known) → KnowsMore one two → KnowsMore two three → KnowsMore one three
knows_too one two three first second = record {
  follows = follows_too one.store two.store three.store first.follows second.follows;
  right = λ right. second.right (first.right right);
  more = first.more ++ second.more;
  remembered = second.remembered ∙ ap (λ rs. rs ++ second.more) first.remembered ∙ append_assoc one.remembered.items first.more second.more;
}

pub enabled_at_later : (old new : Known) (numbers : ℕ → ℕ) (s : Step) (at : ℕ) → KnowsMore old new → IsEnabledAt old numbers s at → IsEnabledAt new numbers s at
enabled_at_later old new numbers s at knows is = record {
  remembered = is.remembered;
  there = ap (λ rs. slice_get rs at) knows.remembered ∙ got_still old.remembered.items knows.more at is.remembered is.there;
  is_of = is.is_of;
  matches = is.matches;
  enabled = is.enabled;
}

are_at_later : (old new : Known) (numbers : ℕ → ℕ) (steps : List Step) (places : List ℕ) → KnowsMore old new → AreAt old numbers steps places → AreAt new numbers steps places
are_at_later old new numbers [] [] knows are = tt
are_at_later old new numbers [] (at ∷ places) knows are = are
are_at_later old new numbers (s ∷ steps) [] knows are = are
are_at_later old new numbers (s ∷ steps) (at ∷ places) knows are = (enabled_at_later old new numbers s at knows are.0, are_at_later old new numbers steps places knows are.1)

are_at_more : (known : Known) (numbers : ℕ → ℕ) (steps : List Step) (places : List ℕ) (s : Step) (at : ℕ) → AreAt known numbers steps places → IsEnabledAt known numbers s at → AreAt known numbers (steps ++ s ∷ []) (places ++ at ∷ [])
are_at_more known numbers [] [] s at are last = (last, tt)
are_at_more known numbers [] (p ∷ places) s at are last = absurd are
are_at_more known numbers (t ∷ steps) [] s at are last = absurd are
are_at_more known numbers (t ∷ steps) (p ∷ places) s at are last = (are.0, are_at_more known numbers steps places s at are.1 last)

-- ---- whether a step is enabled, by what is remembered of it

pub enabled_is : (store later : Store) (numbers : ℕ → ℕ) (m : ModuleTree) (h : History) (s : Step) (r : Remembered) → IsRight store r → r.step ≡ s → fits r.touches.items numbers ≡ true → Follows later store → AreOf later numbers m h → is_enabled (program_of m) h s ≡ is_some r.shown
enabled_is store later numbers m h s r right step fit follows are = ap (is_enabled (program_of m) h) (sym step) ∙ go r.shown (right.is_so later numbers m h follows fit are)
  where
    go : (o : Option (Vec Identity Global)) → IsSo later numbers m h r (shown_in o) → is_enabled (program_of m) h r.step ≡ is_some o
    go None is = ap is_some is
    go (Some shown) is = ap is_some is.is_next

pub right_at : (known : Known) (at : ℕ) (r : Remembered) → AreRight known → slice_get known.remembered.items at ≡ Some r → IsRight known.store r
right_at known at r right there = got_holds (IsRight known.store) known.remembered.items at r right there

enabled_at : (known : Known) (numbers : ℕ → ℕ) (s : Step) (at : ℕ) (is : IsAt known numbers s at) → AreRight known → InWorlds known numbers (λ m h. is_enabled (program_of m) h s ≡ is_some is.remembered.shown)
enabled_at known numbers s at is right later m h follows are = enabled_is known.store later numbers m h s is.remembered (right_at known at is.remembered right is.there) is.is_of is.matches follows are

pub as_enabled : (known : Known) (numbers : ℕ → ℕ) (s : Step) (at : ℕ) (is : IsAt known numbers s at) → is_some is.remembered.shown ≡ true → IsEnabledAt known numbers s at
as_enabled known numbers s at is enabled = record { remembered = is.remembered; there = is.there; is_of = is.is_of; matches = is.matches; enabled = enabled }

-- ---- of some steps, those that are enabled are at these places

abbrev pub AreSoFar : Known → (ℕ → ℕ) → List Step → List ℕ → Type 0
AreSoFar known numbers steps places = InWorlds known numbers (λ m h. AreAt known numbers (filter (is_enabled (program_of m) h) steps) places)

pub none_so_far : (known : Known) (numbers : ℕ → ℕ) → AreSoFar known numbers [] []
none_so_far known numbers later m h follows are = tt

last_on : (test : Step → Bool) (steps : List Step) (s : Step) → test s ≡ true → filter test (steps ++ s ∷ []) ≡ filter test steps ++ s ∷ []
last_on test steps s on = filter-append test steps (s ∷ []) ∙ ap (λ b. filter test steps ++ cond b (s ∷ []) []) on

last_off : (test : Step → Bool) (steps : List Step) (s : Step) → test s ≡ false → filter test (steps ++ s ∷ []) ≡ filter test steps
last_off test steps s off = filter-append test steps (s ∷ []) ∙ ap (λ b. filter test steps ++ cond b (s ∷ []) []) off ∙ append-nil (filter test steps)

pub one_more : (old new : Known) (numbers : ℕ → ℕ) (steps : List Step) (places : List ℕ) (s : Step) (at : ℕ) → KnowsMore old new → AreRight new → AreSoFar old numbers steps places → (is : IsAt new numbers s at) → is_some is.remembered.shown ≡ true → AreSoFar new numbers (steps ++ s ∷ []) (places ++ at ∷ [])
one_more old new numbers steps places s at knows right before is enabled later m h follows are =
    let on : is_enabled (program_of m) h s ≡ true = enabled_at new numbers s at is right later m h follows are ∙ enabled in
    subst (λ xs. AreAt new numbers xs (places ++ at ∷ [])) (sym (last_on (is_enabled (program_of m) h) steps s on))
    (are_at_more new numbers (filter (is_enabled (program_of m) h) steps) places s at (are_at_later old new numbers (filter (is_enabled (program_of m) h) steps) places knows (before later m h (follows_too old.store new.store later knows.follows follows) are)) (as_enabled new numbers s at is enabled))

pub no_more : (old new : Known) (numbers : ℕ → ℕ) (steps : List Step) (places : List ℕ) (s : Step) (at : ℕ) → KnowsMore old new → AreRight new → AreSoFar old numbers steps places → (is : IsAt new numbers s at) → is_some is.remembered.shown ≡ false → AreSoFar new numbers (steps ++ s ∷ []) places
no_more old new numbers steps places s at knows right before is off later m h follows are =
    let not_on : is_enabled (program_of m) h s ≡ false = enabled_at new numbers s at is right later m h follows are ∙ off in
    subst (λ xs. AreAt new numbers xs places) (sym (last_off (is_enabled (program_of m) h) steps s not_on))
    (are_at_later old new numbers (filter (is_enabled (program_of m) h) steps) places knows (before later m h (follows_too old.store new.store later knows.follows follows) are))

-- ---- the enabled ones of those that are asked are all that are

comes_before : (x : Step) (xs : List Step) → AllByRecursion (λ y. order_of_steps x y ≡ Less) xs → ComesBefore x xs
comes_before x [] all = tt
comes_before x (y ∷ ys) all = (all.0, comes_before x ys all.1)

are_in_order : (xs : List Step) → IsStrictlySortedBy order_of_steps xs → AreInOrder xs
unfolding IsStrictlySortedBy
are_in_order [] sorted = tt
are_in_order (x ∷ xs) sorted = (comes_before x xs sorted.0, are_in_order xs sorted.1)

kept_if : (x y : Step) (rest : List Step) (b : Bool) → IsAmong x rest → IsAmong x (cond b (y ∷ rest) rest)
kept_if x y rest true there = inr there
kept_if x y rest false there = there

is_kept : (test : Step → Bool) (x : Step) (xs : List Step) → test x ≡ true → IsAmong x xs → IsAmong x (filter test xs)
is_kept test x [] on there = absurd there
is_kept test x (y ∷ ys) on (inl is) = subst (λ b. IsAmong x (cond b (y ∷ filter test ys) (filter test ys))) (sym (ap test is ∙ on)) (inl is)
is_kept test x (y ∷ ys) on (inr there) = kept_if x y (filter test ys) (test y) (is_kept test x ys on there)

passed_if : (test : Step → Bool) (x y : Step) (rest : List Step) (b : Bool) → test y ≡ b → (IsAmong x rest → test x ≡ true) → IsAmong x (cond b (y ∷ rest) rest) → test x ≡ true
passed_if test x y rest true is others (inl same) = sym (ap test same) ∙ is
passed_if test x y rest true is others (inr there) = others there
passed_if test x y rest false is others there = others there

has_passed : (test : Step → Bool) (x : Step) (xs : List Step) → IsAmong x (filter test xs) → test x ≡ true
has_passed test x [] there = absurd there
has_passed test x (y ∷ ys) there = passed_if test x y (filter test ys) (test y) refl (has_passed test x ys) there

pub asked_enabled : (store later : Store) (numbers : ℕ → ℕ) (columns : List ℕ) (m : ModuleTree) (h : History) → AreKept store numbers → (asked : AreAsked store numbers columns) → Follows later store → AreOf later numbers m h → filter (is_enabled (program_of m) h) (map asked.step columns) ≡ enabled_steps (program_of m) h
asked_enabled store later numbers columns m h kept asked follows are =
    let a = program_of m in
    let steps = map asked.step columns in
    same_list (filter (is_enabled a h) steps) (enabled_steps a h)
    (are_in_order (filter (is_enabled a h) steps) (IsStrictlySortedBy-filter order_of_steps (is_enabled a h) steps asked.in_order))
    (listed_in_order a h)
    (λ s there. enabled_listed a h s (has_passed (is_enabled a h) s steps there))
    (λ s there. is_kept (is_enabled a h) s steps (listed_enabled a h s there) (asked.all later m h follows kept are s there))

pub all_enabled : (old new : Known) (numbers : ℕ → ℕ) (columns places : List ℕ) → IsWorldOf old.store numbers → (asked : AreAsked old.store numbers columns) → KnowsMore old new → AreSoFar new numbers (map asked.step columns) places → AreEnabled new numbers places
all_enabled old new numbers columns places world asked knows so_far later m h follows are =
    subst (λ xs. AreAt new numbers xs places) (asked_enabled old.store later numbers columns m h world.kept asked (follows_too old.store new.store later knows.follows follows) are) (so_far later m h follows are)

-- ---- none of some steps is enabled and passes a test

abbrev pub NoneIs : (History → Step → Bool) → Known → (ℕ → ℕ) → List Step → Type 0
NoneIs test known numbers steps = InWorlds known numbers (λ m h. filter (test h) (filter (is_enabled (program_of m) h) steps) ≡ [])

abbrev pub every : History → Step → Bool
every h s = true

pub none_is : (test : History → Step → Bool) (known : Known) (numbers : ℕ → ℕ) → NoneIs test known numbers []
none_is test known numbers later m h follows are = refl

pub still_none : (test : History → Step → Bool) (old new : Known) (numbers : ℕ → ℕ) (steps : List Step) (s : Step) (at : ℕ) → KnowsMore old new → AreRight new → NoneIs test old numbers steps → (is : IsAt new numbers s at) → is_some is.remembered.shown ≡ false → NoneIs test new numbers (steps ++ s ∷ [])
still_none test old new numbers steps s at knows right before is off later m h follows are =
    let not_on : is_enabled (program_of m) h s ≡ false = enabled_at new numbers s at is right later m h follows are ∙ off in
    ap (filter (test h)) (last_off (is_enabled (program_of m) h) steps s not_on) ∙ before later m h (follows_too old.store new.store later knows.follows follows) are

-- a step that does not pass it is passed over
pub passed_over : (test : History → Step → Bool) (known : Known) (numbers : ℕ → ℕ) (steps : List Step) (s : Step) → InWorlds known numbers (λ m h. test h s ≡ false) → NoneIs test known numbers steps → NoneIs test known numbers (steps ++ s ∷ [])
passed_over test known numbers steps s off before later m h follows are = go (is_enabled (program_of m) h s) refl
  where
    a : Program
    a = program_of m

    go : (b : Bool) → is_enabled (program_of m) h s ≡ b → filter (test h) (filter (is_enabled (program_of m) h) (steps ++ s ∷ [])) ≡ []
    go true on = ap (filter (test h)) (last_on (is_enabled (program_of m) h) steps s on) ∙ last_off (test h) (filter (is_enabled (program_of m) h) steps) s (off later m h follows are) ∙ before later m h follows are
    go false not_on = ap (filter (test h)) (last_off (is_enabled (program_of m) h) steps s not_on) ∙ before later m h follows are

pub none_at_once : (old new : Known) (numbers : ℕ → ℕ) (columns : List ℕ) → IsWorldOf old.store numbers → (asked : AreAsked old.store numbers columns) → KnowsMore old new → NoneIs is_at_once new numbers (map asked.step columns) → IsFirstAtOnce new numbers None
none_at_once old new numbers columns world asked knows none later m h follows are =
    let all = asked_enabled old.store later numbers columns m h world.kept asked (follows_too old.store new.store later knows.follows follows) are in
    subst (λ xs. FirstIs new numbers xs None) (sym (sym (ap (filter (is_at_once h)) all) ∙ none later m h follows are)) tt

-- what comes first among more
first_among : (test : Step → Bool) (xs ys : List Step) (s : Step) → filter test xs ≡ [] → test s ≡ true → (zs : List Step) × (filter test (xs ++ s ∷ ys) ≡ s ∷ zs)
first_among test xs ys s none on = (filter test ys, filter-append test xs (s ∷ ys) ∙ (λ i. none i ++ cond (on i) (s ∷ filter test ys) (filter test ys)))

pub first_at_once : (old middle new : Known) (numbers : ℕ → ℕ) (columns : List ℕ) (before rest : List Step) (s : Step) (at : ℕ) → IsWorldOf old.store numbers → (asked : AreAsked old.store numbers columns) → map asked.step columns ≡ before ++ s ∷ rest → KnowsMore old middle → KnowsMore middle new → AreRight new → NoneIs is_at_once middle numbers before → InWorlds middle numbers (λ m h. is_at_once h s ≡ true) → (is : IsAt new numbers s at) → is_some is.remembered.shown ≡ true → IsFirstAtOnce new numbers (Some at)
first_at_once old middle new numbers columns before rest s at world asked are_these first knows right none arrives is enabled later m h follows are =
    let a = program_of m in
    let from_middle = follows_too middle.store new.store later knows.follows follows in
    let all = ap (filter (is_enabled a h)) (sym are_these) ∙ asked_enabled old.store later numbers columns m h world.kept asked (follows_too old.store middle.store later first.follows from_middle) are in
    let on : is_enabled a h s ≡ true = enabled_at new numbers s at is right later m h follows are ∙ enabled in
    let split : filter (is_enabled a h) (before ++ s ∷ rest) ≡ filter (is_enabled a h) before ++ s ∷ filter (is_enabled a h) rest = filter-append (is_enabled a h) before (s ∷ rest) ∙ ap (λ b. filter (is_enabled a h) before ++ cond b (s ∷ filter (is_enabled a h) rest) (filter (is_enabled a h) rest)) on in
    let found = first_among (is_at_once h) (filter (is_enabled a h) before) (filter (is_enabled a h) rest) s (none later m h from_middle are) (arrives later m h from_middle are) in
    subst (λ xs. FirstIs new numbers xs (Some at)) (sym (ap (filter (is_at_once h)) (sym all ∙ split) ∙ found.1)) (as_enabled new numbers s at is enabled)

-- ---- whether some step is enabled

some_listed : (s : Step) (xs : List Step) → IsAmong s xs → is_some_step xs ≡ true
some_listed s [] there = absurd there
some_listed s (x ∷ xs) there = refl

pub one_goes_on : (known : Known) (numbers : ℕ → ℕ) (s : Step) (at : ℕ) → AreRight known → (is : IsAt known numbers s at) → is_some is.remembered.shown ≡ true → GoesOn known numbers true
one_goes_on known numbers s at right is enabled later m h follows are =
    sym (some_listed s (enabled_steps (program_of m) h) (enabled_listed (program_of m) h s (enabled_at known numbers s at is right later m h follows are ∙ enabled)))

all_pass : (h : History) (xs : List Step) → filter (every h) xs ≡ xs
all_pass h [] = refl
all_pass h (x ∷ xs) = ap (λ ys. x ∷ ys) (all_pass h xs)

pub none_goes_on : (old new : Known) (numbers : ℕ → ℕ) (columns : List ℕ) → IsWorldOf old.store numbers → (asked : AreAsked old.store numbers columns) → KnowsMore old new → NoneIs every new numbers (map asked.step columns) → GoesOn new numbers false
none_goes_on old new numbers columns world asked knows none later m h follows are =
    let all = asked_enabled old.store later numbers columns m h world.kept asked (follows_too old.store new.store later knows.follows follows) are in
    sym (ap is_some_step (sym all ∙ sym (all_pass h (filter (is_enabled (program_of m) h) (map asked.step columns))) ∙ none later m h follows are))

-- ---- one more step is remembered

pub knows_one_more : (old new : Known) (rs : List Remembered) → new.store ≡ old.store → new.remembered.items ≡ old.remembered.items ++ rs → AllByRecursion (IsRight old.store) rs → KnowsMore old new
knows_one_more old new rs store more right = record {
  follows = subst (λ s. Follows s old.store) (sym store) (follows_itself old.store);
  right = λ all. subst (λ s. AllByRecursion (IsRight s) new.remembered.items) (sym store) (subst (AllByRecursion (IsRight old.store)) (sym more) (all_append (IsRight old.store) old.remembered.items rs all right));
  more = rs;
  remembered = more;
}

pub knows_same : (old new : Known) → new.store ≡ old.store → new.remembered ≡ old.remembered → KnowsMore old new
knows_same old new store same = knows_one_more old new [] store ((λ i. (same i).items) ∙ sym (append-nil old.remembered.items)) tt

-- what is remembered stays where the store grows
pub knows_grown : (old new : Known) → Follows new.store old.store → new.remembered ≡ old.remembered → KnowsMore old new
knows_grown old new follows same = record {
  follows = follows;
  right = λ all. subst (λ (v : Vec Remembered Global). AllByRecursion (IsRight new.store) v.items) (sym same) (all_right_later old.store new.store old.remembered.items follows all);
  more = [];
  remembered = (λ i. (same i).items) ∙ sym (append-nil old.remembered.items);
}

-- it is at the last place
pub at_last : {E : Type 0} (new : Known) (numbers : ℕ → ℕ) (places : List Place) (c : ℕ) (s : Step) (store : Store) (olds : List Remembered) (r : Remembered) (result : Result ℕ E) → BeginsAt places c s → IsLearned store numbers s r → IfOk result (λ at. at ≡ length olds)
    → OnOk result (new.remembered.items ≡ olds ++ r ∷ []) → IfOk result (λ at. (t : Step) → BeginsAt places c t → IsAt new numbers t at)
at_last new numbers places c s store olds r (Ok at) begins learned place more = λ t is. record {
  remembered = r;
  there = ap (λ rs. slice_get rs at) more ∙ ap (slice_get (olds ++ r ∷ [])) place ∙ got_last olds r [];
  is_of = learned.is_of ∙ same_begins places c s t begins is;
  matches = learned.matches;
}
at_last new numbers places c s store olds r (Err e) begins learned place more = tt

-- what is found by a column is of the step that begins there
pub found_is : (known : Known) (numbers : ℕ → ℕ) (c : ℕ) (s : Step) (at : ℕ) → AreRight known → IsFoundAt known numbers c at → BeginsAt known.store.places.items c s → IsAt known numbers s at
found_is known numbers c s at right is begins =
    let places = known.store.places.items in
    let r = is.remembered in
    record {
      remembered = r;
      there = is.there;
      is_of = same_begins places c r.step s (subst (λ d. BeginsAt places d r.step) is.is_of (right_at known at r right is.there).begins) begins;
      matches = is.matches;
    }

-- ---- the steps that are asked, one after the other

-- each begins at its column, also where more is known
pub item_begins : (old new : Known) (step : ℕ → Step) (items : List ℕ) (i : ℕ) → KnowsMore old new → AllBegin old.store.places.items step items → i < length items → BeginsAt new.store.places.items (get_or items i 0) (step (get_or items i 0))
item_begins old new step items i knows each within =
    begins_later new.store old.store (get_or items i 0) (step (get_or items i 0)) knows.follows
    (got_holds (λ c. BeginsAt old.store.places.items c (step c)) items i (get_or items i 0) each (slice_get-get_or items i 0 within))

steps_taken : (step : ℕ → Step) (items : List ℕ) (i : ℕ) → i < length items → map step (take (i + 1) items) ≡ map step (take i items) ++ step (get_or items i 0) ∷ []
steps_taken step items i within = ap (map step) (take_more items i 0 within) ∙ map-append step (take i items) (get_or items i 0 ∷ [])

-- what is read at a place is remembered there
pub read_at : (known : Known) (at : ℕ) (r : Remembered) → at < length known.remembered.items → r ≡ get_or known.remembered.items at r → slice_get known.remembered.items at ≡ Some r
read_at known at r within is = slice_get_read known.remembered.items (length known.remembered.items) at r refl within is

-- and so it is shown or not as was read
-- the next step that is asked is enabled, and its place is put after the others
module _ (old new : Known) (numbers : ℕ → ℕ) (step : ℕ → Step) (items : List ℕ) (i : ℕ) (within : i < length items) where
  abbrev next : Step
  next = step (get_or items i 0)

  abbrev earlier : List Step
  earlier = map step (take i items)

  pub one_taken : (places more : List ℕ) (at : ℕ) → KnowsMore old new → AreRight new → AreSoFar old numbers (map step (take i items)) places → (is : IsAt new numbers (step (get_or items i 0)) at) → is_some is.remembered.shown ≡ true → more ≡ places ++ at ∷ []
      → AreSoFar new numbers (map step (take (i + 1) items)) more
  one_taken places more at knows right so_far is enabled now =
      subst (λ steps. AreSoFar new numbers steps more) (sym (steps_taken step items i within)) (subst (λ xs. AreSoFar new numbers (earlier ++ next ∷ []) xs) (sym now) (one_more old new numbers earlier places next at knows right so_far is enabled))

  -- it is not
  pub none_taken : (places more : List ℕ) (at : ℕ) → KnowsMore old new → AreRight new → AreSoFar old numbers (map step (take i items)) places → (is : IsAt new numbers (step (get_or items i 0)) at) → is_some is.remembered.shown ≡ false → more ≡ places
      → AreSoFar new numbers (map step (take (i + 1) items)) more
  none_taken places more at knows right so_far is off now =
      subst (λ steps. AreSoFar new numbers steps more) (sym (steps_taken step items i within)) (subst (λ xs. AreSoFar new numbers (earlier ++ next ∷ []) xs) (sym now) (no_more old new numbers earlier places next at knows right so_far is off))

  pub still_none_taken : (test : History → Step → Bool) (at : ℕ) → KnowsMore old new → AreRight new → NoneIs test old numbers (map step (take i items)) → (is : IsAt new numbers (step (get_or items i 0)) at) → is_some is.remembered.shown ≡ false → NoneIs test new numbers (map step (take (i + 1) items))
  still_none_taken test at knows right none is off = subst (NoneIs test new numbers) (sym (steps_taken step items i within)) (still_none test old new numbers earlier next at knows right none is off)

pub passed_over_taken : (test : History → Step → Bool) (known : Known) (numbers : ℕ → ℕ) (step : ℕ → Step) (items : List ℕ) (i : ℕ) → i < length items → InWorlds known numbers (λ m h. test h (step (get_or items i 0)) ≡ false) → NoneIs test known numbers (map step (take i items)) → NoneIs test known numbers (map step (take (i + 1) items))
passed_over_taken test known numbers step items i within off before =
    subst (NoneIs test known numbers) (sym (steps_taken step items i within)) (passed_over test known numbers (map step (take i items)) (step (get_or items i 0)) off before)

steps_split : (step : ℕ → Step) (items : List ℕ) (i : ℕ) → i < length items → map step items ≡ map step (take i items) ++ step (get_or items i 0) ∷ map step (drop (i + 1) items)
steps_split step items i within =
    ap (map step) (sym (take-append-drop i items)) ∙ map-append step (take i items) (drop i items) ∙ ap (λ xs. map step (take i items) ++ map step xs) (drop_more items i 0 within)

pub first_taken : (old middle new : Known) (numbers : ℕ → ℕ) (items : List ℕ) (i at : ℕ) → i < length items → IsWorldOf old.store numbers → (asked : AreAsked old.store numbers items) → KnowsMore old middle → KnowsMore middle new → AreRight new
    → NoneIs is_at_once middle numbers (map asked.step (take i items)) → InWorlds middle numbers (λ m h. is_at_once h (asked.step (get_or items i 0)) ≡ true) → (is : IsAt new numbers (asked.step (get_or items i 0)) at) → is_some is.remembered.shown ≡ true → IsFirstAtOnce new numbers (Some at)
first_taken old middle new numbers items i at within world asked first knows right none arrives is enabled =
    first_at_once old middle new numbers items (map asked.step (take i items)) (map asked.step (drop (i + 1) items)) (asked.step (get_or items i 0)) at world asked (steps_split asked.step items i within) first knows right none arrives is enabled
