-- Which steps may be enabled: those that begin at places that a store has columns of.
use Rattle.std.proofs.Common.{◌≡◌, ◌∙◌, ◌+◌, ◌++◌, ◌∷◌, ◌⊎◌, ◌&&◌, inl, inr, [], ℕ, zero, suc, Bool, true, false, cond, List, Option, Some, None, if◌then◌else◌, is_some, length, map, option_map, refl, sym, ap, subst, true≢false, arith}
use Rattle.std.proofs.lemmas.Iterator.Adapters.{position_from-zero}
use Rattle.std.proofs.lemmas.List.{map-append}
use Rattle.std.specs.BTreeMap.{insert_entry}
use Rattle.std.specs.List.{AllByRecursion, position_from, slice_get}
use Rattle.std.specs.List.Sorted.{IsStrictlySortedBy}
use Rattle.std.specs.Map.{keys_of}
use Rattle.std.specs.Ordering.{match_ordering}
use Rattle.std.specs.declared.cmp.Ordering.{Ordering}
use Rattle.std.specs.declared.cmp.Ordering.TheVariants.{Less, Equal, Greater}
use Rattle.term_core.specs.StepOrder.{order_of_steps}
use Rattle.term_core.specs.inside.StepOrderLaws.{same_step}
use Rattle.term_core.specs.declared.step.Step.{Step}
use Rattle.term_core.specs.declared.step.Step.TheVariants.{Turn, Deliver}
use Rattle.core_semantics.specs.Ask.{is_first}
use Rattle.core_tree.specs.Syntax.{ModuleTree}
use Rattle.search_numbers.proofs.Columns.{grown_at, more_all, passes_at, still_at}
use Rattle.search_numbers.proofs.Everywhere.{places_agree}
use Rattle.search_numbers.proofs.Seen.{places_same}
use Rattle.search_numbers.specs.Stored.{AllBegin, AreAsked, AreKept, AreOf, BeginAll, BeginsAt, EachBegins, Follows, HaveColumns, IsIdle, IsStore, Starts, column_in, is_delivery, module_in, number_in, numbered, step_at}
use Rattle.search_numbers.specs.declared.store.Store.{Store}
use Rattle.world_model.specs.Asking.{program_of}
use Rattle.world_model.specs.Cells as cells
use Rattle.world_model.specs.Cells.{Contents}
use Rattle.world_model.specs.Events.{History, Signal, event}
use Rattle.world_model.specs.Names.{IsAmong, Pid}
use Rattle.world_model.specs.Requests.{Program}
use Rattle.world_model.specs.Run.{enabled_steps}
use Rattle.world_model.specs.Signals.{first_of, waiting_in}
use Rattle.world_model.specs.Steps.{deed_delivered, next_deed}
use Rattle.world_model.specs.World.{beginning, contents}
use Rattle.world_model.proofs.Meeting.{pid_itself}
use Rattle.world_model.proofs.Opened.{listed_enabled}
use Rattle.world_records.specs.Places.{AgreesAt, same_place}
use Rattle.world_records.specs.Records.{Agrees}
use Rattle.world_records.specs.declared.place.Place.{Place}
use Rattle.world_records.specs.declared.place.Place.TheVariants.{Course, Inbox, Channel, Links, Watches, Names, Tables}

-- ---- columns

pub place_itself : (q : Place) → same_place q q ≡ true
place_itself (Course p) = pid_itself p
place_itself (Inbox p) = pid_itself p
place_itself (Channel s r) = λ i. pid_itself s i && pid_itself r i
place_itself Links = refl
place_itself Watches = refl
place_itself Names = refl
place_itself Tables = refl

-- a place stands at its column
pub stands_at : (places : List Place) (q : Place) (c : ℕ) → column_in places q ≡ Some c → slice_get places c ≡ Some q
stands_at places q c is =
    let found = passes_at (same_place q) c places is in
    found.1 ∙ ap Some (sym (places_same q found.0 found.2))

off_of : (b : Bool) (i : ℕ) (o : Option ℕ) → cond b (Some i) o ≡ None → (b ≡ false) × (o ≡ None)
off_of true i o is = absurd cc
off_of false i o is = (refl, is)

end_from : {X : Type 0} (test : X → Bool) (i : ℕ) (xs : List X) (x : X) → position_from test i xs ≡ None → test x ≡ true → position_from test i (xs ++ x ∷ []) ≡ Some (i + length xs)
end_from test i [] x none passes = ap (λ b. cond b (Some i) (position_from test (i + 1) [])) passes ∙ ap Some (omega arith)
end_from test i (y ∷ ys) x none passes =
    let off = off_of (test y) i (position_from test (i + 1) ys) none in
    let more : (i + 1) + length ys ≡ i + length (y ∷ ys) = omega arith in
    ap (λ b. cond b (Some i) (position_from test (i + 1) (ys ++ x ∷ []))) off.0 ∙ end_from test (i + 1) ys x off.1 passes ∙ ap Some more

-- a place that had no column and comes to the end has the last one
pub column_last : (places : List Place) (q : Place) → column_in places q ≡ None → column_in (places ++ q ∷ []) q ≡ Some (length places)
column_last places q none =
    position_from-zero (same_place q) (places ++ q ∷ []) ∙ end_from (same_place q) 0 places q (sym (position_from-zero (same_place q) places) ∙ none) (place_itself q) ∙ ap Some (omega arith)

-- what stands in a longer list stood there, or is last
got_either : {X : Type 0} (xs : List X) (x : X) (c : ℕ) (q : X) → slice_get (xs ++ x ∷ []) c ≡ Some q → (slice_get xs c ≡ Some q) ⊎ ((c ≡ length xs) × (x ≡ q))
got_either [] x zero q is = inr (refl, cc)
got_either [] x (suc c) q is = absurd cc
got_either (y ∷ ys) x zero q is = inl is
got_either (y ∷ ys) x (suc c) q is = either (got_either ys x c q is)
  where
    either : (slice_get ys c ≡ Some q) ⊎ ((c ≡ length ys) × (x ≡ q)) → (slice_get ys c ≡ Some q) ⊎ ((suc c ≡ suc (length ys)) × (x ≡ q))
    either (inl old) = inl old
    either (inr new) = inr (ap suc new.0, new.1)

pub columns_more : (places : List Place) (q : Place) → HaveColumns places → column_in places q ≡ None → HaveColumns (places ++ q ∷ [])
columns_more places q have none c r is = go (got_either places q c r is)
  where
    go : (slice_get places c ≡ Some r) ⊎ ((c ≡ length places) × (q ≡ r)) → column_in (places ++ q ∷ []) r ≡ Some c
    go (inl old) = still_at (same_place r) c places (q ∷ []) (have c r old)
    go (inr last) = ap (column_in (places ++ q ∷ [])) (sym last.1) ∙ column_last places q none ∙ ap Some (sym last.0)

-- ---- the steps that begin at places

pub among_inserted : (k s : Step) (v : ℕ) (es : List (Step × ℕ)) → IsAmong s (keys_of es) → IsAmong s (keys_of (insert_entry order_of_steps es k v))
among_inserted k s v [] there = absurd there
among_inserted k s v (e ∷ es) there = by (order_of_steps k e.0) (among_inserted k s v es) there
  where
    by : (r : Ordering) → (IsAmong s (keys_of es) → IsAmong s (keys_of (insert_entry order_of_steps es k v))) → IsAmong s (e.0 ∷ keys_of es) → IsAmong s (keys_of (match_ordering r ((k, v) ∷ e ∷ es) ((e.0, v) ∷ es) (e ∷ insert_entry order_of_steps es k v)))
    by Less rest here = inr here
    by Equal rest here = here
    by Greater rest (inl is) = inl is
    by Greater rest (inr later) = inr (rest later)

pub inserted_among : (k : Step) (v : ℕ) (es : List (Step × ℕ)) → IsAmong k (keys_of (insert_entry order_of_steps es k v))
inserted_among k v [] = inl refl
inserted_among k v (e ∷ es) = by (order_of_steps k e.0) refl (inserted_among k v es)
  where
    by : (r : Ordering) → order_of_steps k e.0 ≡ r → IsAmong k (keys_of (insert_entry order_of_steps es k v)) → IsAmong k (keys_of (match_ordering r ((k, v) ∷ e ∷ es) ((e.0, v) ∷ es) (e ∷ insert_entry order_of_steps es k v)))
    by Less is rest = inl refl
    by Equal is rest = inl (sym (same_step k e.0 is))
    by Greater is rest = inr rest

-- a step that is put among others begins at its column, as they do at theirs
pub each_inserted : (places : List Place) (k : Step) (c : ℕ) (es : List (Step × ℕ)) → BeginsAt places c k → EachBegins places es → EachBegins places (insert_entry order_of_steps es k c)
each_inserted places k c [] own each = (own, tt)
each_inserted places k c (e ∷ es) own each = by (order_of_steps k e.0) refl (each_inserted places k c es own each.1)
  where
    by : (r : Ordering) → order_of_steps k e.0 ≡ r → EachBegins places (insert_entry order_of_steps es k c) → EachBegins places (match_ordering r ((k, c) ∷ e ∷ es) ((e.0, c) ∷ es) (e ∷ insert_entry order_of_steps es k c))
    by Less is rest = (own, each)
    by Equal is rest = (subst (BeginsAt places c) (same_step k e.0 is) own, each.1)
    by Greater is rest = (each.0, rest)

-- with a place more, and the step that begins there among the steps
pub begin_more : (places : List Place) (q : Place) (old new : List (Step × ℕ)) → BeginAll places old → ((s : Step) → IsAmong s (keys_of old) → IsAmong s (keys_of new)) → ((s : Step) → step_at q ≡ Some s → IsAmong s (keys_of new)) → BeginAll (places ++ q ∷ []) new
begin_more places q old new begin more own c r s is at = go (got_either places q c r is)
  where
    go : (slice_get places c ≡ Some r) ⊎ ((c ≡ length places) × (q ≡ r)) → IsAmong s (keys_of new)
    go (inl before) = more s (begin c r s before at)
    go (inr last) = own s (ap step_at last.1 ∙ at)

-- ---- places that are as before anything happened

-- a place has in a later store the number that it has in this one
number_later : (later store : Store) (numbers : ℕ → ℕ) (q : Place) → Follows later store → AreKept store numbers → number_in numbers (column_in later.places.items q) ≡ number_in numbers (column_in store.places.items q)
number_later later store numbers q follows kept = ap (λ places. number_in numbers (column_in places q)) follows.places ∙ by (column_in store.places.items q) refl
  where
    more : List Place
    more = store.places.items ++ follows.more_places

    past : column_in store.places.items q ≡ None → (o : Option ℕ) → column_in more q ≡ o → number_in numbers o ≡ 0
    past none None is = refl
    past none (Some c) is = (kept c).1 (grown_at (same_place q) c store.places.items follows.more_places none is)

    by : (o : Option ℕ) → column_in store.places.items q ≡ o → number_in numbers (column_in more q) ≡ number_in numbers o
    by None is = past is (column_in more q) refl
    by (Some c) is = ap (number_in numbers) (still_at (same_place q) c store.places.items follows.more_places is)

-- with number 0 the opening has what the contents say
pub as_before : (later store : Store) (numbers : ℕ → ℕ) (m : ModuleTree) (h : History) (q : Place) → Follows later store → AreKept store numbers → AreOf later numbers m h → number_in numbers (column_in store.places.items q) ≡ 0 → AgreesAt m q store.opening (contents h)
as_before later store numbers m h q follows kept are idle =
    subst (λ records. AgreesAt m q records (contents h)) (ap (numbered later) (number_later later store numbers q follows kept ∙ idle) ∙ follows.opening) (are.has q)

first_only : (p : Pid) → is_first p ≡ true → p ≡ []
first_only [] is = refl
first_only (n ∷ ns) is = absurd (true≢false (sym is))

-- then only the first process lives
lives_first : (store : Store) (m : ModuleTree) (h : History) (p : Pid) → Agrees (module_in store.opening) store.opening beginning → AgreesAt m (Course p) store.opening (contents h) → contents h (cells.Alive p) ≡ true → p ≡ []
lives_first store m h p opens at lives =
    let before = places_agree (module_in store.opening) store.opening beginning opens (Course p) in
    first_only p (sym before.lives ∙ at.lives ∙ lives)

-- and no signal waits
nothing_waits : (store : Store) (m : ModuleTree) (h : History) (s r : Pid) → Agrees (module_in store.opening) store.opening beginning → AgreesAt m (Channel s r) store.opening (contents h) → waiting_in (contents h) s r ≡ []
nothing_waits store m h s r opens at =
    let before = places_agree (module_in store.opening) store.opening beginning opens (Channel s r) in
    sym at.waiting ∙ before.waiting

-- ---- steps that are enabled

mapped_some : {A B : Type 0} (f : A → B) (o : Option A) → is_some (option_map f o) ≡ is_some o
mapped_some f None = refl
mapped_some f (Some x) = refl

enabled_now : (a : Program) (h : History) (s : Step) → IsAmong s (enabled_steps a h) → is_some (next_deed a (contents h) s) ≡ true
enabled_now a h s there = sym (mapped_some (event s) (next_deed a (contents h) s)) ∙ listed_enabled a h s there

lives_if : {D : Type 0} (b : Bool) (d : Option D) → is_some (if b then d else None) ≡ true → b ≡ true
lives_if true d now = refl
lives_if false d now = absurd (true≢false (sym now))

none_if : (b : Bool) (v : Contents) (s r : Pid) (signals : List Signal) → signals ≡ [] → is_some (if b then deed_delivered v s r (first_of signals) else None) ≡ true → ⊥
none_if true v s r [] is now = true≢false (sym now)
none_if true v s r (x ∷ xs) is now = absurd cc
none_if false v s r signals is now = true≢false (sym now)

-- what is enabled begins at a place with a column whose number is not 0, or is the turn of the first process
turn_begins : (store : Store) (numbers : ℕ → ℕ) (entries : List (Step × ℕ)) (p : Pid) → BeginAll store.places.items entries → Starts entries → (number_in numbers (column_in store.places.items (Course p)) ≡ 0 → p ≡ []) → IsAmong (Turn p) (keys_of entries)
turn_begins store numbers entries p begin starts first = by (column_in store.places.items (Course p)) refl
  where
    by : (o : Option ℕ) → column_in store.places.items (Course p) ≡ o → IsAmong (Turn p) (keys_of entries)
    by None is = subst (λ q. IsAmong (Turn q) (keys_of entries)) (sym (first (ap (number_in numbers) is))) starts
    by (Some c) is = begin c (Course p) (Turn p) (stands_at store.places.items (Course p) c is) refl

delivery_begins : (store : Store) (numbers : ℕ → ℕ) (entries : List (Step × ℕ)) (s r : Pid) → BeginAll store.places.items entries → (number_in numbers (column_in store.places.items (Channel s r)) ≡ 0 → ⊥) → IsAmong (Deliver s r) (keys_of entries)
delivery_begins store numbers entries s r begin none = by (column_in store.places.items (Channel s r)) refl
  where
    by : (o : Option ℕ) → column_in store.places.items (Channel s r) ≡ o → IsAmong (Deliver s r) (keys_of entries)
    by None is = absurd (none (ap (number_in numbers) is))
    by (Some c) is = begin c (Channel s r) (Deliver s r) (stands_at store.places.items (Channel s r) c is) refl

-- those among the steps that are not asked are idle
abbrev pub LeavesIdle : List Step → List Step → List Place → (ℕ → ℕ) → Type 0
LeavesIdle all asked places numbers = (s : Step) → IsAmong s all → IsAmong s asked ⊎ IsIdle places numbers s

is_asked : (store : Store) (numbers : ℕ → ℕ) (entries : List (Step × ℕ)) (asked : List Step) → Agrees (module_in store.opening) store.opening beginning → BeginAll store.places.items entries → Starts entries → LeavesIdle (keys_of entries) asked store.places.items numbers
    → (later : Store) (m : ModuleTree) (h : History) → Follows later store → AreKept store numbers → AreOf later numbers m h → (s : Step) → IsAmong s (enabled_steps (program_of m) h) → IsAmong s asked
is_asked store numbers entries asked opens begin starts leaves later m h follows kept are (Turn p) there = by (leaves (Turn p) (turn_begins store numbers entries p begin starts first))
  where
    lives : contents h (cells.Alive p) ≡ true
    lives = lives_if (contents h (cells.Alive p)) _ (enabled_now (program_of m) h (Turn p) there)

    first : number_in numbers (column_in store.places.items (Course p)) ≡ 0 → p ≡ []
    first idle = lives_first store m h p opens (as_before later store numbers m h (Course p) follows kept are idle) lives

    by : IsAmong (Turn p) asked ⊎ IsIdle store.places.items numbers (Turn p) → IsAmong (Turn p) asked
    by (inl is) = is
    by (inr idle) = absurd idle
is_asked store numbers entries asked opens begin starts leaves later m h follows kept are (Deliver s r) there = by (leaves (Deliver s r) (delivery_begins store numbers entries s r begin none))
  where
    none : number_in numbers (column_in store.places.items (Channel s r)) ≡ 0 → ⊥
    none idle = none_if (contents h (cells.Alive r)) (contents h) s r (waiting_in (contents h) s r) (nothing_waits store m h s r opens (as_before later store numbers m h (Channel s r) follows kept are idle)) (enabled_now (program_of m) h (Deliver s r) there)

    by : IsAmong (Deliver s r) asked ⊎ IsIdle store.places.items numbers (Deliver s r) → IsAmong (Deliver s r) asked
    by (inl is) = is
    by (inr idle) = absurd (none idle)

-- ---- steps that are left out of others stay in order

-- these are among others, in their order
abbrev pub IsPicked : List Step → List Step → Type 0
IsPicked [] ys = Unit {0}
IsPicked (x ∷ xs) [] = ⊥
IsPicked (x ∷ xs) (y ∷ ys) = ((x ≡ y) × IsPicked xs ys) ⊎ IsPicked (x ∷ xs) ys

left_out : (xs ys : List Step) (z : Step) → IsPicked xs ys → IsPicked xs (ys ++ z ∷ [])
left_out [] ys z picked = tt
left_out (x ∷ xs) [] z picked = absurd picked
left_out (x ∷ xs) (y ∷ ys) z (inl here) = inl (here.0, left_out xs ys z here.1)
left_out (x ∷ xs) (y ∷ ys) z (inr later) = inr (left_out (x ∷ xs) ys z later)

pick_last : (ys : List Step) (z : Step) → IsPicked (z ∷ []) (ys ++ z ∷ [])
pick_last [] z = inl (refl, tt)
pick_last (y ∷ ys) z = inr (pick_last ys z)

picked_too : (xs ys : List Step) (z : Step) → IsPicked xs ys → IsPicked (xs ++ z ∷ []) (ys ++ z ∷ [])
picked_too [] ys z picked = pick_last ys z
picked_too (x ∷ xs) [] z picked = absurd picked
picked_too (x ∷ xs) (y ∷ ys) z (inl here) = inl (here.0, picked_too xs ys z here.1)
picked_too (x ∷ xs) (y ∷ ys) z (inr later) = inr (picked_too (x ∷ xs) ys z later)

picked_all : (P : Step → Type 0) (xs ys : List Step) → IsPicked xs ys → AllByRecursion P ys → AllByRecursion P xs
picked_all P [] ys picked all = tt
picked_all P (x ∷ xs) [] picked all = absurd picked
picked_all P (x ∷ xs) (y ∷ ys) (inl here) all = (subst P (sym here.0) all.0, picked_all P xs ys here.1 all.1)
picked_all P (x ∷ xs) (y ∷ ys) (inr later) all = picked_all P (x ∷ xs) ys later all.1

picked_in_order : (xs ys : List Step) → IsPicked xs ys → IsStrictlySortedBy order_of_steps ys → IsStrictlySortedBy order_of_steps xs
unfolding IsStrictlySortedBy
picked_in_order [] ys picked sorted = tt
picked_in_order (x ∷ xs) [] picked sorted = absurd picked
picked_in_order (x ∷ xs) (y ∷ ys) (inl here) sorted = (subst (λ z. AllByRecursion (λ w. order_of_steps z w ≡ Less) xs) (sym here.0) (picked_all (λ w. order_of_steps y w ≡ Less) xs ys here.1 sorted.0), picked_in_order xs ys here.1 sorted.1)
picked_in_order (x ∷ xs) (y ∷ ys) (inr later) sorted = picked_in_order (x ∷ xs) ys later sorted.1

-- ---- one step more

among_last : (s z : Step) (xs : List Step) → IsAmong s (xs ++ z ∷ []) → IsAmong s xs ⊎ (z ≡ s)
among_last s z [] (inl is) = inr is
among_last s z [] (inr there) = absurd there
among_last s z (x ∷ xs) (inl is) = inl (inl is)
among_last s z (x ∷ xs) (inr there) = by (among_last s z xs there)
  where
    by : IsAmong s xs ⊎ (z ≡ s) → IsAmong s (x ∷ xs) ⊎ (z ≡ s)
    by (inl old) = inl (inr old)
    by (inr is) = inr is

left_among : (x : Step) (xs ys : List Step) → IsAmong x xs → IsAmong x (xs ++ ys)
left_among x [] ys there = absurd there
left_among x (z ∷ zs) ys (inl is) = inl is
left_among x (z ∷ zs) ys (inr there) = inr (left_among x zs ys there)

is_last : (x : Step) (xs : List Step) → IsAmong x (xs ++ x ∷ [])
is_last x [] = inl refl
is_last x (y ∷ ys) = inr (is_last x ys)

leaves_asked : (all asked : List Step) (z : Step) (places : List Place) (numbers : ℕ → ℕ) → LeavesIdle all asked places numbers → LeavesIdle (all ++ z ∷ []) (asked ++ z ∷ []) places numbers
leaves_asked all asked z places numbers leaves s there = by (among_last s z all there)
  where
    old : IsAmong s asked ⊎ IsIdle places numbers s → IsAmong s (asked ++ z ∷ []) ⊎ IsIdle places numbers s
    old (inl is) = inl (left_among s asked (z ∷ []) is)
    old (inr idle) = inr idle

    by : IsAmong s all ⊎ (z ≡ s) → IsAmong s (asked ++ z ∷ []) ⊎ IsIdle places numbers s
    by (inl before) = old (leaves s before)
    by (inr is) = inl (subst (λ x. IsAmong x (asked ++ z ∷ [])) is (is_last z asked))

leaves_idle : (all asked : List Step) (z : Step) (places : List Place) (numbers : ℕ → ℕ) → LeavesIdle all asked places numbers → IsIdle places numbers z → LeavesIdle (all ++ z ∷ []) asked places numbers
leaves_idle all asked z places numbers leaves idle s there = by (among_last s z all there)
  where
    by : IsAmong s all ⊎ (z ≡ s) → IsAmong s asked ⊎ IsIdle places numbers s
    by (inl before) = leaves s before
    by (inr is) = inr (subst (IsIdle places numbers) is idle)

-- ---- the columns of the places where steps begin

-- the step of a column; any step where none begins
abbrev step_or : Option Place → Step
step_or None = Turn []
step_or (Some (Course p)) = Turn p
step_or (Some (Channel s r)) = Deliver s r
step_or (Some q) = Turn []

abbrev pub step_of : List Place → ℕ → Step
step_of places c = step_or (slice_get places c)

read_step : (q : Place) (s : Step) → step_at q ≡ Some s → step_or (Some q) ≡ s
read_step (Course p) s is = cc
read_step (Channel a b) s is = cc
read_step (Inbox p) s is = absurd cc
read_step Links s is = absurd cc
read_step Watches s is = absurd cc
read_step Names s is = absurd cc
read_step Tables s is = absurd cc

pub step_begun : (places : List Place) (c : ℕ) (s : Step) → BeginsAt places c s → step_of places c ≡ s
step_begun places c s is = ap step_or is.there ∙ read_step is.place s is.begins

-- of steps that begin at places, those of these columns are some, and all others are idle
pub record ArePicked (places : List Place) (numbers : ℕ → ℕ) (entries : List (Step × ℕ)) (columns : List ℕ) : Type 0 where
  pub picked : IsPicked (map (step_of places) columns) (keys_of entries)
  pub idle : LeavesIdle (keys_of entries) (map (step_of places) columns) places numbers
  pub begin : AllBegin places (step_of places) columns

keys_more : (es : List (Step × ℕ)) (e : Step × ℕ) → keys_of (es ++ e ∷ []) ≡ keys_of es ++ e.0 ∷ []
keys_more es e = map-append (λ (x : Step × ℕ). x.0) es (e ∷ [])

steps_more : (places : List Place) (columns : List ℕ) (e : Step × ℕ) → BeginsAt places e.1 e.0 → map (step_of places) (columns ++ e.1 ∷ []) ≡ map (step_of places) columns ++ e.0 ∷ []
steps_more places columns e begins = map-append (step_of places) columns (e.1 ∷ []) ∙ ap (λ s. map (step_of places) columns ++ s ∷ []) (step_begun places e.1 e.0 begins)

module _ (places : List Place) (numbers : ℕ → ℕ) (es : List (Step × ℕ)) (columns : List ℕ) (e : Step × ℕ) (begins : BeginsAt places e.1 e.0) (before : ArePicked places numbers es columns) where
  -- one more is asked
  pub asked_too : ArePicked places numbers (es ++ e ∷ []) (columns ++ e.1 ∷ [])
  asked_too =
      let steps = sym (steps_more places columns e begins) in
      let keys = sym (keys_more es e) in
      record {
        picked = subst (λ xs. IsPicked xs (keys_of (es ++ e ∷ []))) steps (subst (IsPicked (map (step_of places) columns ++ e.0 ∷ [])) keys (picked_too (map (step_of places) columns) (keys_of es) e.0 before.picked));
        idle = subst (λ xs. LeavesIdle (keys_of (es ++ e ∷ [])) xs places numbers) steps
            (subst (λ ys. LeavesIdle ys (map (step_of places) columns ++ e.0 ∷ []) places numbers) keys (leaves_asked (keys_of es) (map (step_of places) columns) e.0 places numbers before.idle));
        begin = more_all (λ c. BeginsAt places c (step_of places c)) columns e.1 before.begin (subst (BeginsAt places e.1) (sym (step_begun places e.1 e.0 begins)) begins);
      }

  -- one more is not
  pub asked_not : IsIdle places numbers e.0 → ArePicked places numbers (es ++ e ∷ []) columns
  asked_not idle =
      let keys = sym (keys_more es e) in
      record {
        picked = subst (IsPicked (map (step_of places) columns)) keys (left_out (map (step_of places) columns) (keys_of es) e.0 before.picked);
        idle = subst (λ ys. LeavesIdle ys (map (step_of places) columns) places numbers) keys (leaves_idle (keys_of es) (map (step_of places) columns) e.0 places numbers before.idle idle);
        begin = before.begin;
      }

-- so those of all steps are asked
pub are_asked : (store : Store) (numbers : ℕ → ℕ) (columns : List ℕ) → IsStore store → IsStrictlySortedBy order_of_steps (keys_of store.steps.entries) → ArePicked store.places.items numbers store.steps.entries columns → AreAsked store numbers columns
are_asked store numbers columns whole sorted picked =
    let step = step_of store.places.items in
    record {
      step = step;
      begin = picked.begin;
      in_order = picked_in_order (map step columns) (keys_of store.steps.entries) picked.picked sorted;
      all = is_asked store numbers store.steps.entries (map step columns) whole.opens whole.begins whole.starts picked.idle;
    }

abbrev pub is_channel : Place → Bool
is_channel (Channel s r) = true
is_channel q = false

pub channel_of : (q : Place) (a b : Pid) → step_at q ≡ Some (Deliver a b) → q ≡ Channel a b
channel_of (Course p) a b is = absurd cc
channel_of (Channel s r) a b is = cc
channel_of (Inbox p) a b is = absurd cc
channel_of Links a b is = absurd cc
channel_of Watches a b is = absurd cc
channel_of Names a b is = absurd cc
channel_of Tables a b is = absurd cc

-- a delivery begins at a channel, and is idle where that is as before anything happened
pub delivered_at : (q : Place) (s : Step) → step_at q ≡ Some s → is_channel q ≡ is_delivery s
delivered_at (Course p) s is = let e : Turn p ≡ s = cc in ap is_delivery e
delivered_at (Channel a b) s is = let e : Deliver a b ≡ s = cc in ap is_delivery e
delivered_at (Inbox p) s is = absurd cc
delivered_at Links s is = absurd cc
delivered_at Watches s is = absurd cc
delivered_at Names s is = absurd cc
delivered_at Tables s is = absurd cc

pub is_idle : (places : List Place) (numbers : ℕ → ℕ) (c : ℕ) (s : Step) → HaveColumns places → BeginsAt places c s → is_delivery s ≡ true → numbers c ≡ 0 → IsIdle places numbers s
is_idle places numbers c (Turn p) have is on none = absurd (true≢false (sym on))
is_idle places numbers c (Deliver a b) have is on none =
    let there : column_in places is.place ≡ Some c = have c is.place is.there in
    ap (λ q. number_in numbers (column_in places q)) (sym (channel_of is.place a b is.begins)) ∙ ap (number_in numbers) there ∙ none
