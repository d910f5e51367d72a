-- What is learned of a step in one world is so in each world with the same numbers where it touches it.
use Rattle.std.proofs.Common.{◌≡◌, ◌∙◌, ◌⊎◌, inl, inr, ◌<◌, ◌≤◌, ◌==◌, ◌||◌, ◌&&◌, ◌∷◌, ◌++◌, [], ℕ, Bool, true, false, if◌then◌else◌, List, Option, Some, None, Vec, Global, length, map, option_map, is_some, refl, sym, ap, subst, true≢false, arith}
use Rattle.std.proofs.lemmas.Bool.{eq-eqb, eqb-true}
use Rattle.std.proofs.lemmas.List.{map-append}
use Rattle.std.proofs.lemmas.Option.{slice_get_within}
use Rattle.std.specs.List.{AllByRecursion, list_any, slice_get}
use Rattle.core_tree.specs.Syntax.{ModuleTree}
use Rattle.search_numbers.specs.inside.Covered.{AreWithin}
use Rattle.search_numbers.specs.inside.Learning.{AreTouched, AreUntouched, IsDeadIn, IsLearned, IsPlannedIn}
use Rattle.search_numbers.specs.Local.{CoversPlan, HasAll, IsTakenOver}
use Rattle.search_numbers.specs.Remembering.{Happens, IsSo, shown_in}
use Rattle.search_numbers.specs.Rows.{fits, written}
use Rattle.search_numbers.specs.Stored.{AreKept, AreOf, AreSomething, BeginsAt, Follows, IsWorldOf, StandsFor, column_in, covers, is_among, module_in, number_in, numbered, part_at}
use Rattle.search_numbers.specs.declared.remembered.Remembered.{Remembered}
use Rattle.search_numbers.specs.declared.store.Store.{Store}
use Rattle.search_numbers.specs.declared.touch.Touch.{Touch}
use Rattle.term_core.specs.declared.step.Step.{Step}
use Rattle.world_core.specs.Planned.{WillShow}
use Rattle.world_footprints.specs.Deeds.{deed_in}
use Rattle.world_footprints.specs.Footprints.{IsPlan}
use Rattle.world_footprints.specs.Plans.{IsNewFor, actor_of, left}
use Rattle.world_footprints.specs.declared.deed.Deed.{Deed}
use Rattle.world_footprints.specs.declared.plan.Plan.{Plan}
use Rattle.world_identities.specs.Identities.{identity_in}
use Rattle.world_identities.specs.declared.identity.Identity.{Identity}
use Rattle.world_model.specs.Asking.{program_of}
use Rattle.world_model.specs.Cells.{Alive, Contents}
use Rattle.world_model.specs.Events.{event, History}
use Rattle.world_model.specs.Run.{next_event}
use Rattle.world_model.specs.Shown.{shown_last}
use Rattle.world_model.specs.World.{contents}
use Rattle.world_records.specs.Places.{AgreesAt, same_place}
use Rattle.world_records.specs.Records.{Agrees, OfWorld}
use Rattle.world_records.specs.declared.place.Place.{Place}
use Rattle.world_records.specs.declared.place.Place.TheVariants.{Inbox}
use Rattle.world_records.specs.declared.records.Records.{Records}
use Rattle.world_core.proofs.Worlds.{dead_none, new_for, next_is, planned_next, planned_none}
use Rattle.world_planned.specs.Replies.{NamesMeanTables}
use Rattle.world_steps.proofs.Names.{names_mean}
use Rattle.search_numbers.proofs.Columns.{both_all, mapped_all, more_all, passes_at, weaker_all}
use Rattle.search_numbers.proofs.Followed.{begins_later}
use Rattle.search_numbers.proofs.Kept.{follows_too, has_earlier, has_later, more_parts, new_column, same_column, same_module, same_numbered, stands_later, within_too, world_later}
use Rattle.search_numbers.proofs.Local.{taken_over}
use Rattle.search_numbers.proofs.Seen.{places_same}

-- ---- tests

both_true : (a b : Bool) → (a && b) ≡ true → (a ≡ true) × (b ≡ true)
both_true true b is = (refl, is)
both_true false b is = absurd (true≢false (sym is))

both_are : (a b : Bool) → a ≡ true → b ≡ true → (a && b) ≡ true
both_are a b one other = λ i. one i && other i

either_true : (a b : Bool) → (a || b) ≡ true → (a ≡ true) ⊎ (b ≡ true)
either_true true b is = inl refl
either_true false b is = inr is

both_false : (a b : Bool) → (a || b) ≡ false → (a ≡ false) × (b ≡ false)
both_false true b is = absurd (true≢false is)
both_false false b is = (refl, is)

first_true : (a b : Bool) → b ≡ false → (a || b) ≡ true → a ≡ true
first_true true b off is = refl
first_true false b off is = absurd (true≢false (sym is ∙ off))

some_there : {X : Type 0} (o : Option X) → is_some o ≡ true → (x : X) × (o ≡ Some x)
some_there None is = absurd (true≢false (sym is))
some_there (Some x) is = (x, refl)

-- ---- touches, by the columns that they are at

abbrev pub columns_in : List Touch → List ℕ
columns_in touches = map (λ t. t.column) touches

-- a world has these numbers where it is touched
abbrev pub WereFound : (ℕ → ℕ) → List Touch → Type 0
WereFound numbers touches = AllByRecursion (λ t. t.before ≡ numbers t.column) touches

pub fits_itself : (touches : List Touch) (numbers : ℕ → ℕ) → WereFound numbers touches → fits touches numbers ≡ true
fits_itself [] numbers found = refl
fits_itself (t ∷ ts) numbers found = both_are (numbers t.column == t.before) (fits ts numbers) (eq-eqb (numbers t.column) t.before (sym found.0)) (fits_itself ts numbers found.1)

-- another one that fits has the same there
fits_at : (touches : List Touch) (numbers others : ℕ → ℕ) (c : ℕ) → WereFound numbers touches → fits touches others ≡ true → list_any (λ d. c == d) (columns_in touches) ≡ true → others c ≡ numbers c
fits_at [] numbers others c found fit there = absurd (true≢false (sym there))
fits_at (t ∷ ts) numbers others c found fit there =
    let parts = both_true (others t.column == t.before) (fits ts others) fit in
    elim (either_true (c == t.column) (list_any (λ d. c == d) (columns_in ts)) there) [
      | inl here ↦
          let column : c ≡ t.column = eqb-true c t.column here in
          ap others column ∙ eqb-true (others t.column) t.before parts.0 ∙ found.0 ∙ ap numbers (sym column)
      | inr later ↦ fits_at ts numbers others c found.1 parts.1 later
    ]

-- a number stays where nothing is touched
unwritten : (touches : List Touch) (numbers : ℕ → ℕ) (c : ℕ) → list_any (λ d. c == d) (columns_in touches) ≡ false → written touches numbers c ≡ numbers c
unwritten [] numbers c off = refl
unwritten (t ∷ ts) numbers c off =
    let parts = both_false (c == t.column) (list_any (λ d. c == d) (columns_in ts)) off in
    unwritten ts (λ d. if d == t.column then t.after else numbers d) c parts.1 ∙ ap (λ b. if b then t.after else numbers c) parts.0

-- and is what a touch left there else
written_at : (P : Touch → Type 0) (touches : List Touch) (numbers : ℕ → ℕ) (c : ℕ) → AllByRecursion P touches → list_any (λ d. c == d) (columns_in touches) ≡ true → (t : Touch) × (t.column ≡ c) × (written touches numbers c ≡ t.after) × P t
written_at P [] numbers c all there = absurd (true≢false (sym there))
written_at P (t ∷ ts) numbers c all there = go (list_any (λ d. c == d) (columns_in ts)) refl (written_at P ts (λ d. if d == t.column then t.after else numbers d) c all.1)
  where
    go : (b : Bool) → list_any (λ d. c == d) (columns_in ts) ≡ b → (list_any (λ d. c == d) (columns_in ts) ≡ true → (u : Touch) × (u.column ≡ c) × (written (t ∷ ts) numbers c ≡ u.after) × P u) → (u : Touch) × (u.column ≡ c) × (written (t ∷ ts) numbers c ≡ u.after) × P u
    go true on rest = rest on
    go false off rest =
        let here : (c == t.column) ≡ true = first_true (c == t.column) (list_any (λ d. c == d) (columns_in ts)) off there in
        (t, sym (eqb-true c t.column here), unwritten ts (λ d. if d == t.column then t.after else numbers d) c off ∙ ap (λ b. if b then t.after else numbers c) here, all.0)

-- a column past all that there are is none of them
past_columns : (n c : ℕ) (columns : List ℕ) → AllByRecursion (λ d. d < n) columns → n ≤ c → list_any (λ d. c == d) columns ≡ false
past_columns n c [] within past = refl
past_columns n c (d ∷ ds) within past = both_off (c == d) (list_any (λ x. c == x) ds) (apart (c == d) refl) (past_columns n c ds within.1 past)
  where
    apart : (b : Bool) → (c == d) ≡ b → (c == d) ≡ false
    apart true on =
        let e : c ≡ d = eqb-true c d on in
        let low : d < n = within.0 in
        absurd (omega arith)
    apart false off = off

    both_off : (a b : Bool) → a ≡ false → b ≡ false → (a || b) ≡ false
    both_off a b one other = λ i. one i || other i

-- ---- what is kept of the places that are touched

covered_same : (store later : Store) (numbers others : ℕ → ℕ) (columns : List ℕ) (touches : List Touch) (q : Place) → Follows later store → AreKept store numbers → columns_in touches ≡ columns → WereFound numbers touches → fits touches others ≡ true → covers store.places.items columns q ≡ true → part_at later others q ≡ part_at store numbers q
covered_same store later numbers others columns touches q follows kept at found fit on = go (column_in store.places.items q) refl on
  where
    go : (o : Option ℕ) → column_in store.places.items q ≡ o → is_among o columns ≡ true → part_at later others q ≡ part_at store numbers q
    go None is there = absurd (true≢false (sym there))
    go (Some c) is there =
        let same : others c ≡ numbers c = fits_at touches numbers others c found fit (subst (λ cs. list_any (λ d. c == d) cs ≡ true) (sym at) there) in
        ap (λ o. numbered later (number_in others o)) (same_column store later q c follows is) ∙ ap (numbered later) same ∙ same_numbered store later (numbers c) follows (kept c).0 ∙ ap (λ o. numbered store (number_in numbers o)) (sym is)

-- a place that is not covered keeps its number
unwritten_part : (store later : Store) (others : ℕ → ℕ) (columns : List ℕ) (touches : List Touch) (q : Place) → Follows later store → AreWithin store columns → columns_in touches ≡ columns → covers store.places.items columns q ≡ false → part_at later (written touches others) q ≡ part_at later others q
unwritten_part store later others columns touches q follows within at off = go (column_in later.places.items q) refl
  where
    apart : (c : ℕ) (o : Option ℕ) → column_in later.places.items q ≡ Some c → column_in store.places.items q ≡ o → list_any (λ d. c == d) columns ≡ false
    apart c None is none = past_columns (length store.places.items) c columns within (new_column store later q c follows none is)
    apart c (Some d) is there =
        let same : Some c ≡ Some d = sym is ∙ same_column store later q d follows there in
        ap (λ o. is_among o columns) same ∙ ap (λ o. is_among o columns) (sym there) ∙ off

    go : (o : Option ℕ) → column_in later.places.items q ≡ o → part_at later (written touches others) q ≡ part_at later others q
    go None is = ap (λ o. numbered later (number_in (written touches others) o)) is ∙ ap (λ o. numbered later (number_in others o)) (sym is)
    go (Some c) is =
        let stays : written touches others c ≡ others c = unwritten touches others c (ap (list_any (λ d. c == d)) at ∙ apart c (column_in store.places.items q) is refl) in
        ap (λ o. numbered later (number_in (written touches others) o)) is ∙ ap (numbered later) stays ∙ ap (λ o. numbered later (number_in others o)) (sym is)

-- ---- a step that was planned and done in one world

-- records that are left by a step as it was planned
abbrev pub IsDone : Records → Plan → Records → Type 0
IsDone records p after = OfWorld records (λ m v. IsPlan (program_of m) v p → IsNewFor v p.step → Agrees m after (left v p.step (option_map deed_in p.deed)))

first_are : (store later : Store) (numbers others : ℕ → ℕ) (m : ModuleTree) (h : History) (world : IsWorldOf store numbers) → Follows later store → AreOf later others m h → AreOf store numbers m world.reached.history
first_are store later numbers others m h world follows are =
    let same : world.reached.tree ≡ m = sym world.reached.are.program ∙ (sym (same_module store later follows) ∙ are.program) in
    subst (λ n. AreOf store numbers n world.reached.history) same world.reached.are

taken_in : (store later : Store) (numbers others : ℕ → ℕ) (records after : Records) (p : Plan) (columns : List ℕ) (touches : List Touch) (m : ModuleTree) (h : History)
    → (planned : IsPlannedIn store numbers records p columns) → Follows later store → columns_in touches ≡ columns → WereFound numbers touches → IsDone records p after → fits touches others ≡ true → AreOf later others m h
    → IsTakenOver m (part_at later others) (covers store.places.items columns) planned.world.reached.history h after p
taken_in store later numbers others records after p columns touches m h planned follows at found done_so fit are =
    let first = first_are store later numbers others m h planned.world follows are in
    taken_over m (part_at store numbers) (part_at later others) (covers store.places.items columns) planned.world.reached.history h records after p
    first.is_run are.is_run first.has are.has
    (λ q on. covered_same store later numbers others columns touches q follows planned.world.kept at found fit on)
    (planned.agrees m) planned.plan done_so planned.covers

-- what it leaves agrees with something
pub something_left : (store : Store) (numbers : ℕ → ℕ) (records after : Records) (p : Plan) (columns : List ℕ) → IsPlannedIn store numbers records p columns → IsDone records p after → AreSomething store.opening after
something_left store numbers records after p columns planned done_so =
    let m = planned.world.reached.tree in
    let h = planned.world.reached.history in
    let are = planned.world.reached.are in
    let agrees : Agrees m records (contents h) = planned.agrees m (contents h) are.has in
    record {
      contents = left (contents h) p.step (option_map deed_in p.deed);
      agrees = subst (λ n. Agrees n after (left (contents h) p.step (option_map deed_in p.deed))) (sym are.program)
          (done_so m (contents h) agrees (planned.plan m (contents h) agrees (names_mean (program_of m) h are.is_run)) (new_for (program_of m) h p.step are.is_run));
    }

-- ---- an event

module _ (store final : Store) (numbers : ℕ → ℕ) (records after : Records) (p : Plan) (columns : List ℕ) (touches : List Touch) (planned : IsPlannedIn store numbers records p columns) (follows : Follows final store) (places : final.places.items ≡ store.places.items) (touched : AreTouched final numbers after columns touches) (done_so : IsDone records p after) where
  found_touched : WereFound numbers touches
  found_touched = weaker_all (λ t. (t.before ≡ numbers t.column) × (t.after ≤ length final.parts.items) × StandsFor final t.column after t.after) (λ t. t.before ≡ numbers t.column) (λ t is. is.0) touches touched.each

  kept_touched : AllByRecursion (λ t. (t.after ≤ length final.parts.items) × (t.column < length final.places.items)) touches
  kept_touched =
      both_all (λ t. t.after ≤ length final.parts.items) (λ t. t.column < length final.places.items) touches
      (weaker_all (λ t. (t.before ≡ numbers t.column) × (t.after ≤ length final.parts.items) × StandsFor final t.column after t.after) (λ t. t.after ≤ length final.parts.items) (λ t is. is.1) touches touched.each)
      (mapped_all (λ t. t.column) (λ c. c < length final.places.items) touches (subst (AllByRecursion (λ c. c < length final.places.items)) (sym touched.at) (within_too store final columns follows planned.within)))

  module _ (later : Store) (others : ℕ → ℕ) (m : ModuleTree) (h : History) (more : Follows later final) (fit : fits touches others ≡ true) (are : AreOf later others m h) where
    from_store : Follows later store
    from_store = follows_too store final later follows more

    final_module : module_in final.opening ≡ m
    final_module = sym (same_module final later more) ∙ are.program

    taken_here : IsTakenOver m (part_at later others) (covers store.places.items columns) planned.world.reached.history h after p
    taken_here = taken_in store later numbers others records after p columns touches m h planned from_store touched.at found_touched done_so fit are

    left_covered : (q : Place) (v : Contents) (o : Option ℕ) → column_in store.places.items q ≡ o → is_among o columns ≡ true → AgreesAt m q after v → AgreesAt m q (part_at later (written touches others) q) v
    left_covered q v None is there agrees = absurd (true≢false (sym there))
    left_covered q v (Some c) is there agrees =
        let w = written_at (λ t. (t.before ≡ numbers t.column) × (t.after ≤ length final.parts.items) × StandsFor final t.column after t.after) touches others c touched.each (subst (λ cs. list_any (λ d. c == d) cs ≡ true) (sym touched.at) there) in
        let found = passes_at (same_place q) c store.places.items is in
        let here : slice_get final.places.items w.0.column ≡ Some q = ap (λ n. slice_get final.places.items n) w.1 ∙ ap (λ ps. slice_get ps c) places ∙ found.1 ∙ ap Some (sym (places_same q found.0 found.2)) in
        let stands : AgreesAt (module_in final.opening) q (numbered final w.0.after) v = w.3.2 q v here (subst (λ n. AgreesAt n q after v) (sym final_module) agrees) in
        let part : part_at later (written touches others) q ≡ numbered final w.0.after = ap (λ o. numbered later (number_in (written touches others) o)) (same_column store later q c from_store is) ∙ ap (numbered later) w.2 ∙ same_numbered final later w.0.after more w.3.1 in
        subst (λ r. AgreesAt m q r v) (sym part) (subst (λ n. AgreesAt n q (numbered final w.0.after) v) final_module stands)

    left_at : (q : Place) (v : Contents) (b : Bool) → covers store.places.items columns q ≡ b → AgreesAt m q (if b then after else part_at later others q) v → AgreesAt m q (part_at later (written touches others) q) v
    left_at q v true on agrees = left_covered q v (column_in store.places.items q) refl on agrees
    left_at q v false off agrees = subst (λ r. AgreesAt m q r v) (sym (unwritten_part store later others columns touches q from_store planned.within touched.at off)) agrees

    -- the world after the event
    left_are : (deed : Deed) → p.deed ≡ Some deed → AreOf later (written touches others) m (event p.step (deed_in deed) ∷ h)
    left_are deed is =
        let e = event p.step (deed_in deed) in
        let next : next_event (program_of m) h p.step ≡ Some e = next_is m h p.step (deed_in deed) (planned_next m h p deed taken_here.plan is) in
        record {
          program = are.program;
          has = λ q. left_at q (contents (e ∷ h)) (covers store.places.items columns q) refl (taken_here.agrees e next q);
          is_run = (next, are.is_run);
        }

    -- and what it shows
    shows_here : (shown : List Identity) (deed : Deed) → p.deed ≡ Some deed → WillShow records p (map identity_in shown) → map identity_in shown ≡ shown_last (event p.step (deed_in deed) ∷ h)
    shows_here shown deed is will =
        let e = event p.step (deed_in deed) in
        let next : next_event (program_of m) h p.step ≡ Some e = next_is m h p.step (deed_in deed) (planned_next m h p deed taken_here.plan is) in
        let first = first_are store later numbers others m h planned.world from_store are in
        let g = planned.world.reached.history in
        let happened = taken_here.happens e next in
        let agrees : Agrees m records (contents g) = planned.agrees m (contents g) first.has in
        will m g happened.0 agrees (planned.plan m (contents g) agrees (names_mean (program_of m) g first.is_run)) happened.1 ∙ sym happened.2

    happens_here : (r : Remembered) (shown : List Identity) (deed : Deed) → p.deed ≡ Some deed → WillShow records p (map identity_in shown) → r.step ≡ p.step → Happens later (written touches others) m h r shown
    happens_here r shown deed is will step = record {
      event = event p.step (deed_in deed);
      is_next = ap (next_event (program_of m) h) step ∙ next_is m h p.step (deed_in deed) (planned_next m h p deed taken_here.plan is);
      are = left_are deed is;
      shows = shows_here shown deed is will;
    }

pub right_event : (store final : Store) (numbers : ℕ → ℕ) (records after : Records) (p : Plan) (columns : List ℕ) (r : Remembered) (shown : Vec Identity Global)
    → IsPlannedIn store numbers records p columns → is_some p.deed ≡ true → Follows final store → final.places.items ≡ store.places.items → AreTouched final numbers after columns r.touches.items → IsDone records p after
    → WillShow records p (map identity_in shown.items) → BeginsAt store.places.items r.column r.step → r.step ≡ p.step → r.shown ≡ Some shown → IsLearned final numbers p.step r
right_event store final numbers records after p columns r shown planned enabled follows places touched done_so will begins step shown_is =
    let deed = some_there p.deed enabled in
    record {
      is_of = step;
      matches = fits_itself r.touches.items numbers (found_touched store final numbers records after p columns r.touches.items planned follows places touched done_so);
      right = record {
        is_so = λ later others m h more fit are. subst (λ o. IsSo later others m h r (shown_in o)) (sym shown_is)
            (happens_here store final numbers records after p columns r.touches.items planned follows places touched done_so later others m h more fit are r shown.items deed.0 deed.1 will step);
        begins = begins_later final store r.column r.step follows begins;
        kept = kept_touched store final numbers records after p columns r.touches.items planned follows places touched done_so;
      };
    }

-- ---- a step that is not enabled

module _ (store : Store) (numbers : ℕ → ℕ) (columns : List ℕ) (touches : List Touch) (kept : AreKept store numbers) (within : AreWithin store columns) (stay : AreUntouched numbers columns touches) where
  found_untouched : WereFound numbers touches
  found_untouched = weaker_all (λ t. (t.before ≡ numbers t.column) × (t.after ≡ numbers t.column)) (λ t. t.before ≡ numbers t.column) (λ t is. is.0) touches stay.each

  kept_untouched : AllByRecursion (λ t. (t.after ≤ length store.parts.items) × (t.column < length store.places.items)) touches
  kept_untouched =
      both_all (λ t. t.after ≤ length store.parts.items) (λ t. t.column < length store.places.items) touches
      (weaker_all (λ t. (t.before ≡ numbers t.column) × (t.after ≡ numbers t.column)) (λ t. t.after ≤ length store.parts.items) (λ t is. subst (λ n. n ≤ length store.parts.items) (sym is.1) (kept t.column).0) touches stay.each)
      (mapped_all (λ t. t.column) (λ c. c < length store.places.items) touches (subst (AllByRecursion (λ c. c < length store.places.items)) (sym stay.at) within))

pub right_none : (store : Store) (numbers : ℕ → ℕ) (records : Records) (p : Plan) (columns : List ℕ) (r : Remembered)
    → IsPlannedIn store numbers records p columns → p.deed ≡ None → AreUntouched numbers columns r.touches.items → BeginsAt store.places.items r.column r.step → r.step ≡ p.step → r.shown ≡ None → IsLearned store numbers p.step r
right_none store numbers records p columns r planned none stay begins step shown_is =
    let found = found_untouched store numbers columns r.touches.items planned.world.kept planned.within stay in
    let done_so : IsDone records p records = λ m v agrees plan new. subst (λ d. Agrees m records (left v p.step (option_map deed_in d))) (sym none) agrees in
    record {
      is_of = step;
      matches = fits_itself r.touches.items numbers found;
      right = record {
        is_so = λ later others m h more fit are. subst (λ o. IsSo later others m h r (shown_in o)) (sym shown_is)
            (ap (next_event (program_of m) h) step ∙ planned_none m h p (taken_in store later numbers others records records p columns r.touches.items m h planned more stay.at found done_so fit are).plan none);
        begins = begins;
        kept = kept_untouched store numbers columns r.touches.items planned.world.kept planned.within stay;
      };
    }

one_covered : (places : List Place) (q : Place) (c : ℕ) → column_in places q ≡ Some c → covers places (c ∷ []) q ≡ true
one_covered places q c is = ap (λ o. is_among o (c ∷ [])) is ∙ ap (λ b. b || false) (eq-eqb c c refl)

pub right_dead : (old store : Store) (numbers : ℕ → ℕ) (step : Step) (c : ℕ) (r : Remembered)
    → IsDeadIn old numbers (actor_of step) → Follows store old → column_in store.places.items (Inbox (actor_of step)) ≡ Some c → AreUntouched numbers (c ∷ []) r.touches.items → BeginsAt old.places.items r.column r.step → r.step ≡ step → r.shown ≡ None → IsLearned store numbers step r
right_dead old store numbers step c r dead follows column stay begins is_of shown_is =
    let p = actor_of step in
    let q = Inbox p in
    let world : IsWorldOf store numbers = world_later old store numbers follows dead.world in
    let there = passes_at (same_place q) c store.places.items column in
    let within : AreWithin store (c ∷ []) = (slice_get_within store.places.items c there.0 there.1, tt) in
    let found = found_untouched store numbers (c ∷ []) r.touches.items world.kept within stay in
    record {
      is_of = is_of;
      matches = fits_itself r.touches.items numbers found;
      right = record {
        is_so = λ later others m h more fit are. subst (λ o. IsSo later others m h r (shown_in o)) (sym shown_is)
            (ap (next_event (program_of m) h) is_of ∙ dead_none m h step (dead_here later others m h more fit are found));
        begins = begins_later store old r.column r.step follows begins;
        kept = kept_untouched store numbers (c ∷ []) r.touches.items world.kept within stay;
      };
    }
  where
    dead_here : (later : Store) (others : ℕ → ℕ) (m : ModuleTree) (h : History) → Follows later store → fits r.touches.items others ≡ true → AreOf later others m h → WereFound numbers r.touches.items → contents h (Alive (actor_of step)) ≡ false
    dead_here later others m h more fit are found =
        let q = Inbox (actor_of step) in
        let world : IsWorldOf store numbers = world_later old store numbers follows dead.world in
        let first = dead.world.reached.are in
        let g = dead.world.reached.history in
        let has : HasAll dead.world.reached.tree (part_at store numbers) (contents g) = has_later old store numbers follows dead.world.kept dead.world.reached.tree (contents g) first.has in
        let same : part_at later others q ≡ part_at store numbers q = covered_same store later numbers others (c ∷ []) r.touches.items q more world.kept stay.at found fit (one_covered store.places.items q c column) in
        let here : AgreesAt m (Inbox (actor_of step)) (part_at store numbers q) (contents h) = subst (λ records. AgreesAt m q records (contents h)) same (are.has q) in
        let before : AgreesAt dead.world.reached.tree (Inbox (actor_of step)) (part_at store numbers q) (contents g) = has q in
        sym here.alive ∙ before.alive ∙ dead.dead dead.world.reached.tree (contents g) first.has

-- ---- a plan, in the store that has all columns of it

pub planned_later : (old store : Store) (numbers : ℕ → ℕ) (records : Records) (p : Plan) (columns : List ℕ)
    → IsWorldOf old numbers → Follows store old → ((m : ModuleTree) (v : Contents) → HasAll m (part_at old numbers) v → Agrees m records v) → OfWorld records (λ m v. NamesMeanTables v → IsPlan (program_of m) v p) → CoversPlan (covers store.places.items columns) p → AreWithin store columns
    → IsPlannedIn store numbers records p columns
planned_later old store numbers records p columns world follows agrees plan covered within = record {
  world = world_later old store numbers follows world;
  agrees = λ m v has. agrees m v (has_earlier old store numbers follows world.kept m v has);
  plan = plan;
  covers = covered;
  within = within;
}

-- ---- touches, one after the other

pub columns_more : (columns : List ℕ) (touches : List Touch) (t : Touch) (c : ℕ) → columns_in touches ≡ columns → t.column ≡ c → columns_in (touches ++ t ∷ []) ≡ columns ++ c ∷ []
columns_more columns touches t c at is = map-append (λ (u : Touch). u.column) touches (t ∷ []) ∙ (λ i. at i ++ is i ∷ [])

pub touched_none : (store : Store) (numbers : ℕ → ℕ) (left : Records) (touches : List Touch) → touches ≡ [] → AreTouched store numbers left [] touches
touched_none store numbers left [] none = record { at = refl; each = tt }
touched_none store numbers left (t ∷ ts) none = absurd cc

pub touched_more : (old new : Store) (numbers : ℕ → ℕ) (left : Records) (columns : List ℕ) (touches : List Touch) (t : Touch) → Follows new old → new.places.items ≡ old.places.items → AreTouched old numbers left columns touches
    → t.before ≡ numbers t.column → t.after ≤ length new.parts.items → StandsFor new t.column left t.after → AreTouched new numbers left (columns ++ t.column ∷ []) (touches ++ t ∷ [])
touched_more old new numbers left columns touches t follows places touched before kept stands = record {
  at = columns_more columns touches t t.column touched.at refl;
  each = more_all (λ u. (u.before ≡ numbers u.column) × (u.after ≤ length new.parts.items) × StandsFor new u.column left u.after) touches t
      (weaker_all (λ u. (u.before ≡ numbers u.column) × (u.after ≤ length old.parts.items) × StandsFor old u.column left u.after) (λ u. (u.before ≡ numbers u.column) × (u.after ≤ length new.parts.items) × StandsFor new u.column left u.after)
      (λ u is. (is.0, more_parts old new u.after follows is.1, stands_later old new u.column u.after left follows places is.1 is.2)) touches touched.each)
      (before, kept, stands);
}
