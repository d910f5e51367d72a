-- Parts that are kept, the numbers that stand for them, and the records that are made of them.
use Rattle.std.proofs.Common.{◌≡◌, ◌∙◌, ◌+◌, ◌<◌, ◌≤◌, ◌++◌, ◌∷◌, [], ℕ, zero, suc, Bool, true, false, List, Option, Some, None, if◌then◌else◌, length, nat_lt, append-nil, refl, sym, ap, subst, true≢false, arith}
use Rattle.std.proofs.lemmas.Bool.{lt-ltb, le-ltb, ltb-true, ltb-false}
use Rattle.std.proofs.lemmas.Option.{slice_get_within}
use Rattle.std.specs.List.{AllByRecursion, slice_get}
use Rattle.std.specs.Map.{keys_of}
use Rattle.term_core.specs.declared.step.Step.{Step}
use Rattle.term_core.specs.declared.step.Step.TheVariants.{Turn}
use Rattle.core_tree.specs.Syntax.{ModuleTree}
use Rattle.proc_machines.specs.Processes.{module_of}
use Rattle.search_numbers.proofs.Asking.{begin_more, columns_more, place_itself, stands_at}
use Rattle.search_numbers.proofs.Columns.{got_holds, got_last, more_all}
use Rattle.search_numbers.proofs.Everywhere.{agree_of_places, places_agree}
use Rattle.search_numbers.proofs.Followed.{each_begins_still}
use Rattle.search_numbers.proofs.Seen.{places_same}
use Rattle.search_numbers.specs.Local.{HasAll}
use Rattle.search_numbers.specs.Stored.{AreSomething, BeginAll, EachBegins, Follows, HasSoFar, HaveColumns, IsPart, Starts, step_at, StandsFor, column_in, module_in, number_in, numbered, part_at, records_or, so_far}
use Rattle.search_numbers.specs.declared.store.Part.{Part}
use Rattle.search_numbers.specs.declared.store.Store.{Store}
use Rattle.world_model.specs.Cells.{Contents}
use Rattle.world_model.specs.Names.{IsAmong}
use Rattle.world_model.specs.World.{beginning}
use Rattle.world_records.specs.Places.{AgreesAt, AgreesTooAt, AreOfOne, TakesPlace, same_place}
use Rattle.world_records.specs.Records.{Agrees}
use Rattle.world_records.specs.declared.place.Place.{Place}
use Rattle.world_records.specs.declared.records.Records.{Records}

-- ---- numbers

pub numbered_part : (store : Store) (n at : ℕ) (part : Part) → n ≡ at + 1 → slice_get store.parts.items at ≡ Some part → numbered store n ≡ part.records.value
numbered_part store n at part is there = ap (numbered store) (let e : n ≡ suc at = omega arith in e) ∙ ap (records_or store.opening) there

-- each number stands for records of the module
of_one_or : (opening : Records) (parts : List Part) (n : ℕ) → AllByRecursion (IsPart opening) parts → (o : Option Part) → slice_get parts n ≡ o → AreOfOne (records_or opening o) opening
of_one_or opening parts n each None is = refl
of_one_or opening parts n each (Some part) is = (got_holds (IsPart opening) parts n part each is).of_one

pub numbers_of_one : (store : Store) (n : ℕ) → AllByRecursion (IsPart store.opening) store.parts.items → AreOfOne (numbered store n) store.opening
numbers_of_one store zero each = refl
numbers_of_one store (suc n) each = of_one_or store.opening store.parts.items n each (slice_get store.parts.items n) refl

-- ---- the records of a world

begun : (store : Store) (numbers : ℕ → ℕ) (o : Option ℕ) → so_far store numbers 0 o ≡ store.opening
begun store numbers None = refl
begun store numbers (Some c) = ap (λ b. if b then numbered store (numbers c) else store.opening) (le-ltb c 0 (omega arith))

-- a column that is another one, or has number 0, changes nothing
other_column : (store : Store) (numbers : ℕ → ℕ) (k : ℕ) (o : Option ℕ) → (o ≡ Some k → numbered store (numbers k) ≡ store.opening) → so_far store numbers (k + 1) o ≡ so_far store numbers k o
other_column store numbers k None same = refl
other_column store numbers k (Some c) same = by (nat_lt c k) refl (nat_lt c (k + 1)) refl
  where
    number : Bool → Records
    number b = if b then numbered store (numbers c) else store.opening

    by : (b : Bool) → nat_lt c k ≡ b → (d : Bool) → nat_lt c (k + 1) ≡ d → number (nat_lt c (k + 1)) ≡ number (nat_lt c k)
    by true low true still = ap number (still ∙ sym low)
    by true low false still =
        let one : c < k = ltb-true c k low in
        let other : k + 1 ≤ c = ltb-false c (k + 1) still in
        absurd (omega arith)
    by false low false still = ap number (still ∙ sym low)
    by false low true still =
        let one : k ≤ c = ltb-false c k low in
        let other : c < k + 1 = ltb-true c (k + 1) still in
        let here : c ≡ k = omega arith in
        ap number still ∙ ap (λ x. numbered store (numbers x)) here ∙ same (ap Some here) ∙ sym (ap number low)

this_column : (store : Store) (numbers : ℕ → ℕ) (k : ℕ) → so_far store numbers (k + 1) (Some k) ≡ numbered store (numbers k)
this_column store numbers k = ap (λ b. if b then numbered store (numbers k) else store.opening) (lt-ltb k (k + 1) (omega arith))

-- what is read at a column is taken over
taken_at : (store : Store) (numbers : ℕ → ℕ) (k : ℕ) (place : Place) (old new : Records) → HaveColumns store.places.items → slice_get store.places.items k ≡ Some place → HasSoFar store numbers k old
    → ((m : ModuleTree) (q : Place) (v : Contents) → AgreesAt m q (if same_place place q then numbered store (numbers k) else old) v → AgreesAt m q new v)
    → (m : ModuleTree) (q : Place) (v : Contents) → AgreesAt m q (so_far store numbers (k + 1) (column_in store.places.items q)) v → AgreesAt m q new v
taken_at store numbers k place old new have there has takes m q v is = takes m q v (by (same_place place q) refl)
  where
    by : (b : Bool) → same_place place q ≡ b → AgreesAt m q (if b then numbered store (numbers k) else old) v
    by true same =
        let here : column_in store.places.items q ≡ Some k = ap (column_in store.places.items) (sym (places_same place q same)) ∙ have k place there in
        subst (λ it. AgreesAt m q it v) (ap (so_far store numbers (k + 1)) here ∙ this_column store numbers k) is
    by false other =
        has.places m q v (subst (λ it. AgreesAt m q it v)
        (other_column store numbers k (column_in store.places.items q) (λ here. absurd (true≢false (sym (itself here) ∙ other)))) is)
      where
        itself : column_in store.places.items q ≡ Some k → same_place place q ≡ true
        itself here =
            let both : Some place ≡ Some q = sym there ∙ stands_at store.places.items q k here in
            let same : place ≡ q = cc in
            ap (λ p. same_place p q) same ∙ place_itself q

pub column_taken : (store : Store) (numbers : ℕ → ℕ) (k : ℕ) (place : Place) (other old new : Records) → HaveColumns store.places.items → AllByRecursion (IsPart store.opening) store.parts.items → slice_get store.places.items k ≡ Some place → HasSoFar store numbers k old
    → other ≡ numbered store (numbers k) → (AreOfOne old other → TakesPlace place other old new) → HasSoFar store numbers (k + 1) new
column_taken store numbers k place other old new have each there has is takes =
    let one : AreOfOne old other = has.of_one ∙ sym (ap (λ it. module_of it.processes) is ∙ numbers_of_one store (numbers k) each) in
    let taken = takes one in
    record {
      of_one = taken.module_stays ∙ has.of_one;
      places = taken_at store numbers k place old new have there has (λ m q v agrees. taken.places m q v (subst (λ it. AgreesAt m q (if same_place place q then it else old) v) (sym is) agrees));
    }

all_read : (store : Store) (numbers : ℕ → ℕ) (q : Place) → (o : Option ℕ) → ((c : ℕ) → o ≡ Some c → c < length store.places.items) → so_far store numbers (length store.places.items) o ≡ numbered store (number_in numbers o)
all_read store numbers q None within = refl
all_read store numbers q (Some c) within = ap (λ b. if b then numbered store (numbers c) else store.opening) (lt-ltb c (length store.places.items) (within c refl))

-- where all columns are read, the records agree with what all that is kept agrees with
pub all_taken : (store : Store) (numbers : ℕ → ℕ) (n : ℕ) (records : Records) → n ≡ length store.places.items → HasSoFar store numbers n records → (m : ModuleTree) (v : Contents) → HasAll m (part_at store numbers) v → Agrees m records v
all_taken store numbers n records end has m v all = agree_of_places m records v each
  where
    within : (q : Place) (c : ℕ) → column_in store.places.items q ≡ Some c → c < length store.places.items
    within q c is = slice_get_within store.places.items c q (stands_at store.places.items q c is)

    each : (q : Place) → AgreesAt m q records v
    each q = has.places m q v (subst (λ it. AgreesAt m q it v) (sym (ap (λ k. so_far store numbers k (column_in store.places.items q)) end ∙ all_read store numbers q (column_in store.places.items q) (within q))) (all q))

-- ---- parts that are kept

-- records that agree with something make a part at each place
pub is_part : (opening records : Records) (part : Part) → part.records.value ≡ records → AreSomething opening records → IsPart opening part
is_part opening records part same are =
    let agrees : Agrees (module_in opening) part.records.value are.contents = subst (λ it. Agrees (module_in opening) it are.contents) (sym same) are.agrees in
    record {
      of_one = agrees.processes_are.program;
      contents = are.contents;
      agrees = places_agree (module_in opening) part.records.value are.contents agrees part.place;
    }

-- a part that is the same stands for these records
pub same_part : (store : Store) (place : Place) (records : Records) (at : ℕ) (part : Part) → AllByRecursion (IsPart store.opening) store.parts.items → slice_get store.parts.items at ≡ Some part → part.place ≡ place → AgreesTooAt place part.records.value records
    → (v : Contents) → AgreesAt (module_in store.opening) place records v → AgreesAt (module_in store.opening) place (numbered store (at + 1)) v
same_part store place records at part each there here same v is =
    let m = module_in store.opening in
    let kept : IsPart store.opening part = got_holds (IsPart store.opening) store.parts.items at part each there in
    subst (λ it. AgreesAt m place it v) (sym (numbered_part store (at + 1) at part refl there))
    (same m kept.contents v (subst (λ q. AgreesAt m q part.records.value kept.contents) here kept.agrees) is)

-- the number of a part that is kept last
pub last_number : (store : Store) (old : List Part) (part : Part) (n : ℕ) → store.parts.items ≡ old ++ part ∷ [] → n ≡ length old + 1 → numbered store n ≡ part.records.value
last_number store old part n more is = numbered_part store n (length old) part is (ap (λ parts. slice_get parts (length old)) more ∙ got_last old part [])

-- ---- what numbers stand for

pub stands_for_opening : (store : Store) (column : ℕ) (place : Place) (records : Records) → Agrees (module_in store.opening) store.opening beginning → slice_get store.places.items column ≡ Some place → AgreesTooAt place store.opening records → StandsFor store column records 0
stands_for_opening store column place records opens there same q v here is =
    let m = module_in store.opening in
    let both : Some place ≡ Some q = sym there ∙ here in
    let one : place ≡ q = cc in
    subst (λ p. AgreesTooAt p store.opening records) one same m beginning v (places_agree m store.opening beginning opens q) is

pub stands_for_found : (store : Store) (column : ℕ) (place : Place) (records : Records) (n at : ℕ) → slice_get store.places.items column ≡ Some place → n ≡ at + 1
    → ((v : Contents) → AgreesAt (module_in store.opening) place records v → AgreesAt (module_in store.opening) place (numbered store (at + 1)) v) → StandsFor store column records n
stands_for_found store column place records n at there number stands q v here is =
    let m = module_in store.opening in
    let both : Some place ≡ Some q = sym there ∙ here in
    let one : place ≡ q = cc in
    subst (λ k. AgreesAt m q (numbered store k) v) (sym number) (subst (λ p. AgreesAt m p records v → AgreesAt m p (numbered store (at + 1)) v) one (stands v) is)

-- ---- stores that follow

-- with a part more
pub follows_parts : (new old : Store) (part : Part) → new.opening ≡ old.opening → new.places.items ≡ old.places.items → new.parts.items ≡ old.parts.items ++ part ∷ [] → new.steps.entries ≡ old.steps.entries → IsPart old.opening part → Follows new old
follows_parts new old part opening places parts steps kept = record {
  opening = opening;
  more_places = [];
  places = places ∙ sym (append-nil old.places.items);
  more_parts = part ∷ [];
  parts = parts;
  whole = λ whole. record {
    opens = subst (λ it. Agrees (module_in it) it beginning) (sym opening) whole.opens;
    each = subst (AllByRecursion (IsPart new.opening)) (sym parts) (subst (λ it. AllByRecursion (IsPart it) (old.parts.items ++ part ∷ [])) (sym opening) (more_all (IsPart old.opening) old.parts.items part whole.each kept));
    columns = subst HaveColumns (sym places) whole.columns;
    begins = subst (BeginAll new.places.items) (sym steps) (subst (λ ps. BeginAll ps old.steps.entries) (sym places) whole.begins);
    placed = subst (EachBegins new.places.items) (sym steps) (subst (λ ps. EachBegins ps old.steps.entries) (sym places) whole.placed);
    starts = subst Starts (sym steps) whole.starts;
  };
}

-- with a place more, and the step that begins there
pub follows_places : (new old : Store) (place : Place) → new.opening ≡ old.opening → new.places.items ≡ old.places.items ++ place ∷ [] → new.parts.items ≡ old.parts.items → column_in old.places.items place ≡ None
    → ((s : Step) → IsAmong s (keys_of old.steps.entries) → IsAmong s (keys_of new.steps.entries)) → ((s : Step) → step_at place ≡ Some s → IsAmong s (keys_of new.steps.entries))
    → ((qs : List Place) → slice_get qs (length old.places.items) ≡ Some place → EachBegins qs old.steps.entries → EachBegins qs new.steps.entries) → Follows new old
follows_places new old place opening places parts none more own each = record {
  opening = opening;
  more_places = place ∷ [];
  places = places;
  more_parts = [];
  parts = parts ∙ sym (append-nil old.parts.items);
  whole = λ whole. record {
    opens = subst (λ it. Agrees (module_in it) it beginning) (sym opening) whole.opens;
    each = subst (λ it. AllByRecursion (IsPart it) new.parts.items) (sym opening) (subst (AllByRecursion (IsPart old.opening)) (sym parts) whole.each);
    columns = subst HaveColumns (sym places) (columns_more old.places.items place whole.columns none);
    placed = subst (λ ps. EachBegins ps new.steps.entries) (sym places)
        (each (old.places.items ++ place ∷ []) (got_last old.places.items place []) (each_begins_still old.places.items (place ∷ []) old.steps.entries whole.placed));
    begins = subst (λ ps. BeginAll ps new.steps.entries) (sym places) (begin_more old.places.items place old.steps.entries new.steps.entries whole.begins more own);
    starts = more (Turn []) whole.starts;
  };
}

-- with nothing more
pub follows_same : (new old : Store) → new.opening ≡ old.opening → new.places.items ≡ old.places.items → new.parts.items ≡ old.parts.items → new.steps.entries ≡ old.steps.entries → Follows new old
follows_same new old opening places parts steps = record {
  opening = opening;
  more_places = [];
  places = places ∙ sym (append-nil old.places.items);
  more_parts = [];
  parts = parts ∙ sym (append-nil old.parts.items);
  whole = λ whole. record {
    opens = subst (λ it. Agrees (module_in it) it beginning) (sym opening) whole.opens;
    each = subst (λ it. AllByRecursion (IsPart it) new.parts.items) (sym opening) (subst (AllByRecursion (IsPart old.opening)) (sym parts) whole.each);
    columns = subst HaveColumns (sym places) whole.columns;
    begins = subst (BeginAll new.places.items) (sym steps) (subst (λ ps. BeginAll ps old.steps.entries) (sym places) whole.begins);
    placed = subst (EachBegins new.places.items) (sym steps) (subst (λ ps. EachBegins ps old.steps.entries) (sym places) whole.placed);
    starts = subst Starts (sym steps) whole.starts;
  };
}
