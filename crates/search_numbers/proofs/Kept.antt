-- What is kept in a store is kept in each that follows it, under the same numbers.
use Rattle.std.proofs.Common.{◌≡◌, ◌∙◌, ◌+◌, ◌<◌, ◌≤◌, ◌++◌, ℕ, zero, suc, List, Option, Some, None, length, refl, sym, ap, subst, arith, length-append}
use Rattle.std.specs.List.{AllByRecursion, slice_get}
use Rattle.core_tree.specs.Syntax.{ModuleTree}
use Rattle.search_numbers.specs.inside.Covered.{AreWithin}
use Rattle.search_numbers.specs.Local.{HasAll}
use Rattle.search_numbers.specs.Remembering.{IsRight}
use Rattle.search_numbers.specs.Stored.{AreKept, AreOf, Follows, IsWorldOf, StandsFor, column_in, module_in, number_in, numbered, part_at, records_or}
use Rattle.search_numbers.specs.declared.remembered.Remembered.{Remembered}
use Rattle.search_numbers.specs.declared.store.Store.{Store}
use Rattle.world_model.specs.Cells.{Contents}
use Rattle.world_model.specs.Events.{History}
use Rattle.world_model.specs.World.{contents}
use Rattle.world_records.specs.Places.{AgreesAt, same_place}
use Rattle.world_records.specs.declared.place.Place.{Place}
use Rattle.world_records.specs.declared.records.Records.{Records}
use Rattle.search_numbers.proofs.Followed.{begins_later, follows_on}
use Rattle.search_numbers.proofs.Columns.{grown_at, still_at, still_got, weaker_all}

-- ---- stores that follow

pub follows_too : (one two three : Store) → Follows two one → Follows three two → Follows three one
follows_too one two three first second = follows_on three two one second first

longer : {X : Type 0} (xs ys zs : List X) (n : ℕ) → ys ≡ xs ++ zs → n ≤ length xs → n ≤ length ys
longer xs ys zs n more low =
    let e : length ys ≡ length xs + length zs = ap length more ∙ length-append xs zs in
    omega arith

pub more_parts : (earlier later : Store) (n : ℕ) → Follows later earlier → n ≤ length earlier.parts.items → n ≤ length later.parts.items
more_parts earlier later n follows low = longer earlier.parts.items later.parts.items follows.more_parts n follows.parts low

pub more_places : (earlier later : Store) (n : ℕ) → Follows later earlier → n < length earlier.places.items → n < length later.places.items
more_places earlier later n follows low =
    let e : length later.places.items ≡ length earlier.places.items + length follows.more_places = ap length follows.places ∙ length-append earlier.places.items follows.more_places in
    omega arith

pub within_too : (earlier later : Store) (columns : List ℕ) → Follows later earlier → AreWithin earlier columns → AreWithin later columns
within_too earlier later columns follows within = weaker_all (λ c. c < length earlier.places.items) (λ c. c < length later.places.items) (λ c. more_places earlier later c follows) columns within

pub same_module : (earlier later : Store) → Follows later earlier → module_in later.opening ≡ module_in earlier.opening
same_module earlier later follows = ap module_in follows.opening

-- ---- numbers

-- what was kept under a number is kept under it
pub same_numbered : (earlier later : Store) (n : ℕ) → Follows later earlier → n ≤ length earlier.parts.items → numbered later n ≡ numbered earlier n
same_numbered earlier later zero follows low = follows.opening
same_numbered earlier later (suc n) follows low =
    let got : slice_get later.parts.items n ≡ slice_get earlier.parts.items n = ap (λ ps. slice_get ps n) follows.parts ∙ still_got earlier.parts.items follows.more_parts n (omega arith) in
    let opening : later.opening ≡ earlier.opening = follows.opening in
    λ i. records_or (opening i) (got i)

-- the column of a place stays
pub same_column : (earlier later : Store) (q : Place) (c : ℕ) → Follows later earlier → column_in earlier.places.items q ≡ Some c → column_in later.places.items q ≡ Some c
same_column earlier later q c follows is = ap (λ ps. column_in ps q) follows.places ∙ still_at (same_place q) c earlier.places.items follows.more_places is

-- and one that a place gets later is a new one
pub new_column : (earlier later : Store) (q : Place) (c : ℕ) → Follows later earlier → column_in earlier.places.items q ≡ None → column_in later.places.items q ≡ Some c → length earlier.places.items ≤ c
new_column earlier later q c follows none is = grown_at (same_place q) c earlier.places.items follows.more_places none (sym (ap (λ ps. column_in ps q) follows.places) ∙ is)

-- ---- the parts of a world

module _ (earlier later : Store) (numbers : ℕ → ℕ) (follows : Follows later earlier) (kept : AreKept earlier numbers) where
  number_at : (q : Place) (o p : Option ℕ) → column_in earlier.places.items q ≡ o → column_in later.places.items q ≡ p → number_in numbers p ≡ number_in numbers o
  number_at q (Some c) p one other = ap (number_in numbers) (sym other ∙ same_column earlier later q c follows one)
  number_at q None None one other = refl
  number_at q None (Some c) one other = (kept c).1 (new_column earlier later q c follows one other)

  number_kept : (o : Option ℕ) → number_in numbers o ≤ length earlier.parts.items
  number_kept None = omega arith
  number_kept (Some c) = (kept c).0

  pub same_part : (q : Place) → part_at later numbers q ≡ part_at earlier numbers q
  same_part q =
      ap (numbered later) (number_at q (column_in earlier.places.items q) (column_in later.places.items q) refl refl)
      ∙ same_numbered earlier later (number_in numbers (column_in earlier.places.items q)) follows (number_kept (column_in earlier.places.items q))

  pub has_later : (m : ModuleTree) (v : Contents) → HasAll m (part_at earlier numbers) v → HasAll m (part_at later numbers) v
  has_later m v has q = subst (λ records. AgreesAt m q records v) (sym (same_part q)) (has q)

  pub has_earlier : (m : ModuleTree) (v : Contents) → HasAll m (part_at later numbers) v → HasAll m (part_at earlier numbers) v
  has_earlier m v has q = subst (λ records. AgreesAt m q records v) (same_part q) (has q)

  pub are_later : (m : ModuleTree) (h : History) → AreOf earlier numbers m h → AreOf later numbers m h
  are_later m h are = record {
    program = same_module earlier later follows ∙ are.program;
    has = has_later m (contents h) are.has;
    is_run = are.is_run;
  }

  pub are_earlier : (m : ModuleTree) (h : History) → AreOf later numbers m h → AreOf earlier numbers m h
  are_earlier m h are = record {
    program = sym (same_module earlier later follows) ∙ are.program;
    has = has_earlier m (contents h) are.has;
    is_run = are.is_run;
  }

  past_none : (c : ℕ) → length later.places.items ≤ c → numbers c ≡ 0
  past_none c past =
      let e : length later.places.items ≡ length earlier.places.items + length follows.more_places = ap length follows.places ∙ length-append earlier.places.items follows.more_places in
      (kept c).1 (omega arith)

  pub kept_later : AreKept later numbers
  kept_later c = (more_parts earlier later (numbers c) follows (kept c).0, past_none c)

-- the world of a row stays
pub world_later : (earlier later : Store) (numbers : ℕ → ℕ) → Follows later earlier → IsWorldOf earlier numbers → IsWorldOf later numbers
world_later earlier later numbers follows world = record {
  whole = follows.whole world.whole;
  kept = kept_later earlier later numbers follows world.kept;
  reached = record {
    tree = world.reached.tree;
    history = world.reached.history;
    are = are_later earlier later numbers follows world.kept world.reached.tree world.reached.history world.reached.are;
  };
}

-- what is remembered stays right
pub right_later : (earlier later : Store) (r : Remembered) → Follows later earlier → IsRight earlier r → IsRight later r
right_later earlier later r follows right = record {
  begins = begins_later later earlier r.column r.step follows right.begins;
  is_so = λ latest numbers m h more fit are. right.is_so latest numbers m h (follows_too earlier later latest follows more) fit are;
  kept = weaker_all (λ t. (t.after ≤ length earlier.parts.items) × (t.column < length earlier.places.items)) (λ t. (t.after ≤ length later.parts.items) × (t.column < length later.places.items))
      (λ t is. (more_parts earlier later t.after follows is.0, more_places earlier later t.column follows is.1)) r.touches.items right.kept;
}

pub all_right_later : (earlier later : Store) (rs : List Remembered) → Follows later earlier → AllByRecursion (IsRight earlier) rs → AllByRecursion (IsRight later) rs
all_right_later earlier later rs follows all = weaker_all (IsRight earlier) (IsRight later) (λ r. right_later earlier later r follows) rs all

-- what a number stands for stays, where it is kept and the places are the same
pub stands_later : (earlier later : Store) (column n : ℕ) (records : Records) → Follows later earlier → later.places.items ≡ earlier.places.items → n ≤ length earlier.parts.items → StandsFor earlier column records n → StandsFor later column records n
stands_later earlier later column n records follows places low stands q v there agrees =
    subst (λ left. AgreesAt (module_in later.opening) q left v) (sym (same_numbered earlier later n follows low))
    (subst (λ m. AgreesAt m q (numbered earlier n) v) (sym (same_module earlier later follows))
    (stands q v (ap (λ ps. slice_get ps column) (sym places) ∙ there)
    (subst (λ m. AgreesAt m q records v) (same_module earlier later follows) agrees)))
