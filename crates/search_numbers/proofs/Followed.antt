-- Stores that follow one another.
use Rattle.std.proofs.Common.{◌≡◌, ◌∙◌, ◌<◌, ◌++◌, [], ℕ, Bool, List, Some, get_or, length, position, slice_get, refl, sym, ap, subst, append_assoc, append-nil, arith, length-append}
use Rattle.std.specs.List.{position_or_len}
use Rattle.std.specs.Prelude.{not}
use Rattle.std.proofs.lemmas.Grind.{common_steps}
use Rattle.std.proofs.lemmas.List.Folds.{prefix_len-append}
use Rattle.std.proofs.lemmas.Option.{slice_get_read, slice_get_within}
use Rattle.search_numbers.specs.Stored.{BeginsAt, EachBegins, Follows, column_in, step_at}
use Rattle.search_numbers.specs.declared.store.Store.{Store}
use Rattle.search_numbers.proofs.Columns.{got_still, weaker_all}
use Rattle.term_core.specs.declared.step.Step.{Step}
use Rattle.world_records.specs.Places.{same_place}
use Rattle.world_records.specs.declared.place.Place.{Place}

pub follows_itself : (s : Store) → Follows s s
follows_itself s = record {
  opening = refl;
  more_places = [];
  places = sym (append-nil s.places.items);
  more_parts = [];
  parts = sym (append-nil s.parts.items);
  whole = λ is. is;
}

-- one that follows another one follows all that this one follows
pub follows_on : (last middle first : Store) → Follows last middle → Follows middle first → Follows last first
follows_on last middle first later earlier = record {
  opening = later.opening ∙ earlier.opening;
  more_places = earlier.more_places ++ later.more_places;
  places = later.places ∙ ap (λ qs. qs ++ later.more_places) earlier.places ∙ append_assoc first.places.items earlier.more_places later.more_places;
  more_parts = earlier.more_parts ++ later.more_parts;
  parts = later.parts ∙ ap (λ ps. ps ++ later.more_parts) earlier.parts ∙ append_assoc first.parts.items earlier.more_parts later.more_parts;
  whole = λ is. later.whole (earlier.whole is);
}

-- ---- where a place had a column

first_stays : {X : Type 0} (p : X → Bool) (xs ys : List X) → position_or_len p xs < length xs → position_or_len p (xs ++ ys) ≡ position_or_len p xs
first_stays p xs ys within = prefix_len-append (λ x. not (p x)) xs ys ∙ grind (arith, common_steps)

pub position_stays : {X : Type 0} (p : X → Bool) (xs ys : List X) (i : ℕ) → position p xs ≡ Some i → position p (xs ++ ys) ≡ Some i
position_stays p xs ys i is =
    let at : position_or_len p xs ≡ i = grind (arith, common_steps) in
    let inside : i < length xs = grind (arith, common_steps) in
    let later : position_or_len p (xs ++ ys) ≡ i = first_stays p xs ys (omega (arith, at, inside)) ∙ at in
    let long : i < length (xs ++ ys) = grind (arith, common_steps, length-append) in
    grind (arith, common_steps)

-- it has the same one in a store that follows
pub column_stays : (later earlier : Store) (q : Place) (c : ℕ) → Follows later earlier → column_in earlier.places.items q ≡ Some c → column_in later.places.items q ≡ Some c
column_stays later earlier q c follows is = ap (λ places. column_in places q) follows.places ∙ position_stays (same_place q) earlier.places.items follows.more_places c is

-- ---- the steps that begin at places

-- they begin there too where places are added
pub begins_still : (places more : List Place) (c : ℕ) (s : Step) → BeginsAt places c s → BeginsAt (places ++ more) c s
begins_still places more c s is = record { place = is.place; there = got_still places more c is.place is.there; begins = is.begins }

pub each_begins_still : (places more : List Place) (entries : List (Step × ℕ)) → EachBegins places entries → EachBegins (places ++ more) entries
each_begins_still places more entries each = weaker_all (λ e. BeginsAt places e.1 e.0) (λ e. BeginsAt (places ++ more) e.1 e.0) (λ e. begins_still places more e.1 e.0) entries each

-- and in a store that follows
pub begins_later : (later earlier : Store) (c : ℕ) (s : Step) → Follows later earlier → BeginsAt earlier.places.items c s → BeginsAt later.places.items c s
begins_later later earlier c s follows is = subst (λ places. BeginsAt places c s) (sym follows.places) (begins_still earlier.places.items follows.more_places c s is)

-- what is read at a column is the place where a step begins
pub begins_read : (places : List Place) (c : ℕ) (s : Step) (q : Place) → BeginsAt places c s → q ≡ get_or places c q → (slice_get places c ≡ Some q) × (step_at q ≡ Some s)
begins_read places c s q is read =
    let there : slice_get places c ≡ Some q = slice_get_read places (length places) c q refl (slice_get_within places c is.place is.there) read in
    let both : Some is.place ≡ Some q = sym is.there ∙ there in
    let place : is.place ≡ q = cc in
    (there, ap step_at (sym place) ∙ is.begins)

-- one step begins at a column
pub same_begins : (places : List Place) (c : ℕ) (s t : Step) → BeginsAt places c s → BeginsAt places c t → s ≡ t
same_begins places c s t one other =
    let here : Some one.place ≡ Some other.place = sym one.there ∙ other.there in
    let place : one.place ≡ other.place = cc in
    let both : Some s ≡ Some t = sym one.begins ∙ ap step_at place ∙ other.begins in
    cc
