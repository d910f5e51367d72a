-- What is covered stays covered where places and columns are added.
use Rattle.std.proofs.Common.{◌≡◌, ◌∙◌, ◌⊎◌, inl, inr, ◌<◌, ◌≤◌, ◌+◌, ◌||◌, ◌==◌, ◌++◌, ◌∷◌, [], ℕ, true, false, List, Option, Some, None, get_or, is_none, length, map, take, refl, sym, ap, subst, true≢false, arith, length-append}
use Rattle.std.specs.List.{AllByRecursion, list_any}
use Rattle.std.proofs.lemmas.Grind.{common_steps}
use Rattle.std.proofs.lemmas.List.{map-append, take_more}
use Rattle.std.proofs.lemmas.List.Folds.{list_any-append}
use Rattle.std.proofs.lemmas.List.Quantifiers.{position-Some}
use Rattle.search_numbers.specs.inside.Covered.{CoversMore, CoversPlaces, CoversSeen, CoversViews, life_in}
use Rattle.search_numbers.specs.Stored.{Follows, column_in, covers, is_among}
use Rattle.search_numbers.specs.declared.store.Store.{Store}
use Rattle.search_numbers.proofs.Followed.{column_stays, follows_itself, follows_on}
use Rattle.search_numbers.proofs.Seen.{seen_in}
use Rattle.world_footprints.specs.Views.{AreWritten, behind, view_in, views_in}
use Rattle.world_footprints.specs.declared.view.View.{View}
use Rattle.world_footprints.proofs.Writing.{all_taken}
use Rattle.world_model.specs.Cells as cells
use Rattle.world_model.specs.Cells.{Cell}
use Rattle.world_model.specs.Changes.{cell_of}
use Rattle.world_model.specs.Names.{IsAmong, Pid}
use Rattle.world_planned.proofs.Adding.{map_both}
use Rattle.world_records.specs.Cells.{cell_in, cells_in}
use Rattle.world_records.specs.Changes.{all_changes_in, changes_in}
use Rattle.world_records.specs.Places.{place_of, same_place}
use Rattle.world_records.specs.declared.cell.Cell as stored
use Rattle.world_records.specs.declared.change.Change as kept
use Rattle.world_records.specs.declared.place.Place.{Place}
use Rattle.world_records.specs.declared.place.Place.TheVariants.{Course}

-- ---- columns in lists

same_number : (c d : ℕ) → (d == c) ≡ (c == d)
same_number c d = grind (arith, common_steps)

number_itself : (c : ℕ) → (c == c) ≡ true
number_itself c = grind (arith, common_steps)

found_among : (c : ℕ) (cs : List ℕ) → list_any (λ d. d == c) cs ≡ is_among (Some c) cs
found_among c [] = refl
found_among c (d ∷ cs) = λ i. same_number c d i || found_among c cs i

last_among : (c : ℕ) (cs : List ℕ) → is_among (Some c) (cs ++ c ∷ []) ≡ true
last_among c [] = ap (λ b. b || false) (number_itself c)
last_among c (d ∷ cs) = ap (λ b. (c == d) || b) (last_among c cs) ∙ grind (arith, common_steps)

more_among : (o : Option ℕ) (cs ds : List ℕ) → is_among o cs ≡ true → is_among o (cs ++ ds) ≡ true
more_among None cs ds is = is
more_among (Some c) cs ds is = list_any-append (λ d. c == d) cs ds ∙ ap (λ b. b || list_any (λ d. c == d) ds) is

among_later : (o later : Option ℕ) (cs : List ℕ) → ((c : ℕ) → o ≡ Some c → later ≡ Some c) → is_among o cs ≡ true → is_among later cs ≡ true
among_later None later cs stays is = absurd (true≢false (sym is))
among_later (Some c) later cs stays is = ap (λ o. is_among o cs) (stays c refl) ∙ is

within_longer : (n m : ℕ) (cs : List ℕ) → n ≤ m → AllByRecursion (λ c. c < n) cs → AllByRecursion (λ c. c < m) cs
within_longer n m [] longer all = tt
within_longer n m (c ∷ cs) longer all = (omega (arith, longer, all.0), within_longer n m cs longer all.1)

within_last : (n c : ℕ) (cs : List ℕ) → c < n → AllByRecursion (λ d. d < n) cs → AllByRecursion (λ d. d < n) (cs ++ c ∷ [])
within_last n c [] last all = (last, tt)
within_last n c (d ∷ cs) last all = (all.0, within_last n c cs last all.1)

-- ---- stores and columns

covered_later : (new old : Store) (cs : List ℕ) (q : Place) → Follows new old → covers old.places.items cs q ≡ true → covers new.places.items cs q ≡ true
covered_later new old cs q follows = among_later (column_in old.places.items q) (column_in new.places.items q) cs (λ c. column_stays new old q c follows)

more_places : (new old : Store) → Follows new old → length old.places.items ≤ length new.places.items
more_places new old follows =
    let long = ap length follows.places ∙ length-append old.places.items follows.more_places in
    omega (arith, long)

pub covers_itself : (s : Store) (cs : List ℕ) → CoversMore s cs s cs
covers_itself s cs = record { follows = follows_itself s; parts = refl; covered = λ q was. was; within = λ all. all }

pub covers_on : (s t u : Store) (cs ds es : List ℕ) → CoversMore s cs t ds → CoversMore t ds u es → CoversMore s cs u es
covers_on s t u cs ds es first then_ = record {
  follows = follows_on u t s then_.follows first.follows;
  parts = then_.parts ∙ first.parts;
  covered = λ q was. then_.covered q (first.covered q was);
  within = λ all. then_.within (first.within all);
}

-- places are added, and no columns
pub covers_followed : (new old : Store) (cs : List ℕ) → Follows new old → new.parts ≡ old.parts → CoversMore old cs new cs
covers_followed new old cs follows parts = record {
  follows = follows;
  parts = parts;
  covered = λ q. covered_later new old cs q follows;
  within = within_longer (length old.places.items) (length new.places.items) cs (more_places new old follows);
}

-- and the column of a place too
pub covers_last : (new old : Store) (cs : List ℕ) (c : ℕ) (place : Place) → Follows new old → new.parts ≡ old.parts → column_in new.places.items place ≡ Some c → CoversMore old cs new (cs ++ c ∷ [])
covers_last new old cs c place follows parts is =
    let more = covers_followed new old cs follows parts in
    record {
      follows = follows;
      parts = parts;
      covered = λ q was. more_among (column_in new.places.items q) cs (c ∷ []) (more.covered q was);
      within = λ all. within_last (length new.places.items) c cs (position-Some (same_place place) new.places.items c place is).0 (more.within all);
    }

pub covered_last : (s : Store) (cs : List ℕ) (c : ℕ) (place : Place) → column_in s.places.items place ≡ Some c → covers s.places.items (cs ++ c ∷ []) place ≡ true
covered_last s cs c place is = ap (λ o. is_among o (cs ++ c ∷ [])) is ∙ last_among c cs

pub covered_before : (s : Store) (cs : List ℕ) (c : ℕ) (place : Place) → column_in s.places.items place ≡ Some c → list_any (λ d. d == c) cs ≡ true → covers s.places.items cs place ≡ true
covered_before s cs c place is there = ap (λ o. is_among o cs) is ∙ sym (found_among c cs) ∙ there

-- ---- cells that are seen

abbrev or_first : Option Pid → Pid
or_first None = []
or_first (Some p) = p

none_some : (p : Pid) → None ≡ Some p → ⊥
none_some p e = true≢false (ap is_none e)

covered_where : (s : Store) (cs : List ℕ) (c : Cell) (q : Place) → covers s.places.items cs (place_of c) ≡ true → ((p : Pid) → life_in c ≡ Some p → covers s.places.items cs (Course p) ≡ true) → (place_of c ≡ q) ⊎ ((p : Pid) × (q ≡ Course p) × (c ≡ cells.Alive p)) → covers s.places.items cs q ≡ true
covered_where s cs c q there lives (inl is) = subst (λ r. covers s.places.items cs r ≡ true) is there
covered_where s cs c q there lives (inr alive) = ap (covers s.places.items cs) alive.1 ∙ lives alive.0 (ap life_in alive.2)

-- where a cell lies is covered, and the course of a process where it says whether that lives
covers_seen : (s : Store) (cs : List ℕ) (c : Cell) → covers s.places.items cs (place_of c) ≡ true → ((p : Pid) → life_in c ≡ Some p → covers s.places.items cs (Course p) ≡ true) → CoversSeen s cs c
covers_seen s cs c there lives = λ q seen. covered_where s cs c q there lives (seen_in q c seen)

pub seen_dead : (s : Store) (cs : List ℕ) (c : Cell) → None ≡ life_in c → covers s.places.items cs (place_of c) ≡ true → CoversSeen s cs c
seen_dead s cs c none there = covers_seen s cs c there (λ p is. absurd (none_some p (none ∙ is)))

pub seen_alive : (s : Store) (cs : List ℕ) (c : Cell) (r : Pid) → Some r ≡ life_in c → covers s.places.items cs (place_of c) ≡ true → covers s.places.items cs (Course r) ≡ true → CoversSeen s cs c
seen_alive s cs c r alive there course = covers_seen s cs c there (λ p is. subst (λ q. covers s.places.items cs (Course q) ≡ true) (ap or_first (alive ∙ is)) course)

pub seen_later : (old new : Store) (cs ds : List ℕ) (c : Cell) → CoversMore old cs new ds → CoversSeen old cs c → CoversSeen new ds c
seen_later old new cs ds c more was = λ q seen. more.covered q (was q seen)

-- ---- lists of cells

pub views_later : (old new : Store) (cs ds : List ℕ) (xs : List Cell) → CoversMore old cs new ds → CoversViews old cs xs → CoversViews new ds xs
views_later old new cs ds xs more was = λ c there q seen. more.covered q (was c there q seen)

either_seen : (s : Store) (cs : List ℕ) (xs ys : List Cell) → CoversViews s cs xs → CoversViews s cs ys → (c : Cell) → IsAmong c (xs ++ ys) → CoversSeen s cs c
either_seen s cs [] ys first then_ c there = then_ c there
either_seen s cs (x ∷ xs) ys first then_ c (inl is) = first c (inl is)
either_seen s cs (x ∷ xs) ys first then_ c (inr there) = either_seen s cs xs ys (λ d held. first d (inr held)) then_ c there

pub covers_both : (s : Store) (cs : List ℕ) (xs ys : List Cell) → CoversViews s cs xs → CoversViews s cs ys → CoversViews s cs (xs ++ ys)
covers_both s cs xs ys first then_ = λ c there. either_seen s cs xs ys first then_ c there

one_seen : (s : Store) (cs : List ℕ) (x : Cell) → CoversSeen s cs x → (c : Cell) → IsAmong c (x ∷ []) → CoversSeen s cs c
one_seen s cs x covered c (inl is) = subst (CoversSeen s cs) is covered
one_seen s cs x covered c (inr there) = absurd there

two_seen : (s : Store) (cs : List ℕ) (x y : Cell) → CoversSeen s cs x → CoversSeen s cs y → (c : Cell) → IsAmong c (x ∷ y ∷ []) → CoversSeen s cs c
two_seen s cs x y one other c (inl is) = subst (CoversSeen s cs) is one
two_seen s cs x y one other c (inr there) = one_seen s cs y other c there

-- one cell, or two
pub one_viewed : (s : Store) (cs : List ℕ) (both : View × Option View) → both.1 ≡ None → CoversSeen s cs (view_in both.0) → CoversViews s cs (views_in both)
one_viewed s cs both none one = subst (λ o. CoversViews s cs (view_in both.0 ∷ behind o)) (sym none) (λ c there. one_seen s cs (view_in both.0) one c there)

pub both_viewed : (s : Store) (cs : List ℕ) (both : View × Option View) (other : View) → both.1 ≡ Some other → CoversSeen s cs (view_in both.0) → CoversSeen s cs (view_in other) → CoversViews s cs (views_in both)
both_viewed s cs both other is one then_ = subst (λ o. CoversViews s cs (view_in both.0 ∷ behind o)) (sym is) (λ c there. two_seen s cs (view_in both.0) (view_in other) one then_ c there)

twice : (s : Store) (cs : List ℕ) (x : Cell) (xs : List Cell) → CoversViews s cs (x ∷ xs) → (c : Cell) → IsAmong c (x ∷ x ∷ xs) → CoversSeen s cs c
twice s cs x xs covered c (inl is) = covered c (inl is)
twice s cs x xs covered c (inr there) = covered c there

-- what is written first
pub covers_written : (s : Store) (cs : List ℕ) (both : View × Option View) (written : List Cell) → AreWritten (Some both) written → CoversViews s cs (views_in both) → CoversViews s cs written
covers_written s cs both written (inl is) covered = subst (CoversViews s cs) (sym is) covered
covers_written s cs both written (inr is) covered = subst (CoversViews s cs) (sym is) (λ c there. twice s cs (view_in both.0) _ covered c there)

-- one change more
pub covers_taken : (old new : Store) (cs ds : List ℕ) (ks : List kept.Change) (i : ℕ) (k : kept.Change) → i < length ks → k ≡ get_or ks i k → CoversMore old cs new ds → CoversViews new ds (map cell_of (changes_in k)) → CoversViews old cs (map cell_of (all_changes_in (take i ks))) → CoversViews new ds (map cell_of (all_changes_in (take (i + 1) ks)))
covers_taken old new cs ds ks i k within at more last before =
    subst (CoversViews new ds) (sym (ap (map cell_of) (all_taken ks i k within at) ∙ map_both cell_of (all_changes_in (take i ks)) (changes_in k)))
    (covers_both new ds (map cell_of (all_changes_in (take i ks))) (map cell_of (changes_in k)) (views_later old new cs ds _ more before) last)

-- ---- the places in which cells lie

either_place : (s : Store) (cs : List ℕ) (xs : List Cell) (x : Cell) → CoversPlaces s cs xs → covers s.places.items cs (place_of x) ≡ true → (c : Cell) → IsAmong c (xs ++ x ∷ []) → covers s.places.items cs (place_of c) ≡ true
either_place s cs [] x first last c (inl is) = ap (λ d. covers s.places.items cs (place_of d)) (sym is) ∙ last
either_place s cs [] x first last c (inr there) = absurd there
either_place s cs (y ∷ ys) x first last c (inl is) = first c (inl is)
either_place s cs (y ∷ ys) x first last c (inr there) = either_place s cs ys x (λ d held. first d (inr held)) last c there

-- one cell more
pub places_taken : (old new : Store) (cs ds : List ℕ) (xs : List stored.Cell) (i : ℕ) (x : stored.Cell) → i < length xs → x ≡ get_or xs i x → CoversMore old cs new ds → covers new.places.items ds (place_of (cell_in x)) ≡ true → CoversPlaces old cs (cells_in (take i xs)) → CoversPlaces new ds (cells_in (take (i + 1) xs))
places_taken old new cs ds xs i x within at more last before =
    subst (CoversPlaces new ds)
    (sym (map-append cell_in (take i xs) (x ∷ [])) ∙ ap cells_in (ap (λ (y : stored.Cell). take i xs ++ y ∷ []) at ∙ sym (take_more xs i x within)))
    (λ c there. either_place new ds (cells_in (take i xs)) (cell_in x) (λ d held. more.covered (place_of d) (before d held)) last c there)
