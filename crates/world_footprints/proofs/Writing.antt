-- What steps write, cell by cell.
use Rattle.std.proofs.Common.{◌≡◌, inl, inr, ◌∙◌, ◌<◌, ◌+◌, ◌||◌, ℕ, Bool, true, false, List, [], ◌∷◌, ◌++◌, Option, Some, get_or, length, map, take, drop, refl, sym, ap, subst}
use Rattle.std.specs.Int.{bit_at}
use Rattle.std.proofs.lemmas.List.{drop_more, take_more}
use Rattle.world_model.specs.Cells.{Cell, meet}
use Rattle.world_model.specs.Changes.{cell_of}
use Rattle.world_model.specs.Independence.{one_meets, some_meet}
use Rattle.world_model.specs.Names.{IsAmong}
use Rattle.world_records.specs.Cells.{cell_in, cells_in}
use Rattle.world_records.specs.Changes.{all_changes_in, changes_in}
use Rattle.world_records.specs.declared.cell.Cell as stored
use Rattle.world_records.specs.declared.change.Change as kept
use Rattle.world_footprints.specs.Views.{AreWritten, view_in, views_in}
use Rattle.world_footprints.specs.declared.view.View.{View}
use Rattle.world_footprints.specs.inside.Masks.{Covers, place_in_mask}
use Rattle.world_planned.proofs.Adding.{map_both, one_change}

-- ---- changes one by one

pub all_rest : (cs : List kept.Change) (i : ℕ) (k : kept.Change) → i < length cs → k ≡ get_or cs i k → all_changes_in (drop i cs) ≡ changes_in k ++ all_changes_in (drop (i + 1) cs)
all_rest cs i k within at = ap all_changes_in (drop_more cs i k within ∙ ap (λ x. x ∷ drop (i + 1) cs) (sym at))

pub all_taken : (cs : List kept.Change) (i : ℕ) (k : kept.Change) → i < length cs → k ≡ get_or cs i k → all_changes_in (take (i + 1) cs) ≡ all_changes_in (take i cs) ++ changes_in k
all_taken cs i k within at = ap all_changes_in (take_more cs i k within ∙ ap (λ (x : kept.Change). take i cs ++ x ∷ []) (sym at)) ∙ one_change (take i cs) k

-- ---- masks

either_covered : (m : ℕ) (xs ys : List Cell) → Covers m xs → Covers m ys → (c : Cell) → IsAmong c (xs ++ ys) → bit_at m (place_in_mask c) ≡ 1
either_covered m [] ys first then_ c there = then_ c there
either_covered m (x ∷ xs) ys first then_ c (inl is) = first c (inl is)
either_covered m (x ∷ xs) ys first then_ c (inr there) = either_covered m xs ys (λ d held. first d (inr held)) then_ c there

pub covers_both : (m : ℕ) (xs ys : List Cell) → Covers m xs → Covers m ys → Covers m (xs ++ ys)
covers_both m xs ys first then_ = λ c there. either_covered m xs ys first then_ c there

twice : (m : ℕ) (x : Cell) (xs : List Cell) → Covers m (x ∷ xs) → (c : Cell) → IsAmong c (x ∷ x ∷ xs) → bit_at m (place_in_mask c) ≡ 1
twice m x xs covered c (inl is) = covered c (inl is)
twice m x xs covered c (inr there) = covered c there

pub covers_written : (m : ℕ) (both : View × Option View) (written : List Cell) → AreWritten (Some both) written → Covers m (views_in both) → Covers m written
covers_written m both written (inl is) covered = subst (Covers m) (sym is) covered
covers_written m both written (inr is) covered = subst (Covers m) (sym is) (λ c there. twice m (view_in both.0) _ covered c there)

pub covers_taken : (old new : ℕ) (cs : List kept.Change) (i : ℕ) (k : kept.Change) → i < length cs → k ≡ get_or cs i k → ((j : ℕ) → bit_at old j ≡ 1 → bit_at new j ≡ 1) → Covers new (map cell_of (changes_in k)) → Covers old (map cell_of (all_changes_in (take i cs))) → Covers new (map cell_of (all_changes_in (take (i + 1) cs)))
covers_taken old new cs i k within at kept_ set before =
    subst (Covers new) (sym (ap (map cell_of) (all_taken cs i k within at) ∙ map_both cell_of (all_changes_in (take i cs)) (changes_in k)))
    (covers_both new (map cell_of (all_changes_in (take i cs))) (map cell_of (changes_in k)) (λ c there. kept_ (place_in_mask c) (before c there)) set)

-- ---- cells that meet

or_assoc : (a b c : Bool) → (a || (b || c)) ≡ ((a || b) || c)
or_assoc true b c = refl
or_assoc false b c = refl

or_twice : (a b : Bool) → (a || (a || b)) ≡ (a || b)
or_twice true b = refl
or_twice false b = refl

pub one_both : (xs ys : List Cell) (c : Cell) → one_meets (xs ++ ys) c ≡ (one_meets xs c || one_meets ys c)
one_both [] ys c = refl
one_both (x ∷ xs) ys c = ap (λ b. meet x c || b) (one_both xs ys c) ∙ or_assoc (meet x c) (one_meets xs c) (one_meets ys c)

pub some_both : (ds xs ys : List Cell) → some_meet ds (xs ++ ys) ≡ (some_meet ds xs || some_meet ds ys)
some_both ds [] ys = refl
some_both ds (x ∷ xs) ys = ap (λ b. one_meets ds x || b) (some_both ds xs ys) ∙ or_assoc (one_meets ds x) (some_meet ds xs) (some_meet ds ys)

-- of changes, the first of the rest and those after it
pub one_first : (cs : List kept.Change) (i : ℕ) (k : kept.Change) (c : Cell) → i < length cs → k ≡ get_or cs i k → one_meets (map cell_of (all_changes_in (drop i cs))) c ≡ (one_meets (map cell_of (changes_in k)) c || one_meets (map cell_of (all_changes_in (drop (i + 1) cs))) c)
one_first cs i k c within at =
    ap (λ ks. one_meets (map cell_of ks) c) (all_rest cs i k within at) ∙ ap (λ xs. one_meets xs c) (map_both cell_of (changes_in k) (all_changes_in (drop (i + 1) cs)))
    ∙ one_both (map cell_of (changes_in k)) (map cell_of (all_changes_in (drop (i + 1) cs))) c

pub some_first : (ds : List Cell) (cs : List kept.Change) (i : ℕ) (k : kept.Change) → i < length cs → k ≡ get_or cs i k → some_meet ds (map cell_of (all_changes_in (drop i cs))) ≡ (some_meet ds (map cell_of (changes_in k)) || some_meet ds (map cell_of (all_changes_in (drop (i + 1) cs))))
some_first ds cs i k within at =
    ap (λ ks. some_meet ds (map cell_of ks)) (all_rest cs i k within at) ∙ ap (some_meet ds) (map_both cell_of (changes_in k) (all_changes_in (drop (i + 1) cs)))
    ∙ some_both ds (map cell_of (changes_in k)) (map cell_of (all_changes_in (drop (i + 1) cs)))

pub cell_first : (ds : List Cell) (cs : List stored.Cell) (i : ℕ) (c : stored.Cell) → i < length cs → c ≡ get_or cs i c → some_meet ds (cells_in (drop i cs)) ≡ (one_meets ds (cell_in c) || some_meet ds (cells_in (drop (i + 1) cs)))
cell_first ds cs i c within at = ap (λ xs. some_meet ds (cells_in xs)) (drop_more cs i c within ∙ ap (λ x. x ∷ drop (i + 1) cs) (sym at))

-- what is written first, each once or the first one twice
pub one_written : (both : View × Option View) (written : List Cell) (c : Cell) → AreWritten (Some both) written → one_meets written c ≡ one_meets (views_in both) c
one_written both written c (inl is) = ap (λ xs. one_meets xs c) is
one_written both written c (inr is) = ap (λ xs. one_meets xs c) is ∙ or_twice (meet (view_in both.0) c) _

pub some_written : (ds : List Cell) (both : View × Option View) (written : List Cell) → AreWritten (Some both) written → some_meet ds written ≡ some_meet ds (views_in both)
some_written ds both written (inl is) = ap (some_meet ds) is
some_written ds both written (inr is) = ap (some_meet ds) is ∙ or_twice (one_meets ds (view_in both.0)) _

-- loops: one that meets, and one that does not
pub found_true : (a b : Bool) → b ≡ true → (b || a) ≡ true
found_true a b one = ap (λ x. x || a) one

pub passed_on : (a b : Bool) → b ≡ false → (b || a) ≡ a
passed_on a b none = ap (λ x. x || a) none
