-- Lists of cells whose masks have no bit in common have no cells that meet.
use Rattle.std.proofs.Common.{◌≡◌, ◌⊎◌, inl, inr, ◌∙◌, ◌<◌, ◌+◌, ◌||◌, ℕ, Bool, true, false, List, [], ◌∷◌, ◌++◌, get_or, length, min, take, refl, sym, ap, subst, arith}
use Rattle.std.specs.Int.{bit_at}
use Rattle.std.specs.Prelude.{bit_and, bit_or, max}
use Rattle.std.proofs.lemmas.List.{map-append, take_more}
use Rattle.std.proofs.lemmas.Nat.Bits.{bit_at_and, bit_at_or, bit_at-lt, bit_at-zero}
use Rattle.world_model.specs.Cells.{Cell, Holder, Row, meet}
use Rattle.world_model.specs.Independence.{one_meets, some_meet}
use Rattle.world_model.specs.Names.{IsAmong}
use Rattle.world_model.proofs.Meeting.{whole, whole_same}
use Rattle.world_records.specs.Cells.{cell_in, cells_in}
use Rattle.world_records.specs.declared.cell.Cell as stored
use Rattle.world_footprints.specs.inside.Masks.{Covers, place_in_mask}

-- ---- cells that meet have one place

whole_place : (c : Cell) → place_in_mask (whole c) ≡ place_in_mask c
whole_place (Row t k) = refl
whole_place (Holder n) = refl
whole_place c = refl

one_place : (a b : Cell) → meet a b ≡ true → place_in_mask a ≡ place_in_mask b
one_place a b e = sym (whole_place a) ∙ ap place_in_mask (whole_same a b e) ∙ whole_place b

-- ---- masks with no bit in common

common_bit : (n m i : ℕ) → bit_at n i ≡ 1 → bit_at m i ≡ 1 → bit_and n m ≡ 0 → ⊥
common_bit n m i one other none =
    let both : 0 ≡ 1 = sym (bit_at-zero i) ∙ sym (ap (λ x. bit_at x i) none) ∙ bit_at_and n m i ∙ (λ j. min (one j) (other j)) in
    omega (arith, both)

meet_off : (n m : ℕ) (d c : Cell) (b : Bool) → meet d c ≡ b → bit_at n (place_in_mask d) ≡ 1 → bit_at m (place_in_mask c) ≡ 1 → bit_and n m ≡ 0 → meet d c ≡ false
meet_off n m d c true is one other none = absurd (common_bit n m (place_in_mask d) one (ap (bit_at m) (one_place d c is) ∙ other) none)
meet_off n m d c false is one other none = is

-- a cell that has another place than those is met by none of them
pub one_off : (n m : ℕ) (ds : List Cell) (c : Cell) → Covers n ds → bit_at m (place_in_mask c) ≡ 1 → bit_and n m ≡ 0 → one_meets ds c ≡ false
one_off n m [] c covered other none = refl
one_off n m (d ∷ ds) c covered other none = λ i. meet_off n m d c (meet d c) refl (covered d (inl refl)) other none i || one_off n m ds c (λ e there. covered e (inr there)) other none i

pub none_meet : (n m : ℕ) (ds cs : List Cell) → Covers n ds → Covers m cs → bit_and n m ≡ 0 → some_meet ds cs ≡ false
none_meet n m ds [] covered covers none = refl
none_meet n m ds (c ∷ cs) covered covers none = λ i. one_off n m ds c covered (covers c (inl refl)) none i || none_meet n m ds cs covered (λ e there. covers e (inr there)) none i

-- ---- one cell more

among_more : {X : Type 0} (x y : X) (xs : List X) → IsAmong x (xs ++ y ∷ []) → IsAmong x xs ⊎ (y ≡ x)
among_more x y [] (inl is) = inr is
among_more x y [] (inr there) = absurd there
among_more x y (z ∷ zs) (inl is) = inl (inl is)
among_more x y (z ∷ zs) (inr there) = behind (among_more x y zs there) where
  behind : IsAmong x zs ⊎ (y ≡ x) → IsAmong x (z ∷ zs) ⊎ (y ≡ x)
  behind (inl before) = inl (inr before)
  behind (inr is) = inr is

either_covered : (new : ℕ) (cs : List Cell) (c d : Cell) → Covers new cs → bit_at new (place_in_mask d) ≡ 1 → IsAmong c cs ⊎ (d ≡ c) → bit_at new (place_in_mask c) ≡ 1
either_covered new cs c d before set (inl there) = before c there
either_covered new cs c d before set (inr is) = ap (λ x. bit_at new (place_in_mask x)) (sym is) ∙ set

pub covers_more : (old new : ℕ) (cells : List stored.Cell) (i : ℕ) (d : stored.Cell) → i < length cells → d ≡ get_or cells i d → ((k : ℕ) → bit_at old k ≡ 1 → bit_at new k ≡ 1) → bit_at new (place_in_mask (cell_in d)) ≡ 1 → Covers old (cells_in (take i cells)) → Covers new (cells_in (take (i + 1) cells))
covers_more old new cells i d within at kept set before =
    subst (Covers new)
    (sym (map-append cell_in (take i cells) (d ∷ [])) ∙ ap cells_in (ap (λ (x : stored.Cell). take i cells ++ x ∷ []) at ∙ sym (take_more cells i d within)))
    (λ c there. either_covered new (cells_in (take i cells)) c (cell_in d) (λ e held. kept (place_in_mask e) (before e held)) set (among_more c (cell_in d) (cells_in (take i cells)) there))

-- a bit that is set stays where more are set
pub bit_kept : (n m i : ℕ) → bit_at n i ≡ 1 → bit_at (bit_or n m) i ≡ 1
bit_kept n m i is =
    let or : bit_at (bit_or n m) i ≡ max 1 (bit_at m i) = bit_at_or n m i ∙ ap (λ b. max b (bit_at m i)) is in
    let small : bit_at m i < 2 = bit_at-lt m i in
    omega (arith, or, small)

-- two lists are covered where each is
pub covers_both : (n : ℕ) (xs ys : List Cell) → Covers n xs → Covers n ys → Covers n (xs ++ ys)
covers_both n [] ys first second c there = second c there
covers_both n (x ∷ xs) ys first second c (inl is) = first c (inl is)
covers_both n (x ∷ xs) ys first second c (inr there) = covers_both n xs ys (λ d held. first d (inr held)) second c there
