-- Facts of lists.
use Rattle.std.proofs.Common.{◌≡◌, ◌<◌, ◌+◌, get_or, ℕ, zero, suc, ◌-◌, Bool, true, false, cond, List, [], ◌∷◌, ◌++◌, length, take, drop, reverse, filter, refl, sym, ap, ◌∙◌, arith, append_assoc, append-nil, length-drop}
use Rattle.std.proofs.lemmas.List.{reverse-append, take_more}
use Rattle.std.proofs.lemmas.List.Elements.{filter-append}
use Rattle.std.specs.List.{AllByRecursion}

-- ---- what holds of each

pub all_append : {X : Type 0} (P : X → Type 0) (xs ys : List X) → AllByRecursion P xs → AllByRecursion P ys → AllByRecursion P (xs ++ ys)
all_append P [] ys p q = q
all_append P (x ∷ xs) ys p q = (p.0, all_append P xs ys p.1 q)

pub all_front : {X : Type 0} (P : X → Type 0) (xs ys : List X) → AllByRecursion P (xs ++ ys) → AllByRecursion P xs
all_front P [] ys p = tt
all_front P (x ∷ xs) ys p = (p.0, all_front P xs ys p.1)

pub all_back : {X : Type 0} (P : X → Type 0) (xs ys : List X) → AllByRecursion P (xs ++ ys) → AllByRecursion P ys
all_back P [] ys p = p
all_back P (x ∷ xs) ys p = all_back P xs ys p.1

-- ---- parts

pub take_whole : {X : Type 0} (xs : List X) (k : ℕ) → k ≡ length xs → take k xs ≡ xs
take_whole [] zero h = refl
take_whole [] (suc k) h = refl
take_whole (x ∷ xs) zero h = absurd (omega arith)
take_whole (x ∷ xs) (suc k) h = ap (◌∷◌ x) (take_whole xs k (omega arith))

pub take_rest : {X : Type 0} (xs : List X) (k : ℕ) → take (length xs - k) (drop k xs) ≡ drop k xs
take_rest xs k = take_whole (drop k xs) (length xs - k) (sym (length-drop k xs))

-- one more of a list that is copied
pub copied_more : {X : Type 0} (xs ys : List X) (at : ℕ) (x y : X) → at < length xs → x ≡ get_or xs at x → ys ≡ take at xs → y ≡ x → ys ++ y ∷ [] ≡ take (at + 1) xs
copied_more xs ys at x y h is same new = (λ i. same i ++ new i ∷ []) ∙ ap (λ z. take at xs ++ z ∷ []) is ∙ sym (take_more xs at x h)

-- ---- what is taken from the end of a list, and put after another where it passes a test

-- the last of a list goes on where the others are
pub reverse_last : {X : Type 0} (xs : List X) (x : X) → reverse (xs ++ x ∷ []) ≡ x ∷ reverse xs
reverse_last xs x = reverse-append xs (x ∷ [])

pub reverse_none : {X : Type 0} (xs : List X) → length xs ≡ 0 → reverse xs ≡ []
reverse_none [] none = refl
reverse_none (x ∷ xs) none = absurd (omega (arith, none))

pub none_left : {X : Type 0} (xs : List X) → length xs ≡ 0 → xs ≡ []
none_left [] none = refl
none_left (x ∷ xs) none = absurd (omega (arith, none))

pub kept_last : {X : Type 0} (test : X → Bool) (all xs kept more : List X) (x : X) (b : Bool) → all ≡ xs ++ x ∷ [] → test x ≡ b → more ≡ cond b (kept ++ x ∷ []) kept → filter test xs ++ reverse more ≡ filter test all ++ reverse kept
kept_last test all xs kept more x true is passes now =
    ap (λ ys. filter test xs ++ reverse ys) now ∙ ap (λ ys. filter test xs ++ ys) (reverse_last kept x) ∙ sym (append_assoc (filter test xs) (x ∷ []) (reverse kept))
    ∙ ap (λ b. (filter test xs ++ cond b (x ∷ []) []) ++ reverse kept) (sym passes) ∙ ap (λ ys. ys ++ reverse kept) (sym (filter-append test xs (x ∷ [])))
    ∙ ap (λ ys. filter test ys ++ reverse kept) (sym is)
kept_last test all xs kept more x false is passes now =
    ap (λ ys. filter test xs ++ reverse ys) now ∙ ap (λ ys. ys ++ reverse kept) (sym (append-nil (filter test xs)))
    ∙ ap (λ b. (filter test xs ++ cond b (x ∷ []) []) ++ reverse kept) (sym passes) ∙ ap (λ ys. ys ++ reverse kept) (sym (filter-append test xs (x ∷ [])))
    ∙ ap (λ ys. filter test ys ++ reverse kept) (sym is)
