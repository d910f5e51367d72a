-- Parts of objects at their positions.
use Rattle.std.proofs.Common.{◌≡◌, Bool, true, false, if◌then◌else◌, ◌==◌, ℕ, zero, suc, ◌-◌, ◌<◌, ◌≤◌, List, [], ◌∷◌, map, length, Some, None, refl, sym, ap, ◌∙◌, arith}
use Rattle.std.proofs.Math.ListN.{set, get_or}
use Rattle.std.specs.List.{slice_get}
use Rattle.std.specs.Option.{option_map}
use Rattle.std.proofs.lemmas.Bool.{eqb-true}
use Rattle.std.proofs.lemmas.List.{map-set}
use Rattle.std.proofs.lemmas.Option.{slice_get-map, slice_get_read}
use Rattle.term_core.specs.Meaning.{Meaning}
use Rattle.term_core.specs.Term.{meaning_of}
use Rattle.term_core.specs.declared.term.Term.{Term}
use Rattle.world_model.specs.Rows.{Object, part_at, with_part}

not_true : (b : Bool) → (b ≡ true → ⊥) → b ≡ false
not_true true h = absurd (h refl)
not_true false h = refl

apart : (a b : ℕ) → (a ≡ b → ⊥) → (a == b) ≡ false
apart a b h = not_true (a == b) (λ e. h (eqb-true a b e))

part_further : (x : Meaning) (xs : Object) (n : ℕ) → part_at (suc (suc n)) (x ∷ xs) ≡ part_at (suc n) xs
part_further x xs n =
    let before : suc (suc n) - 1 ≡ suc n = omega arith in
    ap (λ b. if b then None else (if suc (suc n) == 1 then Some x else part_at (suc (suc n) - 1) xs)) (apart (suc (suc n)) 0 (λ e. omega arith))
    ∙ ap (λ b. if b then Some x else part_at (suc (suc n) - 1) xs) (apart (suc (suc n)) 1 (λ e. omega arith))
    ∙ ap (λ k. part_at k xs) before

with_further : (y : Meaning) (ys : Object) (n : ℕ) (x : Meaning) → with_part (suc (suc n)) x (y ∷ ys) ≡ y ∷ with_part (suc n) x ys
with_further y ys n x =
    let before : suc (suc n) - 1 ≡ suc n = omega arith in
    ap (λ b. if b then x ∷ ys else y ∷ with_part (suc (suc n) - 1) x ys) (apart (suc (suc n)) 1 (λ e. omega arith))
    ∙ ap (λ k. y ∷ with_part k x ys) before

part_zero : (xs : Object) → part_at 0 xs ≡ None
part_zero [] = refl
part_zero (x ∷ xs) = refl

part_there : (xs : Object) (n : ℕ) → part_at (suc n) xs ≡ slice_get xs n
part_there [] n = refl
part_there (x ∷ xs) zero = refl
part_there (x ∷ xs) (suc n) = part_further x xs n ∙ part_there xs n

slice_past : (xs : Object) (n : ℕ) → length xs ≤ n → slice_get xs n ≡ None
slice_past [] n h = refl
slice_past (x ∷ xs) zero h = absurd (omega arith)
slice_past (x ∷ xs) (suc n) h = slice_past xs n (omega arith)

length_of : (ts : List Term) → length (map meaning_of ts) ≡ length ts
length_of [] = refl
length_of (t ∷ ts) = ap suc (length_of ts)

after_one : (p : ℕ) → 0 < p → p ≡ suc (p - 1)
after_one p h = omega arith

pub no_part_zero : (xs : Object) (p : ℕ) → p ≡ 0 → None ≡ part_at p xs
no_part_zero xs p e = sym (ap (λ k. part_at k xs) e ∙ part_zero xs)

pub no_part_past : (ts : List Term) (xs : Object) (p : ℕ) → map meaning_of ts ≡ xs → length ts < p → None ≡ part_at p xs
no_part_past ts xs p e h =
    let one : 0 < p = omega arith in
    let past : length (map meaning_of ts) ≤ p - 1 = omega (arith, length_of ts) in
    sym (ap (part_at p) (sym e) ∙ ap (λ k. part_at k (map meaning_of ts)) (after_one p one) ∙ part_there (map meaning_of ts) (p - 1) ∙ slice_past (map meaning_of ts) (p - 1) past)

pub part_read : (ts : List Term) (xs : Object) (p : ℕ) (t : Term) → map meaning_of ts ≡ xs → 0 < p → p ≤ length ts → t ≡ get_or ts (p - 1) t → Some (meaning_of t) ≡ part_at p xs
part_read ts xs p t e one within is =
    let below : p - 1 < length ts = omega arith in
    sym (ap (part_at p) (sym e) ∙ ap (λ k. part_at k (map meaning_of ts)) (after_one p one) ∙ part_there (map meaning_of ts) (p - 1) ∙ slice_get-map meaning_of ts (p - 1) ∙ ap (option_map meaning_of) (slice_get_read ts (length ts) (p - 1) t refl below is))

with_zero : (xs : Object) (x : Meaning) → with_part 0 x xs ≡ xs
with_zero [] x = refl
with_zero (y ∷ ys) x = ap (λ k. y ∷ with_part k x ys) (omega arith) ∙ ap (λ zs. y ∷ zs) (with_zero ys x)

with_there : (xs : Object) (n : ℕ) (x : Meaning) → n < length xs → with_part (suc n) x xs ≡ set xs n x
with_there [] n x h = absurd (omega arith)
with_there (y ∷ ys) zero x h = refl
with_there (y ∷ ys) (suc n) x h = with_further y ys n x ∙ ap (λ zs. y ∷ zs) (with_there ys n x (omega arith))

with_past : (xs : Object) (n : ℕ) (x : Meaning) → length xs ≤ n → with_part (suc n) x xs ≡ xs
with_past [] n x h = refl
with_past (y ∷ ys) zero x h = absurd (omega arith)
with_past (y ∷ ys) (suc n) x h = with_further y ys n x ∙ ap (λ zs. y ∷ zs) (with_past ys n x (omega arith))

pub put_none : (xs : Object) (p : ℕ) (x : Meaning) → p ≡ 0 → xs ≡ with_part p x xs
put_none xs p x e = sym (ap (λ k. with_part k x xs) e ∙ with_zero xs x)

pub put_past : (ts : List Term) (p : ℕ) (x : Meaning) → length ts < p → map meaning_of ts ≡ with_part p x (map meaning_of ts)
put_past ts p x h =
    let one : 0 < p = omega arith in
    let past : length (map meaning_of ts) ≤ p - 1 = omega (arith, length_of ts) in
    sym (ap (λ k. with_part k x (map meaning_of ts)) (after_one p one) ∙ with_past (map meaning_of ts) (p - 1) x past)

pub put_there : (ts : List Term) (p : ℕ) (t : Term) → 0 < p → p ≤ length ts → map meaning_of (set ts (p - 1) t) ≡ with_part p (meaning_of t) (map meaning_of ts)
put_there ts p t one within =
    let below : p - 1 < length (map meaning_of ts) = omega (arith, length_of ts) in
    map-set meaning_of ts (p - 1) t ∙ sym (ap (λ k. with_part k (meaning_of t) (map meaning_of ts)) (after_one p one) ∙ with_there (map meaning_of ts) (p - 1) (meaning_of t) below)
