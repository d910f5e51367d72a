-- Numbers at columns, where a row gets longer or shorter.
use Rattle.std.proofs.Common.{◌≡◌, ◌∙◌, ◌==◌, ◌++◌, ◌∷◌, ◌<◌, ℕ, if◌then◌else◌, List, [], get_or, length, append-nil, zero, refl, sym, ap, arith, suc, Option, Some, None, option_to_list, ◌-◌, slice_get}
use Rattle.std.proofs.Math.Seq.{get_or-append_seam}
use Rattle.std.proofs.lemmas.List.{length-append}
use Rattle.std.proofs.lemmas.Option.{slice_get-get_or}
use Rattle.search_numbers.specs.Rows.{written}
use Rattle.search_numbers.specs.declared.touch.Touch.{Touch}

-- a zero at the end changes no number
pub zero_at_end : (xs : List ℕ) (c : ℕ) → get_or (xs ++ 0 ∷ []) c 0 ≡ get_or xs c 0
zero_at_end [] zero = refl
zero_at_end [] (suc c) = refl
zero_at_end (x ∷ xs) zero = refl
zero_at_end (x ∷ xs) (suc c) = zero_at_end xs c

-- what a step leaves depends on the numbers alone
pub written_same : (ts : List Touch) (f g : ℕ → ℕ) → ((c : ℕ) → f c ≡ g c) → (c : ℕ) → written ts f c ≡ written ts g c
written_same ts f g same c = λ i. written ts (λ d. same d i) c

-- the first touch is done, and the others are left
pub written_first : (ts : List Touch) (t : Touch) (rest : List Touch) (f g : ℕ → ℕ) → ts ≡ t ∷ rest → ((c : ℕ) → g c ≡ (if c == t.column then t.after else f c)) → (c : ℕ) → written rest g c ≡ written ts f c
written_first ts t rest f g e same c = written_same rest g (λ d. if d == t.column then t.after else f d) same c ∙ ap (λ us. written us f c) (sym e)

-- what was last
last_of : (ys : List ℕ) (z : ℕ) → slice_get (ys ++ z ∷ []) (length (ys ++ z ∷ []) - 1) ≡ Some z
last_of ys z =
    let at : length (ys ++ z ∷ []) - 1 ≡ length ys = simp length-append (omega arith) in
    let within : length ys < length (ys ++ z ∷ []) = simp length-append (omega arith) in
    ap (slice_get (ys ++ z ∷ [])) at ∙ slice_get-get_or (ys ++ z ∷ []) (length ys) z within ∙ ap Some (get_or-append_seam ys z [] z)

-- a zero that was last and is taken away changes no number
pub zero_taken : (xs ys : List ℕ) (r : Option ℕ) → xs ≡ ys ++ option_to_list r → slice_get xs (length xs - 1) ≡ Some 0 → (c : ℕ) → get_or ys c 0 ≡ get_or xs c 0
zero_taken xs ys None e last c = ap (λ zs. get_or zs c 0) (sym (append-nil ys) ∙ sym e)
zero_taken xs ys (Some z) e last c =
    let is : Some z ≡ Some 0 = sym (last_of ys z) ∙ ap (λ zs. slice_get zs (length zs - 1)) (sym e) ∙ last in
    let zero : z ≡ 0 = cc in
    sym (zero_at_end ys c) ∙ ap (λ n. get_or (ys ++ n ∷ []) c 0) (sym zero) ∙ ap (λ zs. get_or zs c 0) (sym e)
