-- What an input that was read within its limits says about the whole of its source.
use Rattle.std.proofs.Common.{◌≡◌, ℕ, ◌+◌, ◌<◌, ◌≤◌, List, [], ◌++◌, Option, None, Some, IfSome, IfOk, OnOk, Result, Ok, Err, length, take, sym, ap, ◌∙◌, append-nil, length-append, subst, arith}
use Rattle.std.proofs.Math.Nat.{lt_of_not-le, not-le_of_lt}
use Rattle.std.proofs.Math.Seq.{take-append_seam}
use Rattle.std.specs.Io.KnownBytes.{Consumes, IsAtEnd}
use Rattle.program_runs.specs.Input.{IsInputOf}

-- what is left is counted with what was read
together : (xs bytes ys : List ℕ) → xs ≡ bytes ++ ys → length xs ≡ length bytes + length ys
together xs bytes ys parts = ap length parts ∙ length-append bytes ys

-- a source of at most as many bytes as the limit was read as a whole
whole : (xs bytes ys : List ℕ) (limit : ℕ) → xs ≡ bytes ++ ys → (length bytes ≤ limit → ys ≡ []) → length xs ≤ limit → bytes ≡ xs
whole xs bytes ys limit parts end fits =
    let long = together xs bytes ys parts in
    let none : ys ≡ [] = end (omega arith) in
    sym (parts ∙ ap (λ w. bytes ++ w) none ∙ append-nil bytes)

-- of a longer one more bytes than the limit were read
beyond : (xs bytes ys : List ℕ) (limit : ℕ) → xs ≡ bytes ++ ys → (length bytes ≤ limit → ys ≡ []) → limit < length xs → limit < length bytes
beyond xs bytes ys limit parts end long =
    lt_of_not-le (λ short. not-le_of_lt long (subst (λ n. n ≤ limit) (sym (ap length (parts ∙ ap (λ w. bytes ++ w) (end short) ∙ append-nil bytes))) short))

input_of : (all rest : Option (List ℕ)) (bytes : List ℕ) (limit : ℕ) → Consumes all rest bytes → (length bytes ≤ limit → IsAtEnd rest) → IfSome all (λ xs. IsInputOf limit xs bytes)
input_of None rest bytes limit parts end = tt
input_of (Some xs) None bytes limit parts end = absurd parts
input_of (Some xs) (Some ys) bytes limit parts end = record {
  whole = whole xs bytes ys limit parts end;
  beginning = ap (take (length bytes)) parts ∙ take-append_seam bytes ys;
  beyond = beyond xs bytes ys limit parts end;
}

-- at `Ok` the input of the source was read
pub input_of_read : {T E : Type 0} (r : Result T E) (items : T → List ℕ) (all rest : Option (List ℕ)) (limit : ℕ) → IfOk r (λ t. Consumes all rest (items t)) → IfOk r (λ t. length (items t) ≤ limit → IsAtEnd rest) → IfOk r (λ t. IfSome all (λ xs. IsInputOf limit xs (items t)))
input_of_read (Ok t) items all rest limit parts end = input_of all rest (items t) limit parts end
input_of_read (Err e) items all rest limit parts end = tt

-- at `Ok` all of the source was read, where it was read to its end
pub all_of : {E : Type 0} {T : Type 0} (r : Result T E) (items : T → List ℕ) (all rest : Option (List ℕ)) → IfOk r (λ t. Consumes all rest (items t)) → OnOk r (IsAtEnd rest) → IfOk r (λ t. IfSome all (λ xs. items t ≡ xs))
all_of (Ok t) items all rest parts end = by all rest parts end
  where
    by : (all rest : Option (List ℕ)) → Consumes all rest (items t) → IsAtEnd rest → IfSome all (λ xs. items t ≡ xs)
    by None rest parts end = tt
    by (Some xs) None parts end = absurd parts
    by (Some xs) (Some ys) parts end = sym (parts ∙ ap (λ w. items t ++ w) end ∙ append-nil (items t))
all_of (Err e) items all rest parts end = tt

-- as many bytes were there as were read
pub as_many : (all rest : Option (List ℕ)) (bytes : List ℕ) (n : ℕ) → Consumes all rest bytes → n ≤ length bytes → IfSome all (λ xs. n ≤ length xs)
as_many None rest bytes n parts enough = tt
as_many (Some xs) None bytes n parts enough = absurd parts
as_many (Some xs) (Some ys) bytes n parts enough =
    let long = together xs bytes ys parts in
    omega (arith, long, enough)
