-- The texts of integers.
use Rattle.std.proofs.Common.{◌≡◌, ◌≢◌, inl, inr, ℕ, ℤ, pos, negsuc, zero, suc, ◌≤◌, ◌<◌, ◌^◌, true, List, [], ◌∷◌, length, get_or, slice_index, drop, neg_ℤ, Result, Ok, Err, Option, Some, None, MatchOption, IsUtf8, ap, sym, ◌∙◌, refl, subst, arith, w64}
use Rattle.std.proofs.lemmas.Bool.Decides.{nat_tests}
use Rattle.std.proofs.lemmas.Fmt.{decimal-digits_value, decimal_digit, decimal_nonempty, parse-signed_decimal, IsAscii-signed}
use Rattle.std.proofs.lemmas.Str.{IsUtf8-from_ascii}
use Rattle.std.proofs.lemmas.Str.Parse.{IsNumeralModel, numerals_by_value, parse_signed_plain, parse_signed_minus, tells_digits}
use Rattle.std.specs.Fmt.{decimal, signed_decimal}
use Rattle.std.specs.List.{AllByRecursion}
use Rattle.std.specs.Result.{result_ok}
use Rattle.std.specs.Str.Parse.{AllDigits, digits_value, ParsesSigned}
use borrow.Author.Rules.{sfits_of}
use Rattle.term_core.proofs.NumberTexts.{IsDigit, all_digits-decimal, begins-decimal}
use Rattle.term_core.specs.Integers.{has_64_bits}
use Rattle.term_core.specs.Schedule.{IsLawfulNumber}
use Rattle.term_reader.specs.inside.Leaves.{BeginsNumber, BeginsInteger}

pub bits_below : (n : ℕ) → has_64_bits (pos n) ≡ true → n < 2 ^ 63
bits_below n h = grind (arith, nat_tests)

pub bits_below_negative : (n : ℕ) → has_64_bits (negsuc n) ≡ true → n < 2 ^ 63
bits_below_negative n h = grind (arith, nat_tests)

bits_of : (n : ℕ) → n < 2 ^ 63 → has_64_bits (pos n) ≡ true
bits_of n h = grind (arith, nat_tests)

bits_of_negative : (n : ℕ) → n < 2 ^ 63 → has_64_bits (negsuc n) ≡ true
bits_of_negative n h = grind (arith, nat_tests)

pub zero_text : decimal 0 ≡ 48 ∷ []
zero_text = decimal_digit 0 (omega arith)

-- NUMBERS, WITH 0 AND WITHOUT

pub or_zero : (digits : List ℕ) (found : Option ℕ) → (digits ≡ 48 ∷ [] → ⊥)
    → MatchOption found ((n : ℕ) → IsLawfulNumber n → digits ≡ decimal n → ⊥) (λ n. IsLawfulNumber n × (digits ≡ decimal n))
    → MatchOption found ((n : ℕ) → n < 2 ^ 64 → digits ≡ decimal n → ⊥) (λ n. (n < 2 ^ 64) × (digits ≡ decimal n))
or_zero digits None other none = no_number
  where
    no_number : (n : ℕ) → n < 2 ^ 64 → digits ≡ decimal n → ⊥
    no_number zero h e = other (e ∙ zero_text)
    no_number (suc n) h e = none (suc n) (omega arith, h) e
or_zero digits (Some n) other found = (found.0.1, found.1)

pub integer_or_zero : (text : List ℕ) (found : Option ℤ) → (text ≡ 48 ∷ [] → ⊥)
    → MatchOption found ((n : ℤ) → has_64_bits n ≡ true → n ≢ pos 0 → text ≡ signed_decimal n → ⊥) (λ n. (has_64_bits n ≡ true) × (text ≡ signed_decimal n))
    → MatchOption found ((n : ℤ) → has_64_bits n ≡ true → text ≡ signed_decimal n → ⊥) (λ n. (has_64_bits n ≡ true) × (text ≡ signed_decimal n))
integer_or_zero text None other none = no_integer
  where
    no_integer : (n : ℤ) → has_64_bits n ≡ true → text ≡ signed_decimal n → ⊥
    no_integer (pos zero) h e = other (e ∙ zero_text)
    no_integer (pos (suc n)) h e = none (pos (suc n)) h (λ w. cc) e
    no_integer (negsuc n) h e = none (negsuc n) h (λ w. cc) e
integer_or_zero text (Some n) other found = found

-- THE FIRST BYTES OF INTEGERS

digit_first : (ds : List ℕ) → AllByRecursion IsDigit ds → 0 < length ds → (48 ≤ get_or ds 0 0) × (get_or ds 0 0 ≤ 57)
digit_first [] all some = absurd (omega arith)
digit_first (d ∷ ds) all some = all.0

-- an integer begins with a digit or a sign
pub integer_first : (n : ℤ) → has_64_bits n ≡ true → (0 < length (signed_decimal n)) × (45 ≤ get_or (signed_decimal n) 0 0) × (get_or (signed_decimal n) 0 0 ≤ 57)
integer_first (pos n) h =
    let low : n < 2 ^ 64 = omega (arith, bits_below n h) in
    let d = digit_first (decimal n) (all_digits-decimal n low) (decimal_nonempty n low) in
    (decimal_nonempty n low, omega (arith, d.0), d.1)
integer_first (negsuc n) h = (omega arith, omega arith, omega arith)

-- an integer other than 0 begins as one may
begins-integer : (n : ℤ) → has_64_bits n ≡ true → n ≢ pos 0 → BeginsInteger (signed_decimal n)
begins-integer (pos zero) h other = absurd (other refl)
begins-integer (pos (suc n)) h other = inl (begins-decimal (suc n) (omega arith, omega (arith, bits_below (suc n) h)))
begins-integer (negsuc n) h other = inr (refl, begins-decimal (suc n) (omega arith, omega (arith, bits_below_negative n h)))

pub no_integer_text : (bytes : List ℕ) → ¬ (BeginsInteger bytes) → (n : ℤ) → has_64_bits n ≡ true → n ≢ pos 0 → bytes ≡ signed_decimal n → ⊥
no_integer_text bytes none n h other e = none (subst BeginsInteger (sym e) (begins-integer n h other))

pub IsUtf8-integer : (bytes : List ℕ) (n : ℤ) → has_64_bits n ≡ true → bytes ≡ signed_decimal n → IsUtf8 bytes
IsUtf8-integer bytes (pos n) h e = subst IsUtf8 (sym e) (IsUtf8-from_ascii (signed_decimal (pos n)) (IsAscii-signed (pos n) (bits_below n h)))
IsUtf8-integer bytes (negsuc n) h e = subst IsUtf8 (sym e) (IsUtf8-from_ascii (signed_decimal (negsuc n)) (IsAscii-signed (negsuc n) (bits_below_negative n h)))

-- WHAT IS PARSED

own : IsNumeralModel (AllDigits 10) (digits_value 10)
own = numerals_by_value _ tells_digits

parsed_is : {E : Type 0} (n : ℤ) (bytes : List ℕ) (r : Result ℤ E) → has_64_bits n ≡ true → bytes ≡ signed_decimal n → ParsesSigned w64 10 bytes r → r ≡ Ok n
parsed_is (pos n) bytes r h e p = parse-signed_decimal w64 (pos n) bytes r (sfits_of (bits_below n h)) (bits_below n h) e p
parsed_is (negsuc n) bytes r h e p = parse-signed_decimal w64 (negsuc n) bytes r (sfits_of (bits_below_negative n h)) (bits_below_negative n h) e p

positive_read : (bytes : List ℕ) (v : ℕ) (x : ℤ) → x ≡ pos v → v < 2 ^ 63 → bytes ≡ decimal v → (has_64_bits x ≡ true) × (bytes ≡ signed_decimal x)
positive_read bytes v x e low f = (ap has_64_bits e ∙ bits_of v low, f ∙ sym (ap signed_decimal e))

negative_read : (bytes digits : List ℕ) (v : ℕ) (x : ℤ) → x ≡ negsuc v → v < 2 ^ 63 → bytes ≡ 45 ∷ digits → digits ≡ decimal (suc v) → (has_64_bits x ≡ true) × (bytes ≡ signed_decimal x)
negative_read bytes digits v x e low f g = (ap has_64_bits e ∙ bits_of_negative v low, f ∙ ap (λ ds. 45 ∷ ds) g ∙ sym (ap signed_decimal e))

signed_bytes : (bytes : List ℕ) → slice_index bytes 0 ≡ 45 → bytes ≡ 45 ∷ drop 1 bytes
signed_bytes [] e = absurd (omega (arith, e))
signed_bytes (b ∷ bs) e = ap (λ c. c ∷ bs) e

not_zero : (bytes : List ℕ) (n : ℕ) → BeginsNumber bytes → bytes ≡ decimal n → 1 ≤ n
not_zero bytes zero first e = absurd (omega (arith, first, ap (λ bs. get_or bs 0 0) (e ∙ zero_text)))
not_zero bytes (suc n) first e = omega arith

-- what `parse` reads of bytes that begin as an integer may
pub parsed_integer : {E : Type 0} (bytes : List ℕ) (parsed : Result ℤ E) → BeginsInteger bytes → ParsesSigned w64 10 bytes parsed
    → MatchOption (result_ok parsed) ((n : ℤ) → has_64_bits n ≡ true → n ≢ pos 0 → bytes ≡ signed_decimal n → ⊥) (λ n. (has_64_bits n ≡ true) × (bytes ≡ signed_decimal n))
parsed_integer {E} bytes (Ok x) (inl first) p =
    let q = parse_signed_plain own {E = E} w64 bytes (Ok x) p (omega (arith, first)) (omega (arith, first)) in
    let low : digits_value 10 bytes < 2 ^ 63 = q.0.2 in
    let text : decimal (digits_value 10 bytes) ≡ bytes = decimal-digits_value own bytes q.0.0 q.0.1 (λ e. absurd (omega (arith, e, first))) (omega (arith, low)) in
    positive_read bytes (digits_value 10 bytes) x q.1 low (sym text)
parsed_integer {E} bytes (Ok x) (inr first) p =
    let q = parse_signed_minus own {E = E} w64 bytes (Ok x) p first.0 in
    let low : digits_value 10 (drop 1 bytes) ≤ 2 ^ 63 = q.0.2 in
    let text : decimal (digits_value 10 (drop 1 bytes)) ≡ drop 1 bytes = decimal-digits_value own (drop 1 bytes) q.0.0 q.0.1 (λ e. absurd (omega (arith, e, first.1))) (omega (arith, low)) in
    negative bytes x (digits_value 10 (drop 1 bytes)) q.1 low (sym text) first.0 (not_zero (drop 1 bytes) _ first.1 (sym text))
  where
    negative : (bytes : List ℕ) (x : ℤ) (v : ℕ) → x ≡ neg_ℤ (pos v) → v ≤ 2 ^ 63 → drop 1 bytes ≡ decimal v → slice_index bytes 0 ≡ 45 → 1 ≤ v → (has_64_bits x ≡ true) × (bytes ≡ signed_decimal x)
    negative bytes x zero e low text first some = absurd (omega arith)
    negative bytes x (suc v) e low text first some = negative_read bytes (drop 1 bytes) v x e (omega arith) (signed_bytes bytes first) text
parsed_integer {E} bytes (Err f) first p = λ n h other e. let same : ◌≡◌ {A = Result ℤ E} (Err f) (Ok n) = parsed_is {E = E} n bytes (Err f) h e p in cc
