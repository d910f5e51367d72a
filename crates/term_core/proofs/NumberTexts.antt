-- The texts of numbers.
use Rattle.std.proofs.Common.{◌≡◌, ℕ, ◌^◌, ◌≤◌, ◌<◌, List, [], ◌∷◌, get_or, slice_index, zero, suc, Result, Ok, Err, MatchOption, IsUtf8, ap, sym, ◌∙◌, subst, arith}
use Rattle.std.proofs.lemmas.Fmt.{decimal_is_IsNumeral, decimal-digits_value, decimal_by_steps, first_decimal, parse-decimal, decimal_digit, IsAscii-decimal}
use Rattle.std.proofs.lemmas.Str.{IsUtf8-from_ascii}
use Rattle.std.proofs.lemmas.Str.Parse.{IsNumeralModel, numerals_by_value, parse_plain, tells_digits, digit_at}
use Rattle.std.specs.Fmt.{decimal}
use Rattle.std.specs.List.{AllByRecursion}
use Rattle.std.specs.Str.Parse.{AllDigits, digits_value, ParsesUnsigned}
use Rattle.term_core.proofs.Pieces.{all-append}
use Rattle.std.specs.Result.{result_ok}
use Rattle.term_core.specs.Schedule.{IsLawfulNumber}

-- the first byte is one of `1` to `9`
abbrev pub BeginsNumber : List ℕ → Type 0
BeginsNumber bytes = (49 ≤ slice_index bytes 0) × (slice_index bytes 0 ≤ 57)

-- the first byte of a lawful number's text is one of `1` to `9`
pub begins-decimal : (n : ℕ) → IsLawfulNumber n → BeginsNumber (decimal n)
begins-decimal n h =
    let numeral = decimal_is_IsNumeral n h.1 in
    let first = first_decimal n h.0 h.1 in
    let range = digit_at (decimal n) 0 numeral.0.1 numeral.0.0 in
    (omega (arith, first), omega (arith, range.1))

-- bytes that begin with another byte are the text of no number
pub no_number : (bytes : List ℕ) → ¬ (BeginsNumber bytes) → (n : ℕ) → IsLawfulNumber n → bytes ≡ decimal n → ⊥
no_number bytes other n h e = other (subst BeginsNumber (sym e) (begins-decimal n h))

-- nor are bytes that are no text
pub IsUtf8-number : (bytes : List ℕ) (n : ℕ) → IsLawfulNumber n → bytes ≡ decimal n → IsUtf8 bytes
IsUtf8-number bytes n h e = subst IsUtf8 (sym e) (IsUtf8-from_ascii (decimal n) (IsAscii-decimal n h.1))

own : IsNumeralModel (AllDigits 10) (digits_value 10)
own = numerals_by_value _ tells_digits

not_zero : (bytes : List ℕ) (n : ℕ) → BeginsNumber bytes → bytes ≡ decimal n → 1 ≤ n
not_zero bytes zero first e =
    let zero_text : decimal 0 ≡ 48 ∷ [] = decimal_digit 0 (omega arith) in
    absurd (omega (arith, first, ap (λ bs. get_or bs 0 0) (e ∙ zero_text)))
not_zero bytes (suc n) first e = omega arith

-- what `parse` reads of bytes that begin with one of `1` to `9`
pub parsed_number : {E : Type 0} (bytes : List ℕ) (parsed : Result ℕ E) → BeginsNumber bytes → ParsesUnsigned 64 10 bytes parsed
    → MatchOption (result_ok parsed) ((n : ℕ) → IsLawfulNumber n → bytes ≡ decimal n → ⊥) (λ n. IsLawfulNumber n × (bytes ≡ decimal n))
parsed_number {E} bytes (Ok x) first p =
    let q = parse_plain own {E = E} 64 bytes (Ok x) p (omega arith) in
    let text : decimal (digits_value 10 bytes) ≡ bytes = decimal-digits_value own bytes q.0.0 q.0.1 (λ e. absurd (omega (arith, e, first))) q.0.2 in
    let e : bytes ≡ decimal x = sym text ∙ ap decimal (sym q.1) in
    let below : x < 2 ^ 64 = rw q.1 q.0.2 in
    ((not_zero bytes x first e, below), e)
parsed_number {E} bytes (Err f) first p = λ n h e. let same : ◌≡◌ {A = Result ℕ E} (Err f) (Ok n) = parse-decimal {E = E} 64 n bytes (Err f) h.1 h.1 e p in cc

-- the bytes of a number's text are digits
abbrev pub IsDigit : ℕ → Type 0
IsDigit b = (48 ≤ b) × (b ≤ 57)

pub all_digits-decimal : (n : ℕ) → n < 2 ^ 64 → AllByRecursion IsDigit (decimal n)
all_digits-decimal n h = decimal_by_steps (λ n ds. AllByRecursion IsDigit ds)
    (λ n low. ((omega arith, omega arith), tt))
    (λ n ds high front. all-append IsDigit ds _ front ((omega arith, omega arith), tt)) n h
