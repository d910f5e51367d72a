-- The decimal digits of a number, as the parser takes them.
use Rattle.std.proofs.Common.{◌≡◌, ◌∙◌, ℕ, ◌<◌, ◌≤◌, ◌==◌, ◌^◌, Bool, true, false, List, [], ◌∷◌, cond, drop, refl, sym, ap, subst, arith}
use Rattle.std.specs.Fmt.{decimal}
use Rattle.std.specs.Str.Parse.{IsNumeral, digits_value, without_leading_plus}
use Rattle.std.proofs.lemmas.Bool.{ne_eqb}
use Rattle.std.proofs.lemmas.Fmt.{decimal_is_IsNumeral}
use Rattle.std.proofs.lemmas.Str.Parse.{digit_from_value}
use Rattle.clap.specs.ValueTests.{is_unsigned_in}
use Rattle.clap.specs.declared.builder.value_parser.ValueParser.TheVariants.{Unsigned}
use Rattle.clap.proofs.ValueTestLemmas.{Accepts-accepts}
use Rattle.program_words.specs.Words.{begins_with_hyphen}
use Rattle.program_words.specs.inside.Found.{IsNumber}

no_hyphen : (ds : List ℕ) → IsNumeral 10 ds → begins_with_hyphen ds ≡ false
no_hyphen [] numeral = refl
no_hyphen (d ∷ ds) numeral = ne_eqb d 45 (λ e. omega (arith, digit_from_value d numeral.1.0))

no_plus : (ds : List ℕ) → IsNumeral 10 ds → without_leading_plus ds ≡ ds
no_plus [] numeral = refl
no_plus (d ∷ ds) numeral =
    let plus : (d == 43) ≡ false = ne_eqb d 43 (λ e. omega (arith, digit_from_value d numeral.1.0)) in
    ap (λ (b : Bool). drop (cond b 1 0) (d ∷ ds)) plus

-- it begins with no hyphen
pub decimal_is_plain : (n : ℕ) → n < 2 ^ 64 → begins_with_hyphen (decimal n) ≡ false
decimal_is_plain n small = no_hyphen (decimal n) (decimal_is_IsNumeral n small).0

-- it has the number as its value
pub decimal_value : (n : ℕ) → n < 2 ^ 64 → digits_value 10 (without_leading_plus (decimal n)) ≡ n
decimal_value n small =
    let numeral = decimal_is_IsNumeral n small in
    ap (digits_value 10) (no_plus (decimal n) numeral.0) ∙ numeral.1

pub decimal_is_number : (n : ℕ) → n < 2 ^ 64 → IsNumber (decimal n)
decimal_is_number n small =
    let numeral = decimal_is_IsNumeral n small in
    (subst (IsNumeral 10) (sym (no_plus (decimal n) numeral.0)) numeral.0, subst (λ m. m < 2 ^ 64) (sym (decimal_value n small)) small)

-- it passes the test of a range that has the number
pub decimal_fits : (low high n : ℕ) → low ≤ n → n ≤ high → high < 2 ^ 64 → is_unsigned_in low high (decimal n) ≡ true
decimal_fits low high n least most bounded =
    let small : n < 2 ^ 64 = omega arith in
    let number = decimal_is_number n small in
    let value = decimal_value n small in
    Accepts-accepts false (Unsigned low high) (decimal n) (number.0, number.1, subst (λ m. low ≤ m) (sym value) least, subst (λ m. m ≤ high) (sym value) most)
