-- Numbers are read as they are spelt.
use Rattle.std.proofs.Common.{◌≡◌, ℕ, ◌≤◌, ℤ, Bool, true, false, cond, inl, inr, ◌||◌, List, [], ◌∷◌, Option, Some, None, Result, Ok, Err, eqb, refl, sym, ap, subst, ◌∙◌, arith}
use Rattle.std.specs.Prelude.{unwrap_or}
use Rattle.std.specs.Option.{option_map}
use Rattle.std.specs.Char.{is_ascii_digit}
use Rattle.std.proofs.lemmas.Bool.{eqb-true, ne_eqb}
use Rattle.std.proofs.lemmas.Bool.Decides.{nat_tests}
use Rattle.core_tokens.specs.declared.lexer.trouble.TokenError.{TokenError}
use Rattle.core_tokens.specs.declared.lexer.trouble.TokenError.TheVariants as errors
use Rattle.core_tokens.specs.Piece.{Shape}
use Rattle.core_tokens.specs.Piece as lexemes
use Rattle.core_tokens.specs.TokenText.{decimal_value, signed, Run, Sign, bare, plus, minus, Fraction, point, Exponent, power, PerhapsExponent, scaled, unscaled, TokenAt, spells_integer, spells_float}
use Rattle.core_tokens.specs.Tokens.{in_range}
use Rattle.term_core.specs.Integers.{has_64_bits}
use Rattle.core_tokens.specs.inside.Lexing.{◌>>=◌, run_of, behind_run, some_digits, digits_at, sign_at, fraction_at, exponent_at, integer_of, number_by, number_from, number_at}
use Rattle.core_tokens.proofs.Basics.{some_is, map_some, chosen, cases_Option}
use Rattle.core_tokens.proofs.Runs.{run_sound, run_complete, run_head}

-- ---- digits

pub record Digits (bytes : List ℕ) (x : List ℕ × List ℕ) : Type 0 where
  pub first : ℕ
  pub others : List ℕ
  pub front_is : x.0 ≡ first ∷ others
  pub run : Run is_ascii_digit bytes (first ∷ others) x.1

some_digits_are : (bytes front rest : List ℕ) (x : List ℕ × List ℕ) → Run is_ascii_digit bytes front rest → some_digits front rest ≡ Some x → Digits bytes x
some_digits_are bytes [] rest x r e = absurd cc
some_digits_are bytes (d ∷ ds) rest x r e = subst (λ (y : List ℕ × List ℕ). Digits bytes y) (some_is (d ∷ ds, rest) x e) (record { first = d; others = ds; front_is = refl; run = r })

pub digits_sound : (bytes : List ℕ) (x : List ℕ × List ℕ) → digits_at bytes ≡ Some x → Digits bytes x
unfolding digits_at
digits_sound bytes x e = some_digits_are bytes (run_of is_ascii_digit bytes) (behind_run is_ascii_digit bytes) x (run_sound is_ascii_digit bytes) e

pub digits_complete : (bytes digits rest : List ℕ) (d : ℕ) → Run is_ascii_digit bytes (d ∷ digits) rest → digits_at bytes ≡ Some (d ∷ digits, rest)
unfolding digits_at
digits_complete bytes digits rest d r =
    let is = run_complete is_ascii_digit bytes (d ∷ digits) rest r in
    ap (λ (f : List ℕ). some_digits f (behind_run is_ascii_digit bytes)) is.front_is ∙ ap (λ (t : List ℕ). some_digits (d ∷ digits) t) is.rest_is

-- ---- signs

sign_by : (c : ℕ) (bytes : List ℕ) (a b : Bool) → eqb c 45 ≡ a → eqb c 43 ≡ b → let x : Bool × List ℕ = cond a (true, bytes) (cond b (false, bytes) (false, c ∷ bytes)) in Sign (c ∷ bytes) x.0 x.1
sign_by c bytes true b e f = subst (λ (x : ℕ). Sign (x ∷ bytes) true bytes) (sym (eqb-true c 45 e)) minus
sign_by c bytes false true e f = subst (λ (x : ℕ). Sign (x ∷ bytes) false bytes) (sym (eqb-true c 43 f)) plus
sign_by c bytes false false e f = bare

pub sign_sound : (bytes : List ℕ) → Sign bytes (sign_at bytes).0 (sign_at bytes).1
unfolding sign_at
sign_sound [] = bare
sign_sound (c ∷ bytes) = sign_by c bytes (eqb c 45) (eqb c 43) refl refl

digit_bounds : (c : ℕ) → is_ascii_digit c ≡ true → (48 ≤ c) × (c ≤ 57)
digit_bounds c h = (grind (arith, nat_tests), grind (arith, nat_tests))

no_sign : (c : ℕ) (bytes : List ℕ) → is_ascii_digit c ≡ true → sign_at (c ∷ bytes) ≡ (false, c ∷ bytes)
unfolding sign_at
no_sign c bytes h =
    let b = digit_bounds c h in
    let not_minus : eqb c 45 ≡ false = ne_eqb c 45 (λ e. omega arith) in
    let not_plus : eqb c 43 ≡ false = ne_eqb c 43 (λ e. omega arith) in
    rw (not_minus, not_plus) refl

pub sign_complete : (bytes unsigned digits rest : List ℕ) (d : ℕ) (negative : Bool) → Sign bytes negative unsigned → Run is_ascii_digit unsigned (d ∷ digits) rest → sign_at bytes ≡ (negative, unsigned)
unfolding sign_at
sign_complete bytes unsigned digits rest d negative (bare {bytes = same}) r =
    let h = run_head is_ascii_digit same (d ∷ digits) rest r d digits refl in
    subst (λ (x : List ℕ). sign_at x ≡ (false, x)) (sym h.1) (no_sign d h.0 h.2)
sign_complete bytes unsigned digits rest d negative (plus {bytes = same}) r = refl
sign_complete bytes unsigned digits rest d negative (minus {bytes = same}) r = refl

-- ---- fractions and exponents

pub fraction_sound : (bytes rest : List ℕ) → fraction_at bytes ≡ Some rest → Fraction bytes rest
unfolding fraction_at
fraction_sound [] rest e = absurd cc
fraction_sound (c ∷ bytes) rest e =
    elim (chosen (eqb c 46) (option_map (λ d. d.1) (digits_at bytes)) None (Some rest) e) [
      | inl h ↦
          let d = map_some (λ (d : List ℕ × List ℕ). d.1) (digits_at bytes) rest h.1 in
          let digits = digits_sound bytes d.0 d.1 in
          subst (λ (x : ℕ). Fraction (x ∷ bytes) rest) (sym (eqb-true c 46 h.0)) (subst (λ (r : List ℕ). Fraction (46 ∷ bytes) r) d.2 (point digits.run))
      | inr h ↦ absurd (let f = h.1 in cc)
    ]

pub fraction_complete : (bytes rest : List ℕ) → Fraction bytes rest → fraction_at bytes ≡ Some rest
unfolding fraction_at
fraction_complete bytes rest (point {bytes = more} {digits} {d} r) = rw (digits_complete more digits rest d r) refl

pub no_fraction : (bytes : List ℕ) → ((rest : List ℕ) → Fraction bytes rest → ⊥) → fraction_at bytes ≡ None
no_fraction bytes none =
    elim (cases_Option (fraction_at bytes)) [
      | inl h ↦ absurd (none h.0 (fraction_sound bytes h.0 h.1))
      | inr h ↦ h
    ]

pub fraction_none : (bytes : List ℕ) → fraction_at bytes ≡ None → (rest : List ℕ) → Fraction bytes rest → ⊥
fraction_none bytes e rest f = let g = fraction_complete bytes rest f in cc

pub exponent_sound : (bytes rest : List ℕ) → exponent_at bytes ≡ Some rest → Exponent bytes rest
unfolding exponent_at
exponent_sound [] rest e = absurd cc
exponent_sound (c ∷ bytes) rest e =
    elim (chosen (eqb c 101 || eqb c 69) (option_map (λ d. d.1) (digits_at (sign_at bytes).1)) None (Some rest) e) [
      | inl h ↦
          let d = map_some (λ (d : List ℕ × List ℕ). d.1) (digits_at (sign_at bytes).1) rest h.1 in
          let digits = digits_sound (sign_at bytes).1 d.0 d.1 in
          subst (λ (r : List ℕ). Exponent (c ∷ bytes) r) d.2 (power h.0 (sign_sound bytes) digits.run)
      | inr h ↦ absurd (let f = h.1 in cc)
    ]

pub exponent_complete : (bytes rest : List ℕ) → Exponent bytes rest → exponent_at bytes ≡ Some rest
unfolding exponent_at
exponent_complete bytes rest (power {bytes = more} {unsigned} {digits} {c} {d} {negative} h s r) =
    rw (h, sign_complete more unsigned digits rest d negative s r, digits_complete unsigned digits rest d r) refl

perhaps_by : (bytes : List ℕ) (o : Option (List ℕ)) → exponent_at bytes ≡ o → PerhapsExponent bytes (unwrap_or o bytes)
perhaps_by bytes (Some rest) e = scaled (exponent_sound bytes rest e)
perhaps_by bytes None e = unscaled (λ rest x. let g = exponent_complete bytes rest x in cc)

pub perhaps_sound : (bytes : List ℕ) → PerhapsExponent bytes (unwrap_or (exponent_at bytes) bytes)
perhaps_sound bytes = perhaps_by bytes (exponent_at bytes) refl

pub perhaps_complete : (bytes rest : List ℕ) → PerhapsExponent bytes rest → unwrap_or (exponent_at bytes) bytes ≡ rest
perhaps_complete bytes rest (scaled {bytes = same} x) = ap (λ (o : Option (List ℕ)). unwrap_or o same) (exponent_complete same rest x)
perhaps_complete bytes rest (unscaled {bytes = same} none) =
    elim (cases_Option (exponent_at same)) [
      | inl h ↦ absurd (none h.0 (exponent_sound same h.0 h.1))
      | inr h ↦ ap (λ (o : Option (List ℕ)). unwrap_or o same) h
    ]

-- ---- numbers

-- what number_at gives at an integer
pub integer_complete : (bytes unsigned digits rest : List ℕ) (d : ℕ) (negative : Bool) → Sign bytes negative unsigned → Run is_ascii_digit unsigned (d ∷ digits) rest → ((r : List ℕ) → Fraction rest r → ⊥)
    → number_at bytes ≡ (integer_of negative (decimal_value (d ∷ digits)) >>= λ n. Ok (lexemes.Integer n, rest))
unfolding number_at
integer_complete bytes unsigned digits rest d negative s r none =
    rw (sign_complete bytes unsigned digits rest d negative s r, digits_complete unsigned digits rest d r, no_fraction rest none) refl

pub float_complete : (bytes unsigned digits behind_digits behind_fraction rest : List ℕ) (d : ℕ) (negative : Bool) → Sign bytes negative unsigned → Run is_ascii_digit unsigned (d ∷ digits) behind_digits → Fraction behind_digits behind_fraction → PerhapsExponent behind_fraction rest
    → number_at bytes ≡ Ok (lexemes.Float, rest)
unfolding number_at
float_complete bytes unsigned digits behind_digits behind_fraction rest d negative s r f x =
    rw (sign_complete bytes unsigned digits behind_digits d negative s r, digits_complete unsigned digits behind_digits d r, fraction_complete behind_digits behind_fraction f) (ap (λ (t : List ℕ). Ok (lexemes.Float, t)) (perhaps_complete behind_fraction rest x))

-- What was read is there: a token in range; or an integer of more bits.
abbrev pub IsRead : List ℕ → Result (Shape × List ℕ) TokenError → Type 0
IsRead bytes (Ok x) = TokenAt bytes x.0 x.1 × (in_range false x.0 ≡ true)
IsRead bytes (Err errors.OutOfRange) = (n : ℤ) × (rest : List ℕ) × TokenAt bytes (lexemes.Integer n) rest × (has_64_bits n ≡ false)
IsRead bytes (Err errors.NoToken) = Unit {0}
IsRead bytes (Err errors.Memory) = Unit {0}

integer_by : (bytes rest : List ℕ) (n : ℤ) (b : Bool) → has_64_bits n ≡ b → TokenAt bytes (lexemes.Integer n) rest → IsRead bytes (cond b (Ok n) (Err errors.OutOfRange) >>= λ m. Ok (lexemes.Integer m, rest))
integer_by bytes rest n true e t = (t, e)
integer_by bytes rest n false e t = (n, rest, t, e)

number_by_sound : (bytes unsigned : List ℕ) (negative : Bool) (d : ℕ) (digits rest : List ℕ) (o : Option (List ℕ)) → Sign bytes negative unsigned → Run is_ascii_digit unsigned (d ∷ digits) rest → fraction_at rest ≡ o → IsRead bytes (number_by negative (d ∷ digits) rest o)
unfolding integer_of
number_by_sound bytes unsigned negative d digits rest None s r e =
    let n = signed negative (decimal_value (d ∷ digits)) in
    integer_by bytes rest n (has_64_bits n) refl (spells_integer s r (fraction_none rest e))
number_by_sound bytes unsigned negative d digits rest (Some after) s r e = (spells_float s r (fraction_sound rest after e) (perhaps_sound after), refl)

number_from_sound : (bytes unsigned : List ℕ) (negative : Bool) (o : Option (List ℕ × List ℕ)) → Sign bytes negative unsigned → digits_at unsigned ≡ o → IsRead bytes (number_from negative o)
number_from_sound bytes unsigned negative None s e = tt
number_from_sound bytes unsigned negative (Some x) s e =
    let d = digits_sound unsigned x e in
    subst (λ (front : List ℕ). IsRead bytes (number_by negative front x.1 (fraction_at x.1))) (sym d.front_is) (number_by_sound bytes unsigned negative d.first d.others x.1 (fraction_at x.1) s d.run refl)

pub number_sound : (bytes : List ℕ) → IsRead bytes (number_at bytes)
unfolding number_at
number_sound bytes = number_from_sound bytes (sign_at bytes).1 (sign_at bytes).0 (digits_at (sign_at bytes).1) (sign_sound bytes) refl
