-- A token takes at least one byte, which is no blank and begins no comment.
use Rattle.std.proofs.Common.{◌≡◌, ◌≢◌, ℕ, ◌<◌, ◌≤◌, Bool, true, false, ◌||◌, List, ◌∷◌, ◌++◌, length, eqb, refl, sym, ap, subst, arith}
use Rattle.std.specs.Char.{is_ascii_digit, is_ascii_lowercase, is_ascii_uppercase}
use Rattle.std.proofs.lemmas.Bool.Decides.{nat_tests}
use Rattle.core_tokens.specs.declared.token.Mark.{Mark}
use Rattle.core_tokens.specs.declared.token.Mark.TheVariants as mark
use Rattle.core_tokens.specs.Piece.{Shape}
use Rattle.core_tokens.specs.TokenText.{is_blank, keyword_text, mark_text, Run, Sign, bare, plus, minus, Fraction, point, Exponent, power, PerhapsExponent, scaled, unscaled, TokenAt, spells_word, spells_mark, spells_atom, spells_variable, spells_integer, spells_float, spells_character, spells_escape, spells_text}
use Rattle.core_tokens.proofs.Runs.{run_head}
use Rattle.core_tokens.proofs.Quotes.{quoted_shorter, escape_shorter, begins_other}
use Rattle.core_tokens.proofs.TokenLaws.{keyword_head, name_head}

pub record Takes (bytes rest : List ℕ) : Type 0 where
  pub first : ℕ
  pub others : List ℕ
  pub whole : bytes ≡ first ∷ others
  pub no_blank : is_blank first ≡ false
  pub no_comment : first ≢ 37
  pub shorter : length rest ≤ length others

lower_visible : (c : ℕ) → is_ascii_lowercase c ≡ true → (is_blank c ≡ false) × (c ≢ 37)
lower_visible c h = (grind (arith, nat_tests), λ e. grind (arith, nat_tests))

upper_visible : (c : ℕ) → (is_ascii_uppercase c || eqb c 95) ≡ true → (is_blank c ≡ false) × (c ≢ 37)
upper_visible c h = (grind (arith, nat_tests), λ e. grind (arith, nat_tests))

digit_visible : (c : ℕ) → is_ascii_digit c ≡ true → (is_blank c ≡ false) × (c ≢ 37)
digit_visible c h = (grind (arith, nat_tests), λ e. grind (arith, nat_tests))

-- a mark's text
mark_takes : (m : Mark) (rest : List ℕ) → Takes (mark_text m ++ rest) rest
mark_takes mark.LeftParenthesis rest = record { first = 40; others = rest; whole = refl; no_blank = refl; no_comment = λ e. omega arith; shorter = omega arith }
mark_takes mark.RightParenthesis rest = record { first = 41; others = rest; whole = refl; no_blank = refl; no_comment = λ e. omega arith; shorter = omega arith }
mark_takes mark.LeftBracket rest = record { first = 91; others = rest; whole = refl; no_blank = refl; no_comment = λ e. omega arith; shorter = omega arith }
mark_takes mark.RightBracket rest = record { first = 93; others = rest; whole = refl; no_blank = refl; no_comment = λ e. omega arith; shorter = omega arith }
mark_takes mark.LeftBrace rest = record { first = 123; others = rest; whole = refl; no_blank = refl; no_comment = λ e. omega arith; shorter = omega arith }
mark_takes mark.RightBrace rest = record { first = 125; others = rest; whole = refl; no_blank = refl; no_comment = λ e. omega arith; shorter = omega arith }
mark_takes mark.Less rest = record { first = 60; others = rest; whole = refl; no_blank = refl; no_comment = λ e. omega arith; shorter = omega arith }
mark_takes mark.Greater rest = record { first = 62; others = rest; whole = refl; no_blank = refl; no_comment = λ e. omega arith; shorter = omega arith }
mark_takes mark.Comma rest = record { first = 44; others = rest; whole = refl; no_blank = refl; no_comment = λ e. omega arith; shorter = omega arith }
mark_takes mark.Bar rest = record { first = 124; others = rest; whole = refl; no_blank = refl; no_comment = λ e. omega arith; shorter = omega arith }
mark_takes mark.Equals rest = record { first = 61; others = rest; whole = refl; no_blank = refl; no_comment = λ e. omega arith; shorter = omega arith }
mark_takes mark.Slash rest = record { first = 47; others = rest; whole = refl; no_blank = refl; no_comment = λ e. omega arith; shorter = omega arith }
mark_takes mark.Colon rest = record { first = 58; others = rest; whole = refl; no_blank = refl; no_comment = λ e. omega arith; shorter = omega arith }
mark_takes mark.Arrow rest = record { first = 45; others = 62 ∷ rest; whole = refl; no_blank = refl; no_comment = λ e. omega arith; shorter = omega arith }
mark_takes mark.Note rest = record { first = 45; others = 124 ∷ rest; whole = refl; no_blank = refl; no_comment = λ e. omega arith; shorter = omega arith }
mark_takes mark.Hash rest = record { first = 35; others = rest; whole = refl; no_blank = refl; no_comment = λ e. omega arith; shorter = omega arith }
mark_takes mark.Tilde rest = record { first = 126; others = rest; whole = refl; no_blank = refl; no_comment = λ e. omega arith; shorter = omega arith }

sign_takes : (bytes unsigned digits rest : List ℕ) (d : ℕ) (negative : Bool) → Sign bytes negative unsigned → Run is_ascii_digit unsigned (d ∷ digits) rest → Takes bytes rest
sign_takes bytes unsigned digits rest d negative (bare {bytes = same}) r =
    let h = run_head is_ascii_digit same (d ∷ digits) rest r d digits refl in
    let v = digit_visible d h.2 in
    record { first = d; others = h.0; whole = h.1; no_blank = v.0; no_comment = v.1; shorter = h.3 }
sign_takes bytes unsigned digits rest d negative (plus {bytes = same}) r =
    let h = run_head is_ascii_digit same (d ∷ digits) rest r d digits refl in
    record { first = 43; others = same; whole = refl; no_blank = refl; no_comment = λ e. omega arith; shorter = omega (arith, ap length h.1, h.3) }
sign_takes bytes unsigned digits rest d negative (minus {bytes = same}) r =
    let h = run_head is_ascii_digit same (d ∷ digits) rest r d digits refl in
    record { first = 45; others = same; whole = refl; no_blank = refl; no_comment = λ e. omega arith; shorter = omega (arith, ap length h.1, h.3) }

fraction_shorter : (bytes rest : List ℕ) → Fraction bytes rest → length rest ≤ length bytes
fraction_shorter bytes rest (point {bytes = same} {digits} {d} r) =
    let h = run_head is_ascii_digit same (d ∷ digits) rest r d digits refl in
    omega (arith, ap length h.1, h.3)

exponent_shorter : (bytes rest : List ℕ) → Exponent bytes rest → length rest ≤ length bytes
exponent_shorter bytes rest (power {bytes = same} {unsigned} {digits} {c} {d} {negative} e s r) =
    let t = sign_takes same unsigned digits rest d negative s r in
    omega (arith, ap length t.whole, t.shorter)

perhaps_shorter : (bytes rest : List ℕ) → PerhapsExponent bytes rest → length rest ≤ length bytes
perhaps_shorter bytes rest (scaled {bytes = same} x) = exponent_shorter same rest x
perhaps_shorter bytes rest (unscaled {bytes = same} none) = omega arith

quote_takes : (q : ℕ) (bytes rest : List ℕ) → is_blank q ≡ false → q ≢ 37 → length rest ≤ length bytes → Takes (q ∷ bytes) rest
quote_takes q bytes rest b p le = record { first = q; others = bytes; whole = refl; no_blank = b; no_comment = p; shorter = le }

less : {m n : ℕ} → m < n → m ≤ n
less h = omega arith

pub token_takes : (bytes rest : List ℕ) (s : Shape) → TokenAt bytes s rest → Takes bytes rest
token_takes bytes rest s (spells_word {bytes = whole} {rest = same} {k} r) =
    let head = keyword_head k in
    let h = run_head is_ascii_lowercase whole (keyword_text k) same r head.first head.others head.whole in
    let v = lower_visible head.first h.2 in
    record { first = head.first; others = h.0; whole = h.1; no_blank = v.0; no_comment = v.1; shorter = h.3 }
token_takes bytes rest s (spells_mark {bytes = whole} {rest = same} {m} e) = subst (λ (b : List ℕ). Takes b same) (sym e) (mark_takes m same)
token_takes bytes rest s (spells_atom {bytes = whole} {characters} {rest = same} q) = quote_takes 39 whole same refl (λ e. omega arith) (less (quoted_shorter 39 (omega arith) whole characters same q))
token_takes bytes rest s (spells_variable {bytes = whole} {name} {rest = same} r n) =
    let head = name_head name n in
    let h = run_head _ whole name same r head.first head.others head.whole in
    let v = upper_visible head.first head.has in
    record { first = head.first; others = h.0; whole = h.1; no_blank = v.0; no_comment = v.1; shorter = h.3 }
token_takes bytes rest s (spells_integer {bytes = whole} {unsigned} {digits} {rest = same} {d} {negative} g r none) = sign_takes whole unsigned digits same d negative g r
token_takes bytes rest s (spells_float {bytes = whole} {unsigned} {digits} {behind_digits} {behind_fraction} {rest = same} {d} {negative} g r f x) =
    let t = sign_takes whole unsigned digits behind_digits d negative g r in
    record { first = t.first; others = t.others; whole = t.whole; no_blank = t.no_blank; no_comment = t.no_comment; shorter = omega (arith, t.shorter, fraction_shorter behind_digits behind_fraction f, perhaps_shorter behind_fraction same x) }
token_takes bytes rest s (spells_character {bytes = whole} {rest = same} {c} f n) =
    let b = begins_other whole same c 92 f n (omega arith) in
    quote_takes 36 whole same refl (λ e. omega arith) (omega (arith, ap length b.whole, b.shorter))
token_takes bytes rest s (spells_escape {bytes = whole} {rest = same} {c} x) = quote_takes 36 (92 ∷ whole) same refl (λ e. omega arith) (omega (arith, escape_shorter whole same c x))
token_takes bytes rest s (spells_text {bytes = whole} {characters} {rest = same} q) = quote_takes 34 whole same refl (λ e. omega arith) (less (quoted_shorter 34 (omega arith) whole characters same q))
