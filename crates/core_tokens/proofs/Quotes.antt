-- Characters, escapes and what is between quotes are read as they are spelt.
use Rattle.std.proofs.Common.{◌≡◌, ◌≢◌, ℕ, zero, suc, ◌+◌, ◌-◌, ◌*◌, ◌/◌, ◌%◌, ◌<◌, ◌≤◌, min, true, false, ltb, inl, inr, List, [], ◌∷◌, ◌++◌, length, take, drop, get_or, Option, Some, None, Result, Ok, eqb, refl, sym, ap, subst, ◌∙◌, arith}
use Rattle.std.specs.Prelude.{encode_utf8, encode_utf8_all}
use Rattle.std.specs.Char.{IsScalar}
use Rattle.std.specs.Option.{ok_or}
use Rattle.std.specs.Str.{is_utf8, chars, continuation_len}
use Rattle.std.proofs.lemmas.Bool.{eqb-true, ne_eqb, eq-eqb, lt-ltb, le-ltb, cases_lt, and_parts}
use Rattle.std.proofs.lemmas.Bool.Decides.{nat_tests}
use Rattle.std.proofs.lemmas.List.{append-nil, take_at, drop_at, length-append, take-append-drop}
use Rattle.std.proofs.lemmas.Str.{encodes-chars, scalars-chars, IsUtf8-from_is_utf8, is_utf8-from_IsUtf8, IsUtf8-encode, chars-encodes, char_from_byte}
use lib.Utf8.{encode}
use Rattle.core_tokens.specs.declared.lexer.trouble.TokenError.{TokenError}
use Rattle.core_tokens.specs.declared.lexer.trouble.TokenError.TheVariants as errors
use Rattle.core_tokens.specs.TokenText.{is_octal, StopsAt, FirstCharacter, escape_of, Octal, one_digit, two_digits, three_digits, Escape, lettered, numbered, stands_raw, Quoted, closes, stands, escapes}
use Rattle.core_tokens.specs.inside.Lexing.{◌>>=◌, only_of, only_character, character_at, octal_digit_at, with_digit, longer_octal, octal_at, escape_by, escape_at, raw_only, unit_at, behind_quote_at, quoted_by, quoted_in}
use Rattle.core_tokens.proofs.Basics.{bind_ok, ok_is, ok_or_ok, some_is, map_some, chosen, guard_some}

-- ---- characters

only_of_some : (cs : List ℕ) (c : ℕ) → only_of cs ≡ Some c → cs ≡ c ∷ []
only_of_some [] c e = absurd cc
only_of_some (d ∷ []) c e = ap (λ (x : ℕ). x ∷ []) (some_is d c e)
only_of_some (d ∷ f ∷ cs) c e = absurd cc

-- the front is one character
pub record IsCharacter (bytes : List ℕ) (c : ℕ) : Type 0 where
  pub scalar : IsScalar c
  pub whole : bytes ≡ encode_utf8 c

only_sound : (bytes : List ℕ) (c : ℕ) → only_character bytes ≡ Some c → IsCharacter bytes c
unfolding only_character
only_sound bytes c e =
    elim (chosen (is_utf8 bytes) (only_of (chars bytes)) None (Some c) e) [
      | inl h ↦
          let utf8 = IsUtf8-from_is_utf8 bytes h.0 in
          let one = only_of_some (chars bytes) c h.1 in
          record {
            scalar = (and_parts _ _ (rw one at (scalars-chars bytes utf8))).0;
            whole = sym (encodes-chars bytes utf8) ∙ ap encode_utf8_all one ∙ append-nil (encode_utf8 c);
          }
      | inr h ↦ absurd (let f = h.1 in cc)
    ]

pub character_sound : (bytes : List ℕ) (x : ℕ × List ℕ) → character_at bytes ≡ Some x → FirstCharacter bytes x.0 x.1
unfolding character_at
character_sound [] x e = absurd cc
character_sound (b ∷ bytes) x e =
    let len = min (continuation_len b + 1) (length (b ∷ bytes)) in
    let c = map_some (λ (c : ℕ). (c, drop len (b ∷ bytes))) (only_character (take len (b ∷ bytes))) x e in
    let is = only_sound (take len (b ∷ bytes)) c.0 c.1 in
    rw (← c.2) (record { scalar = is.scalar; whole = sym (take-append-drop len (b ∷ bytes)) ∙ ap (λ (t : List ℕ). t ++ drop len (b ∷ bytes)) is.whole })

-- the first byte of a character says how many follow
pub record Leads (c : ℕ) : Type 0 where
  pub first : ℕ
  pub others : List ℕ
  pub whole : encode_utf8 c ≡ first ∷ others
  pub count : continuation_len first + 1 ≡ length (encode_utf8 c)

leads_alone : (c : ℕ) → c < 128 → Leads c
unfolding encode
leads_alone c lt =
    let t : ltb c 128 ≡ true = lt-ltb c 128 lt in
    record { first = c; others = []; whole = rw t refl; count = rw t refl }

leads_one : (c : ℕ) → 128 ≤ c → c < 2048 → Leads c
unfolding encode
leads_one c ge lt =
    let t1 : ltb c 128 ≡ false = le-ltb c 128 ge in
    let t2 : ltb c 2048 ≡ true = lt-ltb c 2048 lt in
    let high : c / 64 < 32 = omega arith in
    let f1 : ltb (192 + c / 64) 128 ≡ false = le-ltb _ _ (omega arith) in
    let f2 : ltb (192 + c / 64) 224 ≡ true = lt-ltb _ _ (omega arith) in
    record { first = 192 + c / 64; others = (128 + c % 64) ∷ []; whole = rw (t1, t2) refl; count = rw (f1, f2, t1, t2) refl }

leads_two : (c : ℕ) → 2048 ≤ c → c < 65536 → Leads c
unfolding encode
leads_two c ge lt =
    let t1 : ltb c 128 ≡ false = le-ltb c 128 (omega arith) in
    let t2 : ltb c 2048 ≡ false = le-ltb c 2048 ge in
    let t3 : ltb c 65536 ≡ true = lt-ltb c 65536 lt in
    let high : c / 4096 < 16 = omega arith in
    let f1 : ltb (224 + c / 4096) 128 ≡ false = le-ltb _ _ (omega arith) in
    let f2 : ltb (224 + c / 4096) 224 ≡ false = le-ltb _ _ (omega arith) in
    let f3 : ltb (224 + c / 4096) 240 ≡ true = lt-ltb _ _ (omega arith) in
    record { first = 224 + c / 4096; others = (128 + (c / 64) % 64) ∷ (128 + c % 64) ∷ []; whole = rw (t1, t2, t3) refl; count = rw (f1, f2, f3, t1, t2, t3) refl }

leads_three : (c : ℕ) → 65536 ≤ c → Leads c
unfolding encode
leads_three c ge =
    let t1 : ltb c 128 ≡ false = le-ltb c 128 (omega arith) in
    let t2 : ltb c 2048 ≡ false = le-ltb c 2048 (omega arith) in
    let t3 : ltb c 65536 ≡ false = le-ltb c 65536 ge in
    let f1 : ltb (240 + c / 262144) 128 ≡ false = le-ltb _ _ (omega arith) in
    let f2 : ltb (240 + c / 262144) 224 ≡ false = le-ltb _ _ (omega arith) in
    let f3 : ltb (240 + c / 262144) 240 ≡ false = le-ltb _ _ (omega arith) in
    record { first = 240 + c / 262144; others = (128 + (c / 4096) % 64) ∷ (128 + (c / 64) % 64) ∷ (128 + c % 64) ∷ []; whole = rw (t1, t2, t3) refl; count = rw (f1, f2, f3, t1, t2, t3) refl }

pub leads : (c : ℕ) → Leads c
leads c =
    elim (cases_lt c 128) [
      | inl lt ↦ leads_alone c lt
      | inr ge ↦ elim (cases_lt c 2048) [
        | inl lt ↦ leads_one c ge lt
        | inr ge2 ↦ elim (cases_lt c 65536) [ inl lt ↦ leads_two c ge2 lt | inr ge3 ↦ leads_three c ge3 ]
      ]
    ]

only_complete : (c : ℕ) → IsScalar c → only_character (encode_utf8 c) ≡ Some c
unfolding only_character
only_complete c h =
    let alone : chars (encode_utf8 c) ≡ c ∷ [] = ap chars (sym (append-nil (encode_utf8 c))) ∙ chars-encodes (c ∷ []) (rw h refl) in
    rw (is_utf8-from_IsUtf8 (encode_utf8 c) (IsUtf8-encode c h), alone) refl

character_front : (b : ℕ) (bytes rest : List ℕ) (c : ℕ) → only_character (b ∷ bytes) ≡ Some c → continuation_len b + 1 ≡ length (b ∷ bytes) → character_at (b ∷ (bytes ++ rest)) ≡ Some (c, rest)
unfolding character_at
character_front b bytes rest c only count =
    let len : min (continuation_len b + 1) (length (b ∷ (bytes ++ rest))) ≡ length (b ∷ bytes) = omega (arith, length-append bytes rest) in
    rw (len, take_at (b ∷ bytes) rest (length (b ∷ bytes)) refl, drop_at (b ∷ bytes) rest (length (b ∷ bytes)) refl, only) refl

pub character_complete : (bytes rest : List ℕ) (c : ℕ) → FirstCharacter bytes c rest → character_at bytes ≡ Some (c, rest)
character_complete bytes rest c f =
    let l = leads c in
    let whole : bytes ≡ l.first ∷ (l.others ++ rest) = f.whole ∙ ap (λ (t : List ℕ). t ++ rest) l.whole in
    rw whole (character_front l.first l.others rest c (ap only_character (sym l.whole) ∙ only_complete c f.scalar) (l.count ∙ ap length l.whole))

-- the first byte of a character is no ASCII byte but the character itself
pub record BeginsOther (bytes : List ℕ) (q : ℕ) (rest : List ℕ) : Type 0 where
  pub first : ℕ
  pub others : List ℕ
  pub whole : bytes ≡ first ∷ others
  pub other : first ≢ q
  pub shorter : length rest ≤ length others

pub begins_other : (bytes rest : List ℕ) (c q : ℕ) → FirstCharacter bytes c rest → c ≢ q → q < 128 → BeginsOther bytes q rest
begins_other bytes rest c q f differs low =
    let l = leads c in
    let whole : bytes ≡ l.first ∷ (l.others ++ rest) = f.whole ∙ ap (λ (t : List ℕ). t ++ rest) l.whole in
    let head : get_or bytes 0 0 ≡ l.first = ap (λ (t : List ℕ). get_or t 0 0) whole in
    let long = ap length whole in
    record {
      first = l.first;
      others = l.others ++ rest;
      whole = whole;
      other = λ e. differs (char_from_byte bytes rest c f.whole (omega arith) (omega arith) ∙ head ∙ e);
      shorter = omega (arith, length-append l.others rest);
    }

-- ---- escapes

pub record OctalDigit (bytes : List ℕ) (x : ℕ × List ℕ) : Type 0 where
  pub digit : ℕ
  pub whole : bytes ≡ digit ∷ x.1
  pub octal : is_octal digit ≡ true
  pub value : x.0 ≡ digit - 48

digit_sound : (bytes : List ℕ) (x : ℕ × List ℕ) → octal_digit_at bytes ≡ Some x → OctalDigit bytes x
unfolding octal_digit_at
digit_sound [] x e = absurd cc
digit_sound (c ∷ bytes) x e =
    let g = guard_some (is_octal c) (c - 48, bytes) x e in
    subst (λ (y : ℕ × List ℕ). OctalDigit (c ∷ bytes) y) g.1 (record { digit = c; whole = refl; octal = g.0; value = refl })

digit_none : (bytes : List ℕ) → octal_digit_at bytes ≡ None → StopsAt is_octal bytes
unfolding octal_digit_at
digit_none [] e = tt
digit_none (c ∷ bytes) e =
    elim (chosen (is_octal c) (Some (c - 48, bytes)) None None e) [ inl h ↦ absurd (let f = h.1 in cc) | inr h ↦ h.0 ]

stops_none : (bytes : List ℕ) → StopsAt is_octal bytes → octal_digit_at bytes ≡ None
unfolding octal_digit_at
stops_none [] h = refl
stops_none (c ∷ bytes) h = rw h refl

third_made : (a b c v : ℕ) (bytes rest : List ℕ) → bytes ≡ c ∷ rest → v ≡ c - 48 → is_octal a ≡ true → is_octal b ≡ true → is_octal c ≡ true → Octal (a ∷ b ∷ bytes) (8 * (8 * (a - 48) + (b - 48)) + v) rest
third_made a b c v bytes rest w e ha hb hc = rw (w, e) (three_digits ha hb hc)

third_sound : (a b : ℕ) (bytes : List ℕ) (o : Option (ℕ × List ℕ)) → is_octal a ≡ true → is_octal b ≡ true → octal_digit_at bytes ≡ o
    → let x = with_digit (8 * (a - 48) + (b - 48)) bytes o in Octal (a ∷ b ∷ bytes) x.0 x.1
third_sound a b bytes None ha hb e = two_digits ha hb (digit_none bytes e)
third_sound a b bytes (Some x) ha hb e =
    let d = digit_sound bytes x e in
    third_made a b d.digit x.0 bytes x.1 d.whole d.value ha hb d.octal

second_made : (a b v : ℕ) (bytes rest : List ℕ) → bytes ≡ b ∷ rest → v ≡ b - 48 → is_octal a ≡ true → is_octal b ≡ true → let y = longer_octal (8 * (a - 48) + v) rest in Octal (a ∷ bytes) y.0 y.1
unfolding longer_octal
second_made a b v bytes rest w e ha hb = rw (w, e) (third_sound a b rest (octal_digit_at rest) ha hb refl)

second_sound : (a : ℕ) (bytes : List ℕ) (o : Option (ℕ × List ℕ)) → is_octal a ≡ true → octal_digit_at bytes ≡ o
    → let x = with_digit (a - 48) bytes o in let y = longer_octal x.0 x.1 in Octal (a ∷ bytes) y.0 y.1
unfolding longer_octal
second_sound a bytes None ha e = rw e (one_digit ha (digit_none bytes e))
second_sound a bytes (Some x) ha e =
    let d = digit_sound bytes x e in
    second_made a d.digit x.0 bytes x.1 d.whole d.value ha d.octal

first_made : (a v : ℕ) (bytes rest : List ℕ) → bytes ≡ a ∷ rest → v ≡ a - 48 → is_octal a ≡ true → let b = longer_octal v rest in let c = longer_octal b.0 b.1 in Octal bytes c.0 c.1
unfolding longer_octal
first_made a v bytes rest w e ha = rw (w, e) (second_sound a rest (octal_digit_at rest) ha refl)

pub octal_sound : (bytes : List ℕ) (x : ℕ × List ℕ) → octal_at bytes ≡ Some x → Octal bytes x.0 x.1
unfolding octal_at
octal_sound bytes x e =
    let a = map_some (λ (a : ℕ × List ℕ). let b = longer_octal a.0 a.1 in longer_octal b.0 b.1) (octal_digit_at bytes) x e in
    let d = digit_sound bytes a.0 a.1 in
    subst (λ (y : ℕ × List ℕ). Octal bytes y.0 y.1) a.2 (first_made d.digit a.0.0 bytes a.0.1 d.whole d.value d.octal)

pub octal_complete : (bytes rest : List ℕ) (n : ℕ) → Octal bytes n rest → octal_at bytes ≡ Some (n, rest)
unfolding octal_at longer_octal octal_digit_at
octal_complete bytes rest n (one_digit {rest = same} {a} ha h) = rw (ha, stops_none same h, stops_none same h) refl
octal_complete bytes rest n (two_digits {rest = same} {a} {b} ha hb h) = rw (ha, hb, stops_none same h) refl
octal_complete bytes rest n (three_digits {rest = same} {a} {b} {c} ha hb hc) = rw (ha, hb, hc) refl

-- an octal digit has no other meaning after a backslash
pub record OctalHead (bytes rest : List ℕ) : Type 0 where
  pub first : ℕ
  pub others : List ℕ
  pub whole : bytes ≡ first ∷ others
  pub octal : is_octal first ≡ true
  pub shorter : length rest < length bytes

octal_head : (bytes rest : List ℕ) (n : ℕ) → Octal bytes n rest → OctalHead bytes rest
octal_head bytes rest n (one_digit {rest = same} {a} ha h) = record { first = a; others = same; whole = refl; octal = ha; shorter = omega arith }
octal_head bytes rest n (two_digits {rest = same} {a} {b} ha hb h) = record { first = a; others = b ∷ same; whole = refl; octal = ha; shorter = omega arith }
octal_head bytes rest n (three_digits {rest = same} {a} {b} {c} ha hb hc) = record { first = a; others = b ∷ c ∷ same; whole = refl; octal = ha; shorter = omega arith }

octal_bounds : (c : ℕ) → is_octal c ≡ true → (48 ≤ c) × (c ≤ 55)
octal_bounds c h = (grind (arith, nat_tests), grind (arith, nat_tests))

no_letter : (c : ℕ) → is_octal c ≡ true → escape_of c ≡ None
no_letter c h =
    let b = octal_bounds c h in
    rw (ne_eqb c 98 (λ e. omega arith), ne_eqb c 100 (λ e. omega arith), ne_eqb c 101 (λ e. omega arith), ne_eqb c 102 (λ e. omega arith), ne_eqb c 110 (λ e. omega arith), ne_eqb c 114 (λ e. omega arith), ne_eqb c 115 (λ e. omega arith), ne_eqb c 116 (λ e. omega arith), ne_eqb c 118 (λ e. omega arith), ne_eqb c 92 (λ e. omega arith), ne_eqb c 39 (λ e. omega arith), ne_eqb c 34 (λ e. omega arith)) refl

escape_by_sound : (c : ℕ) (bytes : List ℕ) (o : Option ℕ) (x : ℕ × List ℕ) → escape_of c ≡ o → escape_by o (c ∷ bytes) bytes ≡ Some x → Escape (c ∷ bytes) x.0 x.1
escape_by_sound c bytes None x h e = numbered (octal_sound (c ∷ bytes) x e)
escape_by_sound c bytes (Some v) x h e = subst (λ (y : ℕ × List ℕ). Escape (c ∷ bytes) y.0 y.1) (some_is (v, bytes) x e) (lettered h)

pub escape_sound : (bytes : List ℕ) (x : ℕ × List ℕ) → escape_at bytes ≡ Some x → Escape bytes x.0 x.1
unfolding escape_at
escape_sound [] x e = absurd cc
escape_sound (c ∷ bytes) x e = escape_by_sound c bytes (escape_of c) x refl e

numbered_complete : (bytes whole rest : List ℕ) (c v : ℕ) → is_octal c ≡ true → whole ≡ c ∷ bytes → octal_at whole ≡ Some (v, rest) → escape_at whole ≡ Some (v, rest)
unfolding escape_at
numbered_complete bytes whole rest c v h w e =
    subst (λ (t : List ℕ). escape_at t ≡ Some (v, rest)) (sym w) (rw (no_letter c h) (ap octal_at (sym w) ∙ e))

pub escape_complete : (bytes rest : List ℕ) (c : ℕ) → Escape bytes c rest → escape_at bytes ≡ Some (c, rest)
unfolding escape_at
escape_complete bytes rest v (lettered {rest = same} {c} {e} h) = rw h refl
escape_complete bytes rest v (numbered {bytes = whole} {rest = same} {e} o) =
    let head = octal_head whole same e o in
    numbered_complete head.others whole same head.first e head.octal head.whole (octal_complete whole same e o)

pub escape_shorter : (bytes rest : List ℕ) (c : ℕ) → Escape bytes c rest → length rest < length bytes
escape_shorter bytes rest v (lettered {rest = same} {c} {e} h) = omega arith
escape_shorter bytes rest v (numbered {bytes = whole} {rest = same} {e} o) = (octal_head whole same e o).shorter

-- ---- between quotes

raw_sound : (quote : ℕ) (bytes : List ℕ) (o : Option (ℕ × List ℕ)) (u : ℕ × List ℕ) (cs rest : List ℕ) → character_at bytes ≡ o → raw_only quote o ≡ Some u → Quoted quote u.1 cs rest → Quoted quote bytes (u.0 ∷ cs) rest
raw_sound quote bytes None u cs rest h e q = absurd cc
raw_sound quote bytes (Some x) u cs rest h e q =
    let g = guard_some (stands_raw quote x.0) x u e in
    let same = g.1 in
    let f = character_sound bytes x h in
    subst (λ (y : ℕ × List ℕ). Quoted quote y.1 cs rest → Quoted quote bytes (y.0 ∷ cs) rest) same (λ (p : Quoted quote x.1 cs rest). stands f g.0 p) q

pub unit_sound : (quote : ℕ) (bytes : List ℕ) (u : ℕ × List ℕ) (cs rest : List ℕ) → unit_at quote bytes ≡ Some u → Quoted quote u.1 cs rest → Quoted quote bytes (u.0 ∷ cs) rest
unfolding unit_at
unit_sound quote [] u cs rest e q = absurd cc
unit_sound quote (c ∷ bytes) u cs rest e q =
    elim (chosen (eqb c 92) (escape_at bytes) (raw_only quote (character_at (c ∷ bytes))) (Some u) e) [
      | inl h ↦ subst (λ (x : ℕ). Quoted quote (x ∷ bytes) (u.0 ∷ cs) rest) (sym (eqb-true c 92 h.0)) (escapes (escape_sound bytes u h.1) q)
      | inr h ↦ raw_sound quote (c ∷ bytes) (character_at (c ∷ bytes)) u cs rest refl h.1 q
    ]

closing_sound : (quote : ℕ) (bytes after : List ℕ) → behind_quote_at quote bytes ≡ Some after → bytes ≡ quote ∷ after
unfolding behind_quote_at
closing_sound quote [] after e = absurd cc
closing_sound quote (c ∷ bytes) after e =
    let g = guard_some (eqb c quote) bytes after e in
    rw (eqb-true c quote g.0, g.1) refl

abbrev IsQuotedRead : ℕ → List ℕ → Result (List ℕ × List ℕ) TokenError → Type 0
IsQuotedRead quote bytes r = (q : List ℕ × List ℕ) → r ≡ Ok q → Quoted quote bytes q.0 q.1

quoted_by_sound : (n quote : ℕ) (bytes : List ℕ) (o : Option (List ℕ)) → behind_quote_at quote bytes ≡ o → ((after : List ℕ) → IsQuotedRead quote after (quoted_in n quote after)) → IsQuotedRead quote bytes (quoted_by (unit_at quote bytes) (quoted_in n quote) o)
quoted_by_sound n quote bytes (Some after) h more q e = rw (closing_sound quote bytes after h) (subst (λ (x : List ℕ × List ℕ). Quoted quote (quote ∷ after) x.0 x.1) (ok_is ([], after) q e) closes)
quoted_by_sound n quote bytes None h more q e =
    let u = bind_ok (ok_or (unit_at quote bytes) errors.NoToken) (λ u. quoted_in n quote u.1 >>= λ q. Ok (u.0 ∷ q.0, q.1)) q e in
    let unit = ok_or_ok (unit_at quote bytes) errors.NoToken u.0 u.1 in
    let m = bind_ok (quoted_in n quote u.0.1) (λ q. Ok (u.0.0 ∷ q.0, q.1)) q u.2 in
    let tail = more u.0.1 m.0 m.1 in
    subst (λ (x : List ℕ × List ℕ). Quoted quote bytes x.0 x.1) (ok_is (u.0.0 ∷ m.0.0, m.0.1) q m.2) (unit_sound quote bytes u.0 m.0.0 m.0.1 unit tail)

pub quoted_sound : (n quote : ℕ) (bytes : List ℕ) → IsQuotedRead quote bytes (quoted_in n quote bytes)
unfolding quoted_in
quoted_sound zero quote bytes q e = absurd cc
quoted_sound (suc n) quote bytes q e = quoted_by_sound n quote bytes (behind_quote_at quote bytes) refl (λ after. quoted_sound n quote after) q e

-- a raw character is no quote and no backslash
raw_parts : (quote c : ℕ) → stands_raw quote c ≡ true → (c ≢ quote) × (c ≢ 92)
raw_parts quote c h = (grind (arith, nat_tests), grind (arith, nat_tests))

not_closing : (quote c : ℕ) (bytes : List ℕ) → c ≢ quote → behind_quote_at quote (c ∷ bytes) ≡ None
unfolding behind_quote_at
not_closing quote c bytes h = rw (ne_eqb c quote h) refl

closing : (quote : ℕ) (bytes : List ℕ) → behind_quote_at quote (quote ∷ bytes) ≡ Some bytes
unfolding behind_quote_at
closing quote bytes = rw (eq-eqb quote quote refl) refl

raw_unit : (quote c b : ℕ) (bytes more : List ℕ) → b ≢ 92 → character_at (b ∷ bytes) ≡ Some (c, more) → stands_raw quote c ≡ true → unit_at quote (b ∷ bytes) ≡ Some (c, more)
unfolding unit_at
raw_unit quote c b bytes more other e raw = rw (ne_eqb b 92 other, e, raw) refl

escaped_unit : (quote : ℕ) (bytes : List ℕ) → unit_at quote (92 ∷ bytes) ≡ escape_at bytes
unfolding unit_at
escaped_unit quote bytes = refl

-- one step of quoted_in
step : (n quote c : ℕ) (bytes more cs rest : List ℕ) → behind_quote_at quote bytes ≡ None → unit_at quote bytes ≡ Some (c, more) → quoted_in n quote more ≡ Ok (cs, rest) → quoted_in (suc n) quote bytes ≡ Ok (c ∷ cs, rest)
unfolding quoted_in
step n quote c bytes more cs rest not_closed unit tail = rw (not_closed, unit, tail) refl

last_step : (n quote : ℕ) (rest : List ℕ) → quoted_in (suc n) quote (quote ∷ rest) ≡ Ok ([], rest)
unfolding quoted_in
last_step n quote rest = rw (closing quote rest) refl

raw_step : (n quote c : ℕ) (bytes more cs rest : List ℕ) → quote < 128 → FirstCharacter bytes c more → stands_raw quote c ≡ true → quoted_in n quote more ≡ Ok (cs, rest) → quoted_in (suc n) quote bytes ≡ Ok (c ∷ cs, rest)
raw_step n quote c bytes more cs rest low f raw tail =
    let apart = raw_parts quote c raw in
    let b = begins_other bytes more c quote f apart.0 low in
    let d = begins_other bytes more c 92 f apart.1 (omega arith) in
    let found : character_at (d.first ∷ d.others) ≡ Some (c, more) = ap character_at (sym d.whole) ∙ character_complete bytes more c f in
    step n quote c bytes more cs rest
    (ap (behind_quote_at quote) b.whole ∙ not_closing quote b.first b.others b.other)
    (ap (unit_at quote) d.whole ∙ raw_unit quote c d.first d.others more d.other found raw)
    tail

pub quoted_complete : (quote : ℕ) (low : quote < 128) (other : 92 ≢ quote) (bytes cs rest : List ℕ) → Quoted quote bytes cs rest → (n : ℕ) → length bytes ≤ n → quoted_in n quote bytes ≡ Ok (cs, rest)
quoted_complete quote low other bytes cs rest (closes {rest = same}) zero le = absurd (omega arith)
quoted_complete quote low other bytes cs rest (closes {rest = same}) (suc n) le = last_step n quote same
quoted_complete quote low other bytes cs rest (stands {bytes = whole} {more} {characters} {rest = same} {c} f raw q) zero le =
    let b = begins_other whole more c quote f (raw_parts quote c raw).0 low in
    absurd (omega (arith, ap length b.whole))
quoted_complete quote low other bytes cs rest (stands {bytes = whole} {more} {characters} {rest = same} {c} f raw q) (suc n) le =
    let b = begins_other whole more c quote f (raw_parts quote c raw).0 low in
    raw_step n quote c whole more characters same low f raw (quoted_complete quote low other more characters same q n (omega (arith, ap length b.whole, b.shorter)))
quoted_complete quote low other bytes cs rest (escapes {bytes = whole} {more} {characters} {rest = same} {c} x q) zero le = absurd (omega arith)
quoted_complete quote low other bytes cs rest (escapes {bytes = whole} {more} {characters} {rest = same} {c} x q) (suc n) le =
    step n quote c (92 ∷ whole) more characters same (not_closing quote 92 whole other) (escaped_unit quote whole ∙ escape_complete whole more c x) (quoted_complete quote low other more characters same q n (omega (arith, escape_shorter whole more c x)))

pub quoted_shorter : (quote : ℕ) (low : quote < 128) (bytes cs rest : List ℕ) → Quoted quote bytes cs rest → length rest < length bytes
quoted_shorter quote low bytes cs rest (closes {rest = same}) = omega arith
quoted_shorter quote low bytes cs rest (stands {bytes = whole} {more} {characters} {rest = same} {c} f raw q) =
    let b = begins_other whole more c quote f (raw_parts quote c raw).0 low in
    omega (arith, ap length b.whole, b.shorter, quoted_shorter quote low more characters same q)
quoted_shorter quote low bytes cs rest (escapes {bytes = whole} {more} {characters} {rest = same} {c} x q) = omega (arith, escape_shorter whole more c x, quoted_shorter quote low more characters same q)
