-- A token is read as it is spelt, and what is spelt is read.
use Rattle.std.proofs.Common.{◌≡◌, ◌≢◌, ℕ, zero, suc, ◌^◌, ◌≤◌, ℤ, pos, negsuc, Bool, true, false, cond, ◌||◌, List, [], ◌∷◌, ◌++◌, length, Option, Some, None, Result, Ok, Err, eqb, refl, sym, ap, subst, ◌∙◌, arith}
use Rattle.std.specs.Prelude.{encode_utf8_all}
use Rattle.std.specs.Option.{ok_or}
use Rattle.std.specs.Char.{is_ascii_digit, is_ascii_lowercase, is_ascii_uppercase}
use Rattle.std.proofs.lemmas.Bool.{eqb-true, eqb-false, ne_eqb, lt-ltb, ltb-true, false_from_ne_true}
use Rattle.std.proofs.lemmas.Bool.Decides.{nat_tests}
use Rattle.std.proofs.lemmas.Str.{byte_from_char}
use Rattle.core_tokens.specs.declared.lexer.trouble.TokenError.{TokenError}
use Rattle.core_tokens.specs.declared.lexer.trouble.TokenError.TheVariants as errors
use Rattle.core_tokens.specs.declared.token.Keyword.{Keyword}
use Rattle.core_tokens.specs.declared.token.Keyword.TheVariants as keyword
use Rattle.core_tokens.specs.declared.token.Mark.{Mark}
use Rattle.core_tokens.specs.declared.token.Mark.TheVariants as mark
use Rattle.core_tokens.specs.Piece.{Shape}
use Rattle.core_tokens.specs.Piece as lexemes
use Rattle.core_tokens.specs.TokenText.{keyword_text, mark_text, is_in_name, is_variable_name, decimal_value, signed, Run, Sign, bare, plus, minus, FirstCharacter, Escape, Quoted, TokenAt, spells_word, spells_mark, spells_atom, spells_variable, spells_integer, spells_float, spells_character, spells_escape, spells_text}
use Rattle.core_tokens.specs.Tokens.{fits_arity, in_range, BeginsBadInteger}
use Rattle.term_core.specs.Integers.{has_64_bits}
use Rattle.core_tokens.specs.inside.Lexing.{◌>>=◌, word_at, name_at, mark_of, mark_behind_minus, mark_at, escape_at, character_at, integer_of, number_at, unit_at, behind_quote_at, quoted_by, quoted_in, quoted_at, dollar_at, word_token_at, variable_token_at, atom_token_at, text_token_at, dollar_token_at, mark_or_number, token_at, ranged_token_at}
use Rattle.core_tokens.proofs.Basics.{apart, kind_of, error_is, ok_is}
use Rattle.core_tokens.proofs.Runs.{run_head}
use Rattle.core_tokens.proofs.Words.{word_sound, word_complete, name_sound, name_complete, mark_sound}
use Rattle.core_tokens.proofs.Numbers.{IsRead, number_sound, integer_complete, float_complete}
use Rattle.core_tokens.proofs.Quotes.{character_sound, character_complete, escape_sound, escape_complete, quoted_sound, quoted_complete, begins_other}

-- ---- what is read is there

word_token_by : (bytes : List ℕ) (o : Option (Keyword × List ℕ)) → word_at bytes ≡ o → IsRead bytes (ok_or o errors.NoToken >>= λ w. Ok (lexemes.Word w.0, w.1))
word_token_by bytes (Some w) e = (spells_word (word_sound bytes w e), refl)
word_token_by bytes None e = tt

variable_token_by : (bytes : List ℕ) (o : Option (List ℕ × List ℕ)) → name_at bytes ≡ o → IsRead bytes (ok_or o errors.NoToken >>= λ v. Ok (lexemes.Variable v.0, v.1))
variable_token_by bytes (Some v) e = let n = name_sound bytes v e in (spells_variable n.0 n.1, refl)
variable_token_by bytes None e = tt

abbrev consed : ℕ → List ℕ × List ℕ → Result (List ℕ × List ℕ) TokenError
consed c q = Ok (c ∷ q.0, q.1)

never_tail : (r : Result (List ℕ × List ℕ) TokenError) (c : ℕ) (e : TokenError) → ((d : TokenError) → r ≡ Err d → kind_of d ≡ 1) → (r >>= λ q. consed c q) ≡ Err e → kind_of e ≡ 1
never_tail (Ok q) c e more h = absurd cc
never_tail (Err d) c e more h = more e h

never_by : (n quote : ℕ) (unit : Option (ℕ × List ℕ)) (o : Option (List ℕ)) (e : TokenError) → ((bytes : List ℕ) (d : TokenError) → quoted_in n quote bytes ≡ Err d → kind_of d ≡ 1) → quoted_by unit (quoted_in n quote) o ≡ Err e → kind_of e ≡ 1
never_by n quote unit (Some after) e more h = absurd cc
never_by n quote None None e more h = ap kind_of (sym (error_is errors.NoToken e h))
never_by n quote (Some u) None e more h = never_tail (quoted_in n quote u.1) u.0 e (more u.1) h

quoted_never : (n quote : ℕ) (bytes : List ℕ) (e : TokenError) → quoted_in n quote bytes ≡ Err e → kind_of e ≡ 1
unfolding quoted_in
quoted_never zero quote bytes e h = ap kind_of (sym (error_is errors.NoToken e h))
quoted_never (suc n) quote bytes e h = never_by n quote (unit_at quote bytes) (behind_quote_at quote bytes) e (λ more. quoted_never n quote more) h

no_trouble : (n quote : ℕ) (bytes : List ℕ) → quoted_in n quote bytes ≡ Err errors.OutOfRange → ⊥
no_trouble n quote bytes e = apart (kind_of errors.OutOfRange) 1 (quoted_never n quote bytes errors.OutOfRange e) refl refl

atom_token_by : (bytes : List ℕ) (r : Result (List ℕ × List ℕ) TokenError) → quoted_at 39 bytes ≡ r → IsRead (39 ∷ bytes) (r >>= λ q. Ok (lexemes.Atom (encode_utf8_all q.0), q.1))
atom_token_by bytes (Ok q) e = (spells_atom (quoted_sound (length bytes) 39 bytes q e), refl)
atom_token_by bytes (Err errors.NoToken) e = tt
atom_token_by bytes (Err errors.Memory) e = tt
atom_token_by bytes (Err errors.OutOfRange) e = absurd (no_trouble (length bytes) 39 bytes e)

text_token_by : (bytes : List ℕ) (r : Result (List ℕ × List ℕ) TokenError) → quoted_at 34 bytes ≡ r → IsRead (34 ∷ bytes) (r >>= λ q. Ok (lexemes.Text q.0, q.1))
text_token_by bytes (Ok q) e = (spells_text (quoted_sound (length bytes) 34 bytes q e), refl)
text_token_by bytes (Err errors.NoToken) e = tt
text_token_by bytes (Err errors.Memory) e = tt
text_token_by bytes (Err errors.OutOfRange) e = absurd (no_trouble (length bytes) 34 bytes e)

-- a character or an escape after `$`
abbrev IsDollar : List ℕ → Option (ℕ × List ℕ) → Type 0
IsDollar bytes None = Unit {0}
IsDollar bytes (Some d) = TokenAt (36 ∷ bytes) (lexemes.Character d.0) d.1

dollar_escape : (bytes : List ℕ) (o : Option (ℕ × List ℕ)) → escape_at bytes ≡ o → IsDollar (92 ∷ bytes) o
dollar_escape bytes (Some d) e = spells_escape (escape_sound bytes d e)
dollar_escape bytes None e = tt

dollar_raw : (c : ℕ) (bytes : List ℕ) (o : Option (ℕ × List ℕ)) → c ≢ 92 → character_at (c ∷ bytes) ≡ o → IsDollar (c ∷ bytes) o
dollar_raw c bytes (Some d) other e =
    let f = character_sound (c ∷ bytes) d e in
    spells_character f (λ h. other (byte_from_char (c ∷ bytes) d.1 d.0 f.whole (omega arith) ∙ h))
dollar_raw c bytes None other e = tt

dollar_by : (c : ℕ) (bytes : List ℕ) (b : Bool) → eqb c 92 ≡ b → IsDollar (c ∷ bytes) (cond b (escape_at bytes) (character_at (c ∷ bytes)))
dollar_by c bytes true e = subst (λ (x : ℕ). IsDollar (x ∷ bytes) (escape_at bytes)) (sym (eqb-true c 92 e)) (dollar_escape bytes (escape_at bytes) refl)
dollar_by c bytes false e = dollar_raw c bytes (character_at (c ∷ bytes)) (eqb-false c 92 e) refl

dollar_sound : (bytes : List ℕ) → IsDollar bytes (dollar_at bytes)
unfolding dollar_at
dollar_sound [] = tt
dollar_sound (c ∷ bytes) = dollar_by c bytes (eqb c 92) refl

dollar_token_by : (bytes : List ℕ) (o : Option (ℕ × List ℕ)) → IsDollar bytes o → IsRead (36 ∷ bytes) (ok_or o errors.NoToken >>= λ d. Ok (lexemes.Character d.0, d.1))
dollar_token_by bytes (Some d) h = (h, refl)
dollar_token_by bytes None h = tt

mark_or_number_by : (bytes : List ℕ) (o : Option (Mark × List ℕ)) → mark_at bytes ≡ o → IsRead bytes (mark_or_number o bytes)
mark_or_number_by bytes (Some m) e = (spells_mark (mark_sound bytes m e), refl)
mark_or_number_by bytes None e = number_sound bytes

-- the byte that a test found
quote_by : (c k : ℕ) (bytes : List ℕ) (r : Result (Shape × List ℕ) TokenError) → eqb c k ≡ true → IsRead (k ∷ bytes) r → IsRead (c ∷ bytes) r
quote_by c k bytes r e h = subst (λ (x : ℕ). IsRead (x ∷ bytes) r) (sym (eqb-true c k e)) h

token_by : (c : ℕ) (bytes : List ℕ) (lower upper atom text dollar : Bool) → eqb c 39 ≡ atom → eqb c 34 ≡ text → eqb c 36 ≡ dollar
    → IsRead (c ∷ bytes) (cond lower (word_token_at (c ∷ bytes)) (cond upper (variable_token_at (c ∷ bytes)) (cond atom (atom_token_at bytes) (cond text (text_token_at bytes) (cond dollar (dollar_token_at bytes) (mark_or_number (mark_at (c ∷ bytes)) (c ∷ bytes)))))))
unfolding word_token_at variable_token_at atom_token_at text_token_at dollar_token_at
token_by c bytes true upper atom text dollar ea et ed = word_token_by (c ∷ bytes) (word_at (c ∷ bytes)) refl
token_by c bytes false true atom text dollar ea et ed = variable_token_by (c ∷ bytes) (name_at (c ∷ bytes)) refl
token_by c bytes false false true text dollar ea et ed = quote_by c 39 bytes _ ea (atom_token_by bytes (quoted_at 39 bytes) refl)
token_by c bytes false false false true dollar ea et ed = quote_by c 34 bytes _ et (text_token_by bytes (quoted_at 34 bytes) refl)
token_by c bytes false false false false true ea et ed = quote_by c 36 bytes _ ed (dollar_token_by bytes (dollar_at bytes) (dollar_sound bytes))
token_by c bytes false false false false false ea et ed = mark_or_number_by (c ∷ bytes) (mark_at (c ∷ bytes)) refl

pub token_sound : (bytes : List ℕ) → IsRead bytes (token_at bytes)
unfolding token_at
token_sound [] = tt
token_sound (c ∷ bytes) = token_by c bytes (is_ascii_lowercase c) (is_ascii_uppercase c || eqb c 95) (eqb c 39) (eqb c 34) (eqb c 36) refl refl refl

-- ---- what is there is read

-- a token, where it is in range
pub ranged : Bool → Shape → List ℕ → Result (Shape × List ℕ) TokenError
ranged behind_slash s rest = cond (in_range behind_slash s) (Ok (s, rest)) (Err errors.OutOfRange)

-- the first byte of a token is none of those that begin another kind
pub record Begins (bytes : List ℕ) (P : ℕ → Type 0) : Type 0 where
  pub first : ℕ
  pub others : List ℕ
  pub whole : bytes ≡ first ∷ others
  pub has : P first

pub keyword_head : (k : Keyword) → Begins (keyword_text k) (λ c. is_ascii_lowercase c ≡ true)
keyword_head keyword.Module = record { first = 109; others = 111 ∷ 100 ∷ 117 ∷ 108 ∷ 101 ∷ []; whole = refl; has = refl }
keyword_head keyword.Attributes = record { first = 97; others = 116 ∷ 116 ∷ 114 ∷ 105 ∷ 98 ∷ 117 ∷ 116 ∷ 101 ∷ 115 ∷ []; whole = refl; has = refl }
keyword_head keyword.End = record { first = 101; others = 110 ∷ 100 ∷ []; whole = refl; has = refl }
keyword_head keyword.Fun = record { first = 102; others = 117 ∷ 110 ∷ []; whole = refl; has = refl }
keyword_head keyword.Let = record { first = 108; others = 101 ∷ 116 ∷ []; whole = refl; has = refl }
keyword_head keyword.In = record { first = 105; others = 110 ∷ []; whole = refl; has = refl }
keyword_head keyword.Case = record { first = 99; others = 97 ∷ 115 ∷ 101 ∷ []; whole = refl; has = refl }
keyword_head keyword.Of = record { first = 111; others = 102 ∷ []; whole = refl; has = refl }
keyword_head keyword.When = record { first = 119; others = 104 ∷ 101 ∷ 110 ∷ []; whole = refl; has = refl }
keyword_head keyword.Apply = record { first = 97; others = 112 ∷ 112 ∷ 108 ∷ 121 ∷ []; whole = refl; has = refl }
keyword_head keyword.Call = record { first = 99; others = 97 ∷ 108 ∷ 108 ∷ []; whole = refl; has = refl }
keyword_head keyword.Primop = record { first = 112; others = 114 ∷ 105 ∷ 109 ∷ 111 ∷ 112 ∷ []; whole = refl; has = refl }
keyword_head keyword.Do = record { first = 100; others = 111 ∷ []; whole = refl; has = refl }
keyword_head keyword.Try = record { first = 116; others = 114 ∷ 121 ∷ []; whole = refl; has = refl }
keyword_head keyword.Catch = record { first = 99; others = 97 ∷ 116 ∷ 99 ∷ 104 ∷ []; whole = refl; has = refl }
keyword_head keyword.Receive = record { first = 114; others = 101 ∷ 99 ∷ 101 ∷ 105 ∷ 118 ∷ 101 ∷ []; whole = refl; has = refl }
keyword_head keyword.After = record { first = 97; others = 102 ∷ 116 ∷ 101 ∷ 114 ∷ []; whole = refl; has = refl }
keyword_head keyword.Letrec = record { first = 108; others = 101 ∷ 116 ∷ 114 ∷ 101 ∷ 99 ∷ []; whole = refl; has = refl }

at_word : (c : ℕ) (bytes : List ℕ) → is_ascii_lowercase c ≡ true → token_at (c ∷ bytes) ≡ word_token_at (c ∷ bytes)
unfolding token_at
at_word c bytes h = rw h refl

upper_is_not_lower : (c : ℕ) → (is_ascii_uppercase c || eqb c 95) ≡ true → is_ascii_lowercase c ≡ false
upper_is_not_lower c h = grind (arith, nat_tests)

at_variable : (c : ℕ) (bytes : List ℕ) → (is_ascii_uppercase c || eqb c 95) ≡ true → token_at (c ∷ bytes) ≡ variable_token_at (c ∷ bytes)
unfolding token_at
at_variable c bytes h = rw (upper_is_not_lower c h, h) refl

-- the first byte of a name
pub name_head : (name : List ℕ) → is_variable_name name ≡ true → Begins name (λ c. (is_ascii_uppercase c || eqb c 95) ≡ true)
name_head [] h = absurd cc
name_head (c ∷ []) h = record { first = c; others = []; whole = refl; has = rw h refl }
name_head (c ∷ d ∷ name) h = record { first = c; others = d ∷ name; whole = refl; has = h }

-- a byte that begins a number, or a sign
pub record BeginsNumber (c : ℕ) : Type 0 where
  pub no_lower : is_ascii_lowercase c ≡ false
  pub no_upper : (is_ascii_uppercase c || eqb c 95) ≡ false
  pub no_atom : eqb c 39 ≡ false
  pub no_text : eqb c 34 ≡ false
  pub no_dollar : eqb c 36 ≡ false

digit_bounds : (c : ℕ) → is_ascii_digit c ≡ true → (48 ≤ c) × (c ≤ 57)
digit_bounds c h = (grind (arith, nat_tests), grind (arith, nat_tests))

digit_begins : (c : ℕ) → is_ascii_digit c ≡ true → BeginsNumber c
digit_begins c h =
    let b = digit_bounds c h in
    record {
      no_lower = grind (arith, nat_tests);
      no_upper = grind (arith, nat_tests);
      no_atom = ne_eqb c 39 (λ e. omega arith);
      no_text = ne_eqb c 34 (λ e. omega arith);
      no_dollar = ne_eqb c 36 (λ e. omega arith);
    }

at_number : (c : ℕ) (bytes : List ℕ) → BeginsNumber c → mark_at (c ∷ bytes) ≡ None → token_at (c ∷ bytes) ≡ number_at (c ∷ bytes)
unfolding token_at
at_number c bytes b none = rw (b.no_lower, b.no_upper, b.no_atom, b.no_text, b.no_dollar, none) refl

digit_no_mark : (c : ℕ) (bytes : List ℕ) → is_ascii_digit c ≡ true → mark_at (c ∷ bytes) ≡ None
unfolding mark_at mark_of
digit_no_mark c bytes h =
    let b = digit_bounds c h in
    rw (ne_eqb c 45 (λ e. omega arith), ne_eqb c 40 (λ e. omega arith), ne_eqb c 41 (λ e. omega arith), ne_eqb c 91 (λ e. omega arith), ne_eqb c 93 (λ e. omega arith), ne_eqb c 123 (λ e. omega arith), ne_eqb c 125 (λ e. omega arith), ne_eqb c 60 (λ e. omega arith), ne_eqb c 62 (λ e. omega arith), ne_eqb c 44 (λ e. omega arith), ne_eqb c 124 (λ e. omega arith), ne_eqb c 61 (λ e. omega arith), ne_eqb c 47 (λ e. omega arith), ne_eqb c 58 (λ e. omega arith), ne_eqb c 35 (λ e. omega arith), ne_eqb c 126 (λ e. omega arith)) refl

minus_no_mark : (c : ℕ) (bytes : List ℕ) → is_ascii_digit c ≡ true → mark_at (45 ∷ c ∷ bytes) ≡ None
unfolding mark_at mark_behind_minus
minus_no_mark c bytes h =
    let b = digit_bounds c h in
    rw (ne_eqb c 62 (λ e. omega arith), ne_eqb c 124 (λ e. omega arith)) refl

plus_is_number : (bytes : List ℕ) → token_at (43 ∷ bytes) ≡ number_at (43 ∷ bytes)
unfolding token_at mark_at mark_of
plus_is_number bytes = refl

-- a sign and a digit are read as a number
signed_is_number : (bytes unsigned digits rest : List ℕ) (d : ℕ) (negative : Bool) → Sign bytes negative unsigned → Run is_ascii_digit unsigned (d ∷ digits) rest → token_at bytes ≡ number_at bytes
signed_is_number bytes unsigned digits rest d negative (bare {bytes = same}) r =
    let h = run_head is_ascii_digit same (d ∷ digits) rest r d digits refl in
    rw h.1 (at_number d h.0 (digit_begins d h.2) (digit_no_mark d h.0 h.2))
signed_is_number bytes unsigned digits rest d negative (plus {bytes = same}) r = plus_is_number same
signed_is_number bytes unsigned digits rest d negative (minus {bytes = same}) r =
    let h = run_head is_ascii_digit same (d ∷ digits) rest r d digits refl in
    rw h.1 (at_number 45 (d ∷ h.0) (record { no_lower = refl; no_upper = refl; no_atom = refl; no_text = refl; no_dollar = refl }) (minus_no_mark d h.0 h.2))

at_mark : (m : Mark) (rest : List ℕ) → token_at (mark_text m ++ rest) ≡ Ok (lexemes.Mark m, rest)
unfolding token_at mark_at mark_of mark_behind_minus
at_mark mark.LeftParenthesis rest = refl
at_mark mark.RightParenthesis rest = refl
at_mark mark.LeftBracket rest = refl
at_mark mark.RightBracket rest = refl
at_mark mark.LeftBrace rest = refl
at_mark mark.RightBrace rest = refl
at_mark mark.Less rest = refl
at_mark mark.Greater rest = refl
at_mark mark.Comma rest = refl
at_mark mark.Bar rest = refl
at_mark mark.Equals rest = refl
at_mark mark.Slash rest = refl
at_mark mark.Colon rest = refl
at_mark mark.Arrow rest = refl
at_mark mark.Note rest = refl
at_mark mark.Hash rest = refl
at_mark mark.Tilde rest = refl

word_complete_at : (bytes rest : List ℕ) (k : Keyword) → Run is_ascii_lowercase bytes (keyword_text k) rest → token_at bytes ≡ Ok (lexemes.Word k, rest)
unfolding word_token_at
word_complete_at bytes rest k r =
    let head = keyword_head k in
    let h = run_head is_ascii_lowercase bytes (keyword_text k) rest r head.first head.others head.whole in
    let found : word_token_at bytes ≡ Ok (lexemes.Word k, rest) = rw (word_complete bytes rest k r) refl in
    ap token_at h.1 ∙ at_word head.first h.0 h.2 ∙ ap word_token_at (sym h.1) ∙ found

variable_complete_at : (bytes name rest : List ℕ) → Run is_in_name bytes name rest → is_variable_name name ≡ true → token_at bytes ≡ Ok (lexemes.Variable name, rest)
unfolding variable_token_at
variable_complete_at bytes name rest r n =
    let head = name_head name n in
    let h = run_head is_in_name bytes name rest r head.first head.others head.whole in
    let found : variable_token_at bytes ≡ Ok (lexemes.Variable name, rest) = rw (name_complete bytes name rest r n) refl in
    ap token_at h.1 ∙ at_variable head.first h.0 head.has ∙ ap variable_token_at (sym h.1) ∙ found

atom_complete_at : (bytes characters rest : List ℕ) → Quoted 39 bytes characters rest → token_at (39 ∷ bytes) ≡ Ok (lexemes.Atom (encode_utf8_all characters), rest)
unfolding token_at atom_token_at
atom_complete_at bytes characters rest q = rw (quoted_complete 39 (omega arith) (λ e. omega arith) bytes characters rest q (length bytes) (omega arith)) refl

text_complete_at : (bytes characters rest : List ℕ) → Quoted 34 bytes characters rest → token_at (34 ∷ bytes) ≡ Ok (lexemes.Text characters, rest)
unfolding token_at text_token_at
text_complete_at bytes characters rest q = rw (quoted_complete 34 (omega arith) (λ e. omega arith) bytes characters rest q (length bytes) (omega arith)) refl

escape_complete_at : (bytes rest : List ℕ) (c : ℕ) → Escape bytes c rest → token_at (36 ∷ 92 ∷ bytes) ≡ Ok (lexemes.Character c, rest)
unfolding token_at dollar_token_at dollar_at
escape_complete_at bytes rest c x = rw (escape_complete bytes rest c x) refl

raw_dollar : (b : ℕ) (bytes rest : List ℕ) (c : ℕ) → b ≢ 92 → character_at (b ∷ bytes) ≡ Some (c, rest) → token_at (36 ∷ b ∷ bytes) ≡ Ok (lexemes.Character c, rest)
unfolding token_at dollar_token_at dollar_at
raw_dollar b bytes rest c other e = rw (ne_eqb b 92 other, e) refl

character_complete_at : (bytes rest : List ℕ) (c : ℕ) → FirstCharacter bytes c rest → c ≢ 92 → token_at (36 ∷ bytes) ≡ Ok (lexemes.Character c, rest)
character_complete_at bytes rest c f differs =
    let d = begins_other bytes rest c 92 f differs (omega arith) in
    rw d.whole (raw_dollar d.first d.others rest c d.other (ap character_at (sym d.whole) ∙ character_complete bytes rest c f))

abbrev integer_read : ℤ → List ℕ → Result (Shape × List ℕ) TokenError
integer_read n rest = Ok (lexemes.Integer n, rest)

integer_ranged : (n : ℤ) (rest : List ℕ) (b : Bool) → (cond b (Ok n) (Err errors.OutOfRange) >>= λ m. integer_read m rest) ≡ cond b (integer_read n rest) (Err errors.OutOfRange)
integer_ranged n rest true = refl
integer_ranged n rest false = refl

-- what is spelt is read, where an integer has 64 bits
pub token_complete : (bytes rest : List ℕ) (s : Shape) → TokenAt bytes s rest → token_at bytes ≡ ranged false s rest
unfolding ranged integer_of
token_complete bytes rest s (spells_word {bytes = whole} {rest = same} {k} r) = word_complete_at whole same k r
token_complete bytes rest s (spells_mark {bytes = whole} {rest = same} {m} e) = ap token_at e ∙ at_mark m same
token_complete bytes rest s (spells_atom {bytes = whole} {characters} {rest = same} q) = atom_complete_at whole characters same q
token_complete bytes rest s (spells_variable {bytes = whole} {name} {rest = same} r n) = variable_complete_at whole name same r n
token_complete bytes rest s (spells_integer {bytes = whole} {unsigned} {digits} {rest = same} {d} {negative} g r none) =
    signed_is_number whole unsigned digits same d negative g r ∙ integer_complete whole unsigned digits same d negative g r none ∙ integer_ranged (signed negative (decimal_value (d ∷ digits))) same (has_64_bits (signed negative (decimal_value (d ∷ digits))))
token_complete bytes rest s (spells_float {bytes = whole} {unsigned} {digits} {behind_digits} {behind_fraction} {rest = same} {d} {negative} g r f x) =
    signed_is_number whole unsigned digits behind_digits d negative g r ∙ float_complete whole unsigned digits behind_digits behind_fraction same d negative g r f x
token_complete bytes rest s (spells_character {bytes = whole} {rest = same} {c} f n) = character_complete_at whole same c f n
token_complete bytes rest s (spells_escape {bytes = whole} {rest = same} {c} x) = escape_complete_at whole same c x
token_complete bytes rest s (spells_text {bytes = whole} {characters} {rest = same} q) = text_complete_at whole characters same q

-- ---- tokens in range

arity_is_word : (n : ℤ) → fits_arity n ≡ true → has_64_bits n ≡ true
arity_is_word (pos n) h = lt-ltb n (2 ^ 63) (omega (arith, ltb-true n 256 h))
arity_is_word (negsuc n) h = absurd cc

no_word_no_arity : (n : ℤ) → has_64_bits n ≡ false → fits_arity n ≡ false
no_word_no_arity n h = false_from_ne_true (fits_arity n) (λ e. let f = arity_is_word n e in cc)

in_range_is_word : (s : Shape) → in_range true s ≡ true → in_range false s ≡ true
in_range_is_word (lexemes.Word k) h = refl
in_range_is_word (lexemes.Mark m) h = refl
in_range_is_word (lexemes.Atom t) h = refl
in_range_is_word (lexemes.Variable v) h = refl
in_range_is_word (lexemes.Integer n) h = arity_is_word n h
in_range_is_word lexemes.Float h = refl
in_range_is_word (lexemes.Character c) h = refl
in_range_is_word (lexemes.Text cs) h = refl

-- only an integer is out of range
bad_integer : (bytes rest : List ℕ) (s : Shape) → TokenAt bytes s rest → in_range true s ≡ false → BeginsBadInteger true bytes
bad_integer bytes rest (lexemes.Word k) t h = absurd cc
bad_integer bytes rest (lexemes.Mark m) t h = absurd cc
bad_integer bytes rest (lexemes.Atom x) t h = absurd cc
bad_integer bytes rest (lexemes.Variable v) t h = absurd cc
bad_integer bytes rest (lexemes.Integer n) t h = (n, rest, t, h)
bad_integer bytes rest lexemes.Float t h = absurd cc
bad_integer bytes rest (lexemes.Character c) t h = absurd cc
bad_integer bytes rest (lexemes.Text cs) t h = absurd cc

-- What was read is there: a token in range, an integer out of range, or no token.
abbrev pub IsRanged : Bool → List ℕ → Result (Shape × List ℕ) TokenError → Type 0
IsRanged behind_slash bytes (Ok x) = TokenAt bytes x.0 x.1 × (in_range behind_slash x.0 ≡ true)
IsRanged behind_slash bytes (Err errors.OutOfRange) = BeginsBadInteger behind_slash bytes
IsRanged behind_slash bytes (Err errors.NoToken) = (s : Shape) (rest : List ℕ) → TokenAt bytes s rest → ⊥
IsRanged behind_slash bytes (Err errors.Memory) = Unit {0}

abbrev read : Shape → List ℕ → Result (Shape × List ℕ) TokenError
read s rest = Ok (s, rest)

ranged_kind : (b : Bool) (s : Shape) (rest : List ℕ) → cond b (read s rest) (Err errors.OutOfRange) ≡ Err errors.NoToken → ⊥
ranged_kind true s rest e = absurd cc
ranged_kind false s rest e = apart (kind_of errors.OutOfRange) (kind_of errors.NoToken) (ap kind_of (error_is errors.OutOfRange errors.NoToken e)) refl refl

no_token : (bytes : List ℕ) → token_at bytes ≡ Err errors.NoToken → (s : Shape) (rest : List ℕ) → TokenAt bytes s rest → ⊥
unfolding ranged
no_token bytes e s rest t = ranged_kind (in_range false s) s rest (sym (token_complete bytes rest s t) ∙ e)

ranged_false : (bytes : List ℕ) (r : Result (Shape × List ℕ) TokenError) → token_at bytes ≡ r → IsRead bytes r → IsRanged false bytes r
ranged_false bytes (Ok x) e h = h
ranged_false bytes (Err errors.OutOfRange) e h = h
ranged_false bytes (Err errors.NoToken) e h = no_token bytes e
ranged_false bytes (Err errors.Memory) e h = tt

arity_by : (bytes : List ℕ) (x : Shape × List ℕ) (b : Bool) → in_range true x.0 ≡ b → TokenAt bytes x.0 x.1 → IsRanged true bytes (cond b (Ok x) (Err errors.OutOfRange))
arity_by bytes x true e t = (t, e)
arity_by bytes x false e t = bad_integer bytes x.1 x.0 t e

ranged_true : (bytes : List ℕ) (r : Result (Shape × List ℕ) TokenError) → token_at bytes ≡ r → IsRead bytes r → IsRanged true bytes (r >>= λ t. cond (in_range true t.0) (Ok t) (Err errors.OutOfRange))
ranged_true bytes (Ok x) e h = arity_by bytes x (in_range true x.0) refl h.0
ranged_true bytes (Err errors.OutOfRange) e h = (h.0, h.1, h.2, no_word_no_arity h.0 h.3)
ranged_true bytes (Err errors.NoToken) e h = no_token bytes e
ranged_true bytes (Err errors.Memory) e h = tt

pub ranged_sound : (behind_slash : Bool) (bytes : List ℕ) → IsRanged behind_slash bytes (ranged_token_at behind_slash bytes)
unfolding ranged_token_at
ranged_sound false bytes = ranged_false bytes (token_at bytes) refl (token_sound bytes)
ranged_sound true bytes = ranged_true bytes (token_at bytes) refl (token_sound bytes)

pub ranged_complete : (behind_slash : Bool) (bytes rest : List ℕ) (s : Shape) → TokenAt bytes s rest → in_range behind_slash s ≡ true → ranged_token_at behind_slash bytes ≡ Ok (s, rest)
unfolding ranged_token_at ranged
ranged_complete false bytes rest s t h = token_complete bytes rest s t ∙ rw h refl
ranged_complete true bytes rest s t h =
    let read : token_at bytes ≡ Ok (s, rest) = token_complete bytes rest s t ∙ rw (in_range_is_word s h) refl in
    rw (read, h) refl

-- one token in range is at a place
pub token_unique : (behind_slash : Bool) (bytes rest rest' : List ℕ) (s s' : Shape) → TokenAt bytes s rest → TokenAt bytes s' rest' → in_range behind_slash s ≡ true → in_range behind_slash s' ≡ true → (s ≡ s') × (rest ≡ rest')
token_unique behind_slash bytes rest rest' s s' t t' h h' =
    let both = ok_is (s, rest) (s', rest') (sym (ranged_complete behind_slash bytes rest s t h) ∙ ranged_complete behind_slash bytes rest' s' t' h') in
    (ap (λ (x : Shape × List ℕ). x.0) both, ap (λ (x : Shape × List ℕ). x.1) both)

-- an integer out of range is read as one
out_by : (bytes rest : List ℕ) (n : ℤ) (b : Bool) → has_64_bits n ≡ b → fits_arity n ≡ false → token_at bytes ≡ ranged false (lexemes.Integer n) rest → ranged_token_at true bytes ≡ Err errors.OutOfRange
unfolding ranged_token_at ranged
out_by bytes rest n true w a e = rw (e, w, a) refl
out_by bytes rest n false w a e = rw (e, w) refl

pub ranged_out : (behind_slash : Bool) (bytes : List ℕ) → BeginsBadInteger behind_slash bytes → ranged_token_at behind_slash bytes ≡ Err errors.OutOfRange
unfolding ranged_token_at ranged
ranged_out false bytes h = token_complete bytes h.1 (lexemes.Integer h.0) h.2 ∙ rw h.3 refl
ranged_out true bytes h = out_by bytes h.1 h.0 (has_64_bits h.0) refl h.3 (token_complete bytes h.1 (lexemes.Integer h.0) h.2)

pub bad_is_no_token : (behind_slash : Bool) (bytes rest : List ℕ) (s : Shape) → BeginsBadInteger behind_slash bytes → TokenAt bytes s rest → in_range behind_slash s ≡ true → ⊥
bad_is_no_token behind_slash bytes rest s h t g =
    let one = ranged_out behind_slash bytes h in
    let two = ranged_complete behind_slash bytes rest s t g in
    cc
