-- Reading one token from the left: what it is and the bytes after it.
use Rattle.std.specs.Prelude.{◌≡◌, ◌≢◌, ℕ, zero, suc, ◌+◌, ◌-◌, ◌*◌, ℤ, Bool, true, false, ◌||◌, ◌==◌, if◌then◌else◌, List, [], ◌∷◌, length, take, drop, take_while, Option, Some, None, min, Result, Ok, Err, unwrap_or, encode_utf8_all}
use Rattle.std.specs.List.{prefix_len}
use Rattle.std.specs.Option.{option_map, ok_or}
use Rattle.std.specs.Str.{bytes_eq, is_utf8, chars, continuation_len}
use Rattle.std.specs.Char.{is_ascii_digit, is_ascii_lowercase, is_ascii_uppercase}
use Rattle.core_tokens.specs.declared.fault.ReadFault.{ReadFault}
use Rattle.core_tokens.specs.declared.fault.ReadFault.TheVariants as fault
use Rattle.core_tokens.specs.declared.lexer.trouble.TokenError.{TokenError}
use Rattle.core_tokens.specs.declared.lexer.trouble.TokenError.TheVariants as errors
use Rattle.core_tokens.specs.declared.token.Keyword.{Keyword}
use Rattle.core_tokens.specs.declared.token.Keyword.TheVariants as keyword
use Rattle.core_tokens.specs.declared.token.Mark.{Mark}
use Rattle.core_tokens.specs.declared.token.Mark.TheVariants as mark
use Rattle.core_tokens.specs.Piece.{Piece, Shape}
use Rattle.core_tokens.specs.Piece as lexemes
use Rattle.core_tokens.specs.TokenText.{is_blank, is_in_line, is_in_name, is_octal, keyword_text, mark_text, is_variable_name, decimal_value, signed, escape_of, stands_raw}
use Rattle.core_tokens.specs.Tokens.{in_range, Spelt}
use Rattle.term_core.specs.Integers.{has_64_bits}

infixl 10 ◌>>=◌
abbrev pub ◌>>=◌ : {A B : Type 0} → Result A TokenError → (A → Result B TokenError) → Result B TokenError
(Ok x) >>= f = f x
(Err e) >>= f = Err e

-- What a function returned, seen by view, is what reading gives, unless memory ran out.
abbrev pub Fails : {Y : Type 0} → TokenError → Result Y TokenError → Type 0
Fails errors.Memory read = Unit {0}
Fails errors.NoToken read = read ≡ Err errors.NoToken
Fails errors.OutOfRange read = read ≡ Err errors.OutOfRange

abbrev pub GivesUnlessMemory : {X Y : Type 0} → (X → Y) → Result X TokenError → Result Y TokenError → Type 0
GivesUnlessMemory view (Ok x) read = read ≡ Ok (view x)
GivesUnlessMemory view (Err e) read = Fails e read

-- the fault of the text at this place
abbrev pub fault_at : TokenError → ℕ → ReadFault
fault_at errors.Memory place = fault.Memory
fault_at errors.NoToken place = fault.BadToken place
fault_at errors.OutOfRange place = fault.BadInteger place

-- ---- runs

-- the longest front that passes the test, and what follows it
abbrev pub run_of : (ℕ → Bool) → List ℕ → List ℕ
run_of test bytes = take_while test bytes

abbrev pub behind_run : (ℕ → Bool) → List ℕ → List ℕ
behind_run test bytes = drop (prefix_len test bytes) bytes

-- ---- words and marks

abbrev pub keyword_by : List Keyword → List ℕ → Option Keyword
keyword_by [] word = None
keyword_by (k ∷ ks) word = if bytes_eq word (keyword_text k) then Some k else keyword_by ks word

-- the keywords
abbrev pub keywords : List Keyword
keywords = keyword.Module ∷ keyword.Attributes ∷ keyword.End ∷ keyword.Fun ∷ keyword.Let ∷ keyword.In ∷ keyword.Case ∷ keyword.Of ∷ keyword.When ∷ keyword.Apply ∷ keyword.Call ∷ keyword.Primop ∷ keyword.Do ∷ keyword.Try ∷ keyword.Catch ∷ keyword.Receive ∷ keyword.After ∷ keyword.Letrec ∷ []

-- the keyword of these letters
unfoldable pub keyword_of : List ℕ → Option Keyword
keyword_of word = keyword_by keywords word

-- a run of lower-case letters that is a keyword
unfoldable pub word_at : List ℕ → Option (Keyword × List ℕ)
word_at bytes = option_map (λ k. (k, behind_run is_ascii_lowercase bytes)) (keyword_of (run_of is_ascii_lowercase bytes))

-- a variable's name
unfoldable pub name_at : List ℕ → Option (List ℕ × List ℕ)
name_at bytes = if is_variable_name (run_of is_in_name bytes) then Some (run_of is_in_name bytes, behind_run is_in_name bytes) else None

-- the byte is the whole text
abbrev pub is_alone : ℕ → List ℕ → Bool
is_alone c [] = false
is_alone c (d ∷ []) = c == d
is_alone c (d ∷ e ∷ ds) = false

abbrev pub mark_by : List Mark → ℕ → Option Mark
mark_by [] c = None
mark_by (m ∷ ms) c = if is_alone c (mark_text m) then Some m else mark_by ms c

-- the marks of one character
abbrev pub short_marks : List Mark
short_marks = mark.LeftParenthesis ∷ mark.RightParenthesis ∷ mark.LeftBracket ∷ mark.RightBracket ∷ mark.LeftBrace ∷ mark.RightBrace ∷ mark.Less ∷ mark.Greater ∷ mark.Comma ∷ mark.Bar ∷ mark.Equals ∷ mark.Slash ∷ mark.Colon ∷ mark.Hash ∷ mark.Tilde ∷ []

-- the mark of this one character
unfoldable pub mark_of : ℕ → Option Mark
mark_of c = mark_by short_marks c

-- the mark of a minus and what follows it
unfoldable pub mark_behind_minus : List ℕ → Option (Mark × List ℕ)
mark_behind_minus [] = None
mark_behind_minus (c ∷ bytes) = if c == 62 then Some (mark.Arrow, bytes) else (if c == 124 then Some (mark.Note, bytes) else None)

unfoldable pub mark_at : List ℕ → Option (Mark × List ℕ)
mark_at [] = None
mark_at (c ∷ bytes) = if c == 45 then mark_behind_minus bytes else option_map (λ m. (m, bytes)) (mark_of c)

-- ---- numbers

-- whether a minus comes first, and what follows the sign
unfoldable pub sign_at : List ℕ → Bool × List ℕ
sign_at [] = (false, [])
sign_at (c ∷ bytes) = if c == 45 then (true, bytes) else (if c == 43 then (false, bytes) else (false, c ∷ bytes))

-- at least one digit
abbrev pub some_digits : List ℕ → List ℕ → Option (List ℕ × List ℕ)
some_digits [] rest = None
some_digits (d ∷ digits) rest = Some (d ∷ digits, rest)

unfoldable pub digits_at : List ℕ → Option (List ℕ × List ℕ)
digits_at bytes = some_digits (run_of is_ascii_digit bytes) (behind_run is_ascii_digit bytes)

-- what follows a fraction
unfoldable pub fraction_at : List ℕ → Option (List ℕ)
fraction_at [] = None
fraction_at (c ∷ bytes) = if c == 46 then option_map (λ d. d.1) (digits_at bytes) else None

-- what follows an exponent
unfoldable pub exponent_at : List ℕ → Option (List ℕ)
exponent_at [] = None
exponent_at (c ∷ bytes) = if (c == 101) || (c == 69) then option_map (λ d. d.1) (digits_at (sign_at bytes).1) else None

-- an integer of 64 bits
unfoldable pub integer_of : Bool → ℕ → Result ℤ TokenError
integer_of negative n = if has_64_bits (signed negative n) then Ok (signed negative n) else Err errors.OutOfRange

abbrev pub number_by : Bool → List ℕ → List ℕ → Option (List ℕ) → Result (Shape × List ℕ) TokenError
number_by negative digits rest None = integer_of negative (decimal_value digits) >>= λ n. Ok (lexemes.Integer n, rest)
number_by negative digits rest (Some after) = Ok (lexemes.Float, unwrap_or (exponent_at after) after)

abbrev pub number_from : Bool → Option (List ℕ × List ℕ) → Result (Shape × List ℕ) TokenError
number_from negative None = Err errors.NoToken
number_from negative (Some d) = number_by negative d.0 d.1 (fraction_at d.1)

unfoldable pub number_at : List ℕ → Result (Shape × List ℕ) TokenError
number_at bytes = number_from (sign_at bytes).0 (digits_at (sign_at bytes).1)

-- ---- characters

-- the character of a list of one
abbrev pub only_of : List ℕ → Option ℕ
only_of [] = None
only_of (c ∷ []) = Some c
only_of (c ∷ d ∷ cs) = None

-- the character that the bytes are in UTF-8
unfoldable pub only_character : List ℕ → Option ℕ
only_character bytes = if is_utf8 bytes then only_of (chars bytes) else None

-- the first character of bytes in UTF-8
unfoldable pub character_at : List ℕ → Option (ℕ × List ℕ)
character_at [] = None
character_at (b ∷ bytes) =
    let len = min (continuation_len b + 1) (length (b ∷ bytes)) in
    option_map (λ c. (c, drop len (b ∷ bytes))) (only_character (take len (b ∷ bytes)))

unfoldable pub octal_digit_at : List ℕ → Option (ℕ × List ℕ)
octal_digit_at [] = None
octal_digit_at (c ∷ bytes) = if is_octal c then Some (c - 48, bytes) else None

abbrev pub with_digit : ℕ → List ℕ → Option (ℕ × List ℕ) → ℕ × List ℕ
with_digit n bytes None = (n, bytes)
with_digit n bytes (Some d) = (8 * n + d.0, d.1)

-- a number with one more octal digit, if there is one
unfoldable pub longer_octal : ℕ → List ℕ → ℕ × List ℕ
longer_octal n bytes = with_digit n bytes (octal_digit_at bytes)

-- one to three octal digits
unfoldable pub octal_at : List ℕ → Option (ℕ × List ℕ)
octal_at bytes = option_map (λ a. let b = longer_octal a.0 a.1 in longer_octal b.0 b.1) (octal_digit_at bytes)

abbrev pub escape_by : Option ℕ → List ℕ → List ℕ → Option (ℕ × List ℕ)
escape_by None whole rest = octal_at whole
escape_by (Some e) whole rest = Some (e, rest)

-- what follows a backslash
unfoldable pub escape_at : List ℕ → Option (ℕ × List ℕ)
escape_at [] = None
escape_at (c ∷ bytes) = escape_by (escape_of c) (c ∷ bytes) bytes

abbrev pub raw_only : ℕ → Option (ℕ × List ℕ) → Option (ℕ × List ℕ)
raw_only quote None = None
raw_only quote (Some x) = if stands_raw quote x.0 then Some x else None

-- one character or escape between quotes
unfoldable pub unit_at : ℕ → List ℕ → Option (ℕ × List ℕ)
unit_at quote [] = None
unit_at quote (c ∷ bytes) = if c == 92 then escape_at bytes else raw_only quote (character_at (c ∷ bytes))

-- what follows a closing quote at the front
unfoldable pub behind_quote_at : ℕ → List ℕ → Option (List ℕ)
behind_quote_at quote [] = None
behind_quote_at quote (c ∷ bytes) = if c == quote then Some bytes else None

abbrev pub quoted_by : Option (ℕ × List ℕ) → (List ℕ → Result (List ℕ × List ℕ) TokenError) → Option (List ℕ) → Result (List ℕ × List ℕ) TokenError
quoted_by unit more (Some after) = Ok ([], after)
quoted_by unit more None = ok_or unit errors.NoToken >>= λ u. more u.1 >>= λ q. Ok (u.0 ∷ q.0, q.1)

-- the characters up to the closing quote, in at most so many steps
unfoldable pub quoted_in : ℕ → ℕ → List ℕ → Result (List ℕ × List ℕ) TokenError
quoted_in zero quote bytes = Err errors.NoToken
quoted_in (suc n) quote bytes = quoted_by (unit_at quote bytes) (quoted_in n quote) (behind_quote_at quote bytes)

abbrev pub quoted_at : ℕ → List ℕ → Result (List ℕ × List ℕ) TokenError
quoted_at quote bytes = quoted_in (length bytes) quote bytes

-- the character or escape after `$`
unfoldable pub dollar_at : List ℕ → Option (ℕ × List ℕ)
dollar_at [] = None
dollar_at (c ∷ bytes) = if c == 92 then escape_at bytes else character_at (c ∷ bytes)

-- ---- tokens

abbrev pub mark_or_number : Option (Mark × List ℕ) → List ℕ → Result (Shape × List ℕ) TokenError
mark_or_number None bytes = number_at bytes
mark_or_number (Some m) bytes = Ok (lexemes.Mark m.0, m.1)

unfoldable pub word_token_at : List ℕ → Result (Shape × List ℕ) TokenError
word_token_at bytes = do
  w ← ok_or (word_at bytes) errors.NoToken
  Ok (lexemes.Word w.0, w.1)

unfoldable pub variable_token_at : List ℕ → Result (Shape × List ℕ) TokenError
variable_token_at bytes = do
  v ← ok_or (name_at bytes) errors.NoToken
  Ok (lexemes.Variable v.0, v.1)

unfoldable pub atom_token_at : List ℕ → Result (Shape × List ℕ) TokenError
atom_token_at bytes = do
  q ← quoted_at 39 bytes
  Ok (lexemes.Atom (encode_utf8_all q.0), q.1)

unfoldable pub text_token_at : List ℕ → Result (Shape × List ℕ) TokenError
text_token_at bytes = do
  q ← quoted_at 34 bytes
  Ok (lexemes.Text q.0, q.1)

unfoldable pub dollar_token_at : List ℕ → Result (Shape × List ℕ) TokenError
dollar_token_at bytes = do
  d ← ok_or (dollar_at bytes) errors.NoToken
  Ok (lexemes.Character d.0, d.1)

-- a token, an integer of 64 bits
unfoldable pub token_at : List ℕ → Result (Shape × List ℕ) TokenError
token_at [] = Err errors.NoToken
token_at (c ∷ bytes) =
    if is_ascii_lowercase c then word_token_at (c ∷ bytes)
    else (if is_ascii_uppercase c || (c == 95) then variable_token_at (c ∷ bytes)
    else (if c == 39 then atom_token_at bytes
    else (if c == 34 then text_token_at bytes
    else (if c == 36 then dollar_token_at bytes
    else mark_or_number (mark_at (c ∷ bytes)) (c ∷ bytes)))))

-- a token, an integer in range
unfoldable pub ranged_token_at : Bool → List ℕ → Result (Shape × List ℕ) TokenError
ranged_token_at false bytes = token_at bytes
ranged_token_at true bytes = token_at bytes >>= λ t. if in_range true t.0 then Ok t else Err errors.OutOfRange

-- ---- blanks and comments

-- what follows one blank or one comment at the front
unfoldable pub behind_blank_at : List ℕ → Option (List ℕ)
behind_blank_at [] = None
behind_blank_at (c ∷ bytes) = if is_blank c then Some bytes else (if c == 37 then Some (behind_run is_in_line bytes) else None)

-- only blanks and comments come before the rest: what the rest spells, the bytes spell
abbrev pub Skips : List ℕ → List ℕ → Type 0
Skips bytes rest = (stop : ℕ) (behind_slash last_slash : Bool) (ps : List Piece) (end : List ℕ) → Spelt stop behind_slash rest ps last_slash end → Spelt stop behind_slash bytes ps last_slash end

-- neither a blank nor a comment comes first
abbrev pub BeginsNoBlank : List ℕ → Type 0
BeginsNoBlank [] = Unit {0}
BeginsNoBlank (c ∷ bytes) = (is_blank c ≡ false) × (c ≢ 37)
