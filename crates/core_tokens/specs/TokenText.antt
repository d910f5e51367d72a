-- How each token is spelt: the bytes that begin with it, what it is, and the bytes after it (Core
-- Erlang 1.0.3, "Lexical definitions").
use Rattle.std.specs.Prelude.{◌≡◌, ◌≢◌, ℕ, ◌+◌, ◌-◌, ◌*◌, ℤ, pos, neg_ℤ, Bool, true, false, not, ◌||◌, ◌==◌, if◌then◌else◌, List, [], ◌∷◌, ◌++◌, Option, Some, None, fold, codes, encode_utf8, encode_utf8_all}
use Rattle.std.specs.Char.{IsScalar, is_ascii_digit, is_ascii_lowercase, is_ascii_uppercase, is_ascii_alphanumeric}
use Rattle.std.specs.Int.{is_in_range}
use Rattle.core_tokens.specs.declared.token.Keyword.{Keyword}
use Rattle.core_tokens.specs.declared.token.Keyword.TheVariants as keyword
use Rattle.core_tokens.specs.declared.token.Mark.{Mark}
use Rattle.core_tokens.specs.declared.token.Mark.TheVariants as mark
use Rattle.core_tokens.specs.Piece.{Shape}
use Rattle.core_tokens.specs.Piece as lexemes

-- ---- classes of bytes

-- a line end: 10 or 13
abbrev pub is_line_end : ℕ → Bool
is_line_end c = (c == 10) || (c == 13)

-- a blank, a tab or a line end
abbrev pub is_blank : ℕ → Bool
is_blank c = ((c == 32) || (c == 9)) || is_line_end c

-- what a comment goes over
abbrev pub is_in_line : ℕ → Bool
is_in_line c = not (is_line_end c)

-- a letter, a digit, `_` or `@`
abbrev pub is_in_name : ℕ → Bool
is_in_name c = is_ascii_alphanumeric c || ((c == 95) || (c == 64))

-- 0 to 7
abbrev pub is_octal : ℕ → Bool
is_octal c = is_in_range 48 55 c

-- ---- runs

-- no byte that passes the test comes first
abbrev pub StopsAt : (ℕ → Bool) → List ℕ → Type 0
StopsAt test [] = Unit {0}
StopsAt test (c ∷ bytes) = test c ≡ false

-- the longest front of the bytes that passes the test byte by byte, and what follows it
pub data Run (test : ℕ → Bool) : List ℕ → List ℕ → List ℕ → Type 0 where
  halts : {bytes : List ℕ} → StopsAt test bytes → Run test bytes [] bytes
  takes : {bytes front rest : List ℕ} {c : ℕ} → test c ≡ true → Run test bytes front rest → Run test (c ∷ bytes) (c ∷ front) rest

-- ---- words and marks

-- the letters of a keyword
abbrev pub keyword_text : Keyword → List ℕ
keyword_text keyword.Module = codes "module"
keyword_text keyword.Attributes = codes "attributes"
keyword_text keyword.End = codes "end"
keyword_text keyword.Fun = codes "fun"
keyword_text keyword.Let = codes "let"
keyword_text keyword.In = codes "in"
keyword_text keyword.Case = codes "case"
keyword_text keyword.Of = codes "of"
keyword_text keyword.When = codes "when"
keyword_text keyword.Apply = codes "apply"
keyword_text keyword.Call = codes "call"
keyword_text keyword.Primop = codes "primop"
keyword_text keyword.Do = codes "do"
keyword_text keyword.Try = codes "try"
keyword_text keyword.Catch = codes "catch"
keyword_text keyword.Receive = codes "receive"
keyword_text keyword.After = codes "after"
keyword_text keyword.Letrec = codes "letrec"

-- the characters of a mark
abbrev pub mark_text : Mark → List ℕ
mark_text mark.LeftParenthesis = codes "("
mark_text mark.RightParenthesis = codes ")"
mark_text mark.LeftBracket = codes "["
mark_text mark.RightBracket = codes "]"
mark_text mark.LeftBrace = codes "{"
mark_text mark.RightBrace = codes "}"
mark_text mark.Less = codes "<"
mark_text mark.Greater = codes ">"
mark_text mark.Comma = codes ","
mark_text mark.Bar = codes "|"
mark_text mark.Equals = codes "="
mark_text mark.Slash = codes "/"
mark_text mark.Colon = codes ":"
mark_text mark.Arrow = codes "->"
mark_text mark.Note = codes "-|"
mark_text mark.Hash = codes "#"
mark_text mark.Tilde = codes "~"

-- a variable begins with A to Z or `_`, and is not `_` alone
abbrev pub is_variable_name : List ℕ → Bool
is_variable_name [] = false
is_variable_name (c ∷ []) = is_ascii_uppercase c
is_variable_name (c ∷ d ∷ name) = is_ascii_uppercase c || (c == 95)

-- ---- numbers

-- the number that decimal digits write
abbrev pub decimal_value : List ℕ → ℕ
decimal_value digits = fold (λ n c. 10 * n + (c - 48)) 0 digits

-- a number with its sign
abbrev pub signed : Bool → ℕ → ℤ
signed negative n = if negative then neg_ℤ (pos n) else pos n

-- a sign, if there is one: whether it is a minus, and what follows
pub data Sign : List ℕ → Bool → List ℕ → Type 0 where
  bare : {bytes : List ℕ} → Sign bytes false bytes
  plus : {bytes : List ℕ} → Sign (43 ∷ bytes) false bytes
  minus : {bytes : List ℕ} → Sign (45 ∷ bytes) true bytes

-- a point and at least one digit
pub data Fraction : List ℕ → List ℕ → Type 0 where
  point : {bytes digits rest : List ℕ} {d : ℕ} → Run is_ascii_digit bytes (d ∷ digits) rest → Fraction (46 ∷ bytes) rest

-- `e` or `E`, perhaps a sign, and at least one digit
pub data Exponent : List ℕ → List ℕ → Type 0 where
  power : {bytes unsigned digits rest : List ℕ} {c d : ℕ} {negative : Bool} → ((c == 101) || (c == 69)) ≡ true → Sign bytes negative unsigned → Run is_ascii_digit unsigned (d ∷ digits) rest → Exponent (c ∷ bytes) rest

-- an exponent, if there is one
pub data PerhapsExponent : List ℕ → List ℕ → Type 0 where
  scaled : {bytes rest : List ℕ} → Exponent bytes rest → PerhapsExponent bytes rest
  unscaled : {bytes : List ℕ} → ((rest : List ℕ) → Exponent bytes rest → ⊥) → PerhapsExponent bytes bytes

-- ---- characters

-- the bytes begin with this character in UTF-8
pub record FirstCharacter (bytes : List ℕ) (c : ℕ) (rest : List ℕ) : Type 0 where
  pub scalar : IsScalar c
  pub whole : bytes ≡ encode_utf8 c ++ rest

-- what a letter or a sign after a backslash stands for
abbrev pub escape_of : ℕ → Option ℕ
escape_of c =
    if c == 98 then Some 8
    else (if c == 100 then Some 127
    else (if c == 101 then Some 27
    else (if c == 102 then Some 12
    else (if c == 110 then Some 10
    else (if c == 114 then Some 13
    else (if c == 115 then Some 32
    else (if c == 116 then Some 9
    else (if c == 118 then Some 11
    else (if c == 92 then Some 92
    else (if c == 39 then Some 39
    else (if c == 34 then Some 34
    else None)))))))))))

-- as many octal digits as there are, one to three, and the number that they write
pub data Octal : List ℕ → ℕ → List ℕ → Type 0 where
  one_digit : {rest : List ℕ} {a : ℕ} → is_octal a ≡ true → StopsAt is_octal rest → Octal (a ∷ rest) (a - 48) rest
  two_digits : {rest : List ℕ} {a b : ℕ} → is_octal a ≡ true → is_octal b ≡ true → StopsAt is_octal rest → Octal (a ∷ b ∷ rest) (8 * (a - 48) + (b - 48)) rest
  three_digits : {rest : List ℕ} {a b c : ℕ} → is_octal a ≡ true → is_octal b ≡ true → is_octal c ≡ true → Octal (a ∷ b ∷ c ∷ rest) (8 * (8 * (a - 48) + (b - 48)) + (c - 48)) rest

-- what follows a backslash, and the character that it stands for
pub data Escape : List ℕ → ℕ → List ℕ → Type 0 where
  lettered : {rest : List ℕ} {c e : ℕ} → escape_of c ≡ Some e → Escape (c ∷ rest) e rest
  numbered : {bytes rest : List ℕ} {e : ℕ} → Octal bytes e rest → Escape bytes e rest

-- a character that stands for itself between quotes: no quote of this kind, no backslash, no line end
abbrev pub stands_raw : ℕ → ℕ → Bool
stands_raw quote c = not ((c == quote) || ((c == 92) || is_line_end c))

-- what follows the opening quote up to the closing one: the characters that it stands for
pub data Quoted (quote : ℕ) : List ℕ → List ℕ → List ℕ → Type 0 where
  closes : {rest : List ℕ} → Quoted quote (quote ∷ rest) [] rest
  stands : {bytes more characters rest : List ℕ} {c : ℕ} → FirstCharacter bytes c more → stands_raw quote c ≡ true → Quoted quote more characters rest → Quoted quote bytes (c ∷ characters) rest
  escapes : {bytes more characters rest : List ℕ} {c : ℕ} → Escape bytes c more → Quoted quote more characters rest → Quoted quote (92 ∷ bytes) (c ∷ characters) rest

-- ---- tokens

-- The bytes begin with a token of this shape, as long as it can be. 39 is the single quote, 34 the
-- double quote, 36 `$` and 92 the backslash. The range of an integer is no part of its spelling.
pub data TokenAt : List ℕ → Shape → List ℕ → Type 0 where
  spells_word : {bytes rest : List ℕ} {k : Keyword} → Run is_ascii_lowercase bytes (keyword_text k) rest → TokenAt bytes (lexemes.Word k) rest
  spells_mark : {bytes rest : List ℕ} {m : Mark} → bytes ≡ mark_text m ++ rest → TokenAt bytes (lexemes.Mark m) rest
  spells_atom : {bytes characters rest : List ℕ} → Quoted 39 bytes characters rest → TokenAt (39 ∷ bytes) (lexemes.Atom (encode_utf8_all characters)) rest
  spells_variable : {bytes name rest : List ℕ} → Run is_in_name bytes name rest → is_variable_name name ≡ true → TokenAt bytes (lexemes.Variable name) rest
  spells_integer : {bytes unsigned digits rest : List ℕ} {d : ℕ} {negative : Bool} → Sign bytes negative unsigned → Run is_ascii_digit unsigned (d ∷ digits) rest → ((r : List ℕ) → Fraction rest r → ⊥) → TokenAt bytes (lexemes.Integer (signed negative (decimal_value (d ∷ digits)))) rest
  spells_float : {bytes unsigned digits behind_digits behind_fraction rest : List ℕ} {d : ℕ} {negative : Bool} → Sign bytes negative unsigned → Run is_ascii_digit unsigned (d ∷ digits) behind_digits → Fraction behind_digits behind_fraction → PerhapsExponent behind_fraction rest → TokenAt bytes lexemes.Float rest
  spells_character : {bytes rest : List ℕ} {c : ℕ} → FirstCharacter bytes c rest → c ≢ 92 → TokenAt (36 ∷ bytes) (lexemes.Character c) rest
  spells_escape : {bytes rest : List ℕ} {c : ℕ} → Escape bytes c rest → TokenAt (36 ∷ 92 ∷ bytes) (lexemes.Character c) rest
  spells_text : {bytes characters rest : List ℕ} → Quoted 34 bytes characters rest → TokenAt (34 ∷ bytes) (lexemes.Text characters) rest
