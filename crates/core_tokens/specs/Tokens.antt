-- A text as its tokens, with blanks and comments between them.
use Rattle.std.specs.Prelude.{◌≡◌, ◌≢◌, ℕ, ◌-◌, ◌^◌, ◌<◌, ℤ, pos, negsuc, Bool, true, false, nat_lt, List, [], ◌∷◌, length}
use Rattle.core_tokens.specs.declared.fault.ReadFault.{ReadFault}
use Rattle.core_tokens.specs.declared.fault.ReadFault.TheVariants as fault
use Rattle.core_tokens.specs.declared.token.Mark.TheVariants as mark
use Rattle.core_tokens.specs.Piece.{Shape, Piece}
use Rattle.core_tokens.specs.Piece as lexemes
use Rattle.core_tokens.specs.TokenText.{is_blank, is_in_line, Run, TokenAt}
use Rattle.term_core.specs.Integers.{has_64_bits}

-- the token is the mark `/`, after which an integer is an arity
abbrev pub is_slash : Shape → Bool
is_slash (lexemes.Mark mark.Slash) = true
is_slash _ = false

-- the integer is an arity: 0 to 255
abbrev pub fits_arity : ℤ → Bool
fits_arity (pos n) = nat_lt n 256
fits_arity (negsuc n) = false

-- an integer is in range: an arity after `/`, and elsewhere one of 64 bits
abbrev pub integer_in_range : Bool → ℤ → Bool
integer_in_range true n = fits_arity n
integer_in_range false n = has_64_bits n

-- a token is in range where it is no integer, or one in range
abbrev pub in_range : Bool → Shape → Bool
in_range behind_slash (lexemes.Integer n) = integer_in_range behind_slash n
in_range behind_slash _ = true

-- The front of the bytes is these tokens, and rest follows them. The bytes are the end of a text that
-- is stop bytes long; the two truth values say whether `/` is the last token before them and before rest.
pub data Spelt (stop : ℕ) : Bool → List ℕ → List Piece → Bool → List ℕ → Type 0 where
  none : {behind_slash : Bool} {bytes : List ℕ} → Spelt stop behind_slash bytes [] behind_slash bytes
  blank : {behind_slash last_slash : Bool} {bytes rest : List ℕ} {ps : List Piece} {c : ℕ} → is_blank c ≡ true → Spelt stop behind_slash bytes ps last_slash rest → Spelt stop behind_slash (c ∷ bytes) ps last_slash rest
  comment : {behind_slash last_slash : Bool} {bytes line more rest : List ℕ} {ps : List Piece} → Run is_in_line bytes line more → Spelt stop behind_slash more ps last_slash rest → Spelt stop behind_slash (37 ∷ bytes) ps last_slash rest
  token : {behind_slash last_slash : Bool} {bytes more rest : List ℕ} {s : Shape} {ps : List Piece} → TokenAt bytes s more → in_range behind_slash s ≡ true → Spelt stop (is_slash s) more ps last_slash rest → Spelt stop behind_slash bytes (record { at = stop - length bytes; shape = s } ∷ ps) last_slash rest

-- the text is these tokens
abbrev pub AreTokens : List ℕ → List Piece → Type 0
AreTokens text ps = (last_slash : Bool) × Spelt (length text) false text ps last_slash []

-- what is here is no blank, no comment and no token
abbrev pub BeginsNoToken : List ℕ → Type 0
BeginsNoToken [] = ⊥
BeginsNoToken (c ∷ bytes) = (is_blank c ≡ false) × (c ≢ 37) × ((s : Shape) (rest : List ℕ) → TokenAt (c ∷ bytes) s rest → ⊥)

-- an integer out of range is here
abbrev pub BeginsBadInteger : Bool → List ℕ → Type 0
BeginsBadInteger behind_slash bytes = (n : ℤ) × (rest : List ℕ) × TokenAt bytes (lexemes.Integer n) rest × (integer_in_range behind_slash n ≡ false)

-- the text is tokens up to a place within it, and there the fact holds
abbrev pub TokensUpTo : List ℕ → ℕ → (Bool → List ℕ → Type 0) → Type 0
TokensUpTo text place Fact = (ps : List Piece) × (last_slash : Bool) × (rest : List ℕ) × Spelt (length text) false text ps last_slash rest × (place ≡ length text - length rest) × (place < length text) × Fact last_slash rest

-- what a fault of the tokens says of the text: a place where no token begins, or where an integer is out of range, after tokens alone
abbrev pub IsTokenFault : List ℕ → ReadFault → Type 0
IsTokenFault text (fault.BadToken place) = TokensUpTo text place (λ _ rest. BeginsNoToken rest)
IsTokenFault text (fault.BadInteger place) = TokensUpTo text place BeginsBadInteger
IsTokenFault text fault.Memory = Unit {0}
IsTokenFault text _ = ⊥
