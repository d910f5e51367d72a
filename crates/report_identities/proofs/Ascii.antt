-- Bytes that are ASCII are the text of characters.
use Rattle.std.proofs.Common.{◌≡◌, ℕ, zero, suc, ◌<◌, Bool, true, List, [], ◌∷◌, slice_index, nat_lt, IsUtf8, arith, ltb-true}
use Rattle.std.proofs.lemmas.Bool.{and_parts}
use Rattle.std.proofs.lemmas.Str.{IsUtf8-from_ascii}
use Rattle.std.specs.List.{list_all}

abbrev pub is_ascii : List ℕ → Bool
is_ascii bytes = list_all (λ byte. nat_lt byte 128) bytes

ascii_by : (bytes : List ℕ) → is_ascii bytes ≡ true → (i : ℕ) → slice_index bytes i < 128
ascii_by [] e i = omega arith
ascii_by (b ∷ bs) e zero = ltb-true b 128 (and_parts _ _ e).0
ascii_by (b ∷ bs) e (suc i) = ascii_by bs (and_parts _ _ e).1 i

-- by a test
pub utf8_by : (bytes : List ℕ) → is_ascii bytes ≡ true → IsUtf8 bytes
utf8_by bytes e = IsUtf8-from_ascii bytes (ascii_by bytes e)
