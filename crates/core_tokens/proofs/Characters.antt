-- Characters in UTF-8.
use Rattle.std.proofs.Common.{◌≡◌, ℕ, ◌+◌, ◌<◌, List, [], ◌∷◌, ◌++◌, length, get_or, take, Some, None, refl, sym, ap, ◌∙◌}
use Rattle.std.specs.Prelude.{encode_utf8, encode_utf8_all}
use Rattle.std.specs.Str.{IsUtf8, is_utf8, chars}
use Rattle.std.proofs.lemmas.Bool.{false_from_ne_true}
use Rattle.std.proofs.lemmas.List.{take_more, append-nil, nil_from_length}
use Rattle.std.proofs.lemmas.Str.{encodes-append, chars-nil, chars_past_char, IsUtf8-past_char, encodes-chars, is_utf8-from_IsUtf8, IsUtf8-from_is_utf8}
use Rattle.core_tokens.specs.inside.Lexing.{only_of, only_character}

-- the bytes of one more character
pub encode_more : (cs : List ℕ) (i d : ℕ) → i < length cs → encode_utf8_all (take (i + 1) cs) ≡ encode_utf8_all (take i cs) ++ encode_utf8 (get_or cs i d)
encode_more cs i d lt = ap encode_utf8_all (take_more cs i d lt) ∙ encodes-append (take i cs) (get_or cs i d ∷ []) ∙ ap (λ (t : List ℕ). encode_utf8_all (take i cs) ++ t) (append-nil (encode_utf8 (get_or cs i d)))

pub only_one : (bytes rest : List ℕ) (c : ℕ) → IsUtf8 bytes → bytes ≡ encode_utf8 c ++ rest → length rest ≡ 0 → only_character bytes ≡ Some c
unfolding only_character
only_one bytes rest c utf8 e none =
    let nothing : rest ≡ [] = nil_from_length rest none in
    rw (is_utf8-from_IsUtf8 bytes utf8, chars_past_char bytes rest c utf8 e, nothing, chars-nil) refl

two_or_more : (c : ℕ) (cs : List ℕ) → (cs ≡ [] → ⊥) → only_of (c ∷ cs) ≡ None
two_or_more c [] h = absurd (h refl)
two_or_more c (d ∷ cs) h = refl

pub only_more : (bytes rest : List ℕ) (c : ℕ) → IsUtf8 bytes → bytes ≡ encode_utf8 c ++ rest → (length rest ≡ 0 → ⊥) → only_character bytes ≡ None
unfolding only_character
only_more bytes rest c utf8 e some =
    let more : chars rest ≡ [] → ⊥ = λ h. some (ap length (sym (encodes-chars rest (IsUtf8-past_char bytes rest c utf8 e)) ∙ ap encode_utf8_all h)) in
    rw (is_utf8-from_IsUtf8 bytes utf8, chars_past_char bytes rest c utf8 e) (two_or_more c (chars rest) more)

pub only_ill : (bytes : List ℕ) → (IsUtf8 bytes → ⊥) → only_character bytes ≡ None
unfolding only_character
only_ill bytes ill = rw (false_from_ne_true (is_utf8 bytes) (λ h. ill (IsUtf8-from_is_utf8 bytes h))) refl

pub only_nothing : (bytes : List ℕ) → IsUtf8 bytes → length bytes ≡ 0 → only_character bytes ≡ None
unfolding only_character
only_nothing bytes utf8 none = rw (is_utf8-from_IsUtf8 bytes utf8, nil_from_length bytes none, chars-nil) refl
