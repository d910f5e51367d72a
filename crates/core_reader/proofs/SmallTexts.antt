-- The text of a small module says it.
use Rattle.std.proofs.Common.{◌≡◌, ℕ, ◌≤◌, pos, true, List, [], ◌∷◌, ◌++◌, length, codes, ap, sym, refl, arith}
use Rattle.std.specs.Char.{IsScalar}
use Rattle.std.specs.Prelude.{Contains, encode_utf8}
use Rattle.std.specs.Str.{IsUtf8}
use Rattle.core_tokens.specs.declared.token.Keyword.TheVariants as k
use Rattle.core_tokens.specs.declared.token.Mark.TheVariants as m
use Rattle.core_tokens.specs.Piece.{Piece}
use Rattle.core_tokens.specs.Text.{text_limit}
use Rattle.core_tokens.specs.TokenText.{Fraction, Quoted, bare, closes, halts, point, spells_atom, spells_integer, spells_mark, spells_word, stands, stands_raw, takes}
use Rattle.core_tokens.specs.Tokens.{AreTokens, blank, none, token}
use Rattle.core_grammar.specs.Grammar.{Spells, a_definition, a_module, a_number, atom, ends_here, goes_on, integer, is_fun, mark, names_function, spells_none, spells_one, spells_some, stands_bare, word}
use Rattle.core_scopes.specs.Scopes.{IsLawful, main_function}
use Rattle.core_reader.specs.SmallModule.{ASmallTextIsSaid, small_module, small_text}

-- ---- its tokens

-- a character of one byte between quotes
letter : (c : ℕ) {more characters rest : List ℕ} → IsScalar c → encode_utf8 c ≡ c ∷ [] → stands_raw 39 c ≡ true → Quoted 39 more characters rest → Quoted 39 (c ∷ more) (c ∷ characters) rest
letter c {more} scalar alone raw others = stands (record { scalar = scalar; whole = ap (λ w. w ++ more) (sym alone) }) raw others

-- no point comes first
unpointed : (c : ℕ) (bytes : List ℕ) → (c ≡ 46 → ⊥) → (rest : List ℕ) → Fraction (c ∷ bytes) rest → ⊥
unpointed c bytes other rest (point run) = other refl

small_pieces : List Piece
small_pieces =
    word 0 k.Module ∷
    atom 7 (codes "m") ∷
    mark 11 m.LeftBracket ∷
    atom 12 (codes "main") ∷
    mark 18 m.Slash ∷
    integer 19 (pos 0) ∷
    mark 20 m.RightBracket ∷
    word 22 k.Attributes ∷
    mark 33 m.LeftBracket ∷
    mark 34 m.RightBracket ∷
    atom 36 (codes "main") ∷
    mark 42 m.Slash ∷
    integer 43 (pos 0) ∷
    mark 45 m.Equals ∷
    word 47 k.Fun ∷
    mark 51 m.LeftParenthesis ∷
    mark 52 m.RightParenthesis ∷
    mark 54 m.Arrow ∷
    integer 57 (pos 1) ∷
    word 59 k.End ∷
    []

small_tokens : AreTokens small_text small_pieces
unfolding small_pieces lib.Utf8.encode
small_tokens = (
  _,
  token (spells_word {k = k.Module} (takes refl (takes refl (takes refl (takes refl (takes refl (takes refl (halts refl)))))))) refl (
      blank refl (
      token (spells_atom (letter 109 refl refl refl closes)) refl (
      blank refl (
      token (spells_mark {m = m.LeftBracket} refl) refl (
      token (spells_atom (letter 109 refl refl refl (letter 97 refl refl refl (letter 105 refl refl refl (letter 110 refl refl refl closes))))) refl (
      token (spells_mark {m = m.Slash} refl) refl (
      token (spells_integer {d = 48} bare (takes refl (halts refl)) (unpointed 93 _ (λ e. absurd (omega (arith, e))))) refl (
      token (spells_mark {m = m.RightBracket} refl) refl (
      blank refl (
      token (spells_word {k = k.Attributes} (takes refl (takes refl (takes refl (takes refl (takes refl (takes refl (takes refl (takes refl (takes refl (takes refl (halts refl)))))))))))) refl (
      blank refl (
      token (spells_mark {m = m.LeftBracket} refl) refl (
      token (spells_mark {m = m.RightBracket} refl) refl (
      blank refl (
      token (spells_atom (letter 109 refl refl refl (letter 97 refl refl refl (letter 105 refl refl refl (letter 110 refl refl refl closes))))) refl (
      token (spells_mark {m = m.Slash} refl) refl (
      token (spells_integer {d = 48} bare (takes refl (halts refl)) (unpointed 32 _ (λ e. absurd (omega (arith, e))))) refl (
      blank refl (
      token (spells_mark {m = m.Equals} refl) refl (
      blank refl (
      token (spells_word {k = k.Fun} (takes refl (takes refl (takes refl (halts refl))))) refl (
      blank refl (
      token (spells_mark {m = m.LeftParenthesis} refl) refl (
      token (spells_mark {m = m.RightParenthesis} refl) refl (
      blank refl (
      token (spells_mark {m = m.Arrow} refl) refl (
      blank refl (
      token (spells_integer {d = 49} bare (takes refl (halts refl)) (unpointed 32 _ (λ e. absurd (omega (arith, e))))) refl (
      blank refl (
      token (spells_word {k = k.End} (takes refl (takes refl (takes refl (halts tt))))) refl (none))))))))))))))))))))))))))))))),
)

-- ---- what they spell

small_spelt : Spells small_pieces small_module
unfolding small_pieces
small_spelt =
    stands_bare (a_module
    (spells_some (spells_one (stands_bare (names_function (omega arith)))))
    spells_none
    (goes_on (stands_bare (a_definition (stands_bare (names_function (omega arith))) (stands_bare (is_fun spells_none a_number)) refl)) ends_here))

-- ---- its functions

is_main : Contains (main_function ∷ []) main_function
is_main = (0, omega arith, refl)

small_lawful : IsLawful small_module
small_lawful = record {
  closed = ((tt, tt), tt);
  distinct = (λ there. absurd (omega (arith, there.1)), tt);
  exported = (is_main, tt);
  main = is_main;
}

small_utf8 : IsUtf8 small_text
unfolding lib.Utf8.encode
small_utf8 = (small_text, (refl, refl))

small_fits : length small_text ≤ text_limit
small_fits = omega arith

pub small_text_said : ASmallTextIsSaid
small_text_said = record { fits = small_fits; utf8 = small_utf8; pieces = small_pieces; tokens = small_tokens; spelt = small_spelt; lawful = small_lawful }
