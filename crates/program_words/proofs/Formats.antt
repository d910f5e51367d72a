-- What the texts of `--format` ask for, of which there is at most one.
use Rattle.std.proofs.Common.{◌≡◌, ◌≤◌, Bool, true, false, not, List, [], ◌∷◌, length, refl, sym, ap, inl, inr, arith}
use Rattle.std.specs.Prelude.{slice_get}
use Rattle.clap.specs.Words.{Text}
use Rattle.program_words.specs.Words.{AreFormats, ArePlain, HasNoFormat, IsFormat}
use Rattle.program_words.specs.inside.Found.{asks_terms, is_unknown}

pub format_once : (texts : List Text) (terms : Bool) → IsFormat texts terms → length texts ≤ 1
format_once [] terms is = omega arith
format_once (text ∷ []) terms is = omega arith
format_once (text ∷ (other ∷ rest)) terms is = absurd is

pub format_plain : (texts : List Text) (terms : Bool) → IsFormat texts terms → ArePlain texts
format_plain [] terms is = tt
format_plain (text ∷ []) terms is = (is.0, tt)
format_plain (text ∷ (other ∷ rest)) terms is = absurd is

-- the first of them asks for terms where they do
pub format_asks : (texts : List Text) (terms : Bool) → IsFormat texts terms → asks_terms (slice_get texts 0) ≡ terms
format_asks [] terms is = sym is
format_asks (text ∷ []) terms is = sym is.1
format_asks (text ∷ (other ∷ rest)) terms is = absurd is

-- and is that of a format where each is
pub format_known : (texts : List Text) → AreFormats texts → is_unknown (slice_get texts 0) ≡ false
format_known [] are = refl
format_known (text ∷ rest) are = ap not are.0

-- or of none
pub format_unknown : (texts : List Text) (terms : Bool) → IsFormat texts terms → HasNoFormat texts → is_unknown (slice_get texts 0) ≡ true
format_unknown [] terms is none = absurd none
format_unknown (text ∷ []) terms is (inl other) = ap not other
format_unknown (text ∷ []) terms is (inr none) = absurd none
format_unknown (text ∷ (other ∷ rest)) terms is none = absurd is
