-- The texts of atoms, wherever they lie.
use Rattle.std.specs.Prelude.{ℕ, List, string_bytes}
use Rattle.term_core.specs.Words.{text_of_word}
use Rattle.term_core.specs.declared.atom.Text.{Text}
use Rattle.term_core.specs.declared.atom.Text.TheVariants.{Known, Shared}

abbrev pub text_in : Text → List ℕ
text_in (Known word) = text_of_word word
text_in (Shared text) = string_bytes text.value
