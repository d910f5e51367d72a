-- Parts that are put into objects, with their positions.
use Rattle.std.specs.Prelude.{ℕ}
use Rattle.term_core.specs.Meaning.{Meaning}
use Rattle.term_core.specs.Term.{meaning_of}
use Rattle.term_core.specs.declared.term.Term.{Term}

abbrev pub part_in : ℕ × Term → ℕ × Meaning
part_in part = (part.0, meaning_of part.1)
