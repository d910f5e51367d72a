use Rattle.std.proofs.Common.{◌≡◌, drop}
use Rattle.term_core.specs.Term.{meaning_of}
use Rattle.core_stack.specs.Matching.{is_text}
use Rattle.core_stack.proofs.matching.is_text.Given as goal

-- what is left of the value is to be what is left of the text
abbrev pub invariant-characters : goal.invariant-characters
invariant-characters l = is_text (drop l.character-index l.characters) (meaning_of l.left) ≡ is_text l.characters (meaning_of l.value)
