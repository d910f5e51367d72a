use Rattle.std.proofs.Common.{◌≡◌, map, take}
use Rattle.std.specs.Prelude.{pos}
use Rattle.term_core.specs.Meaning.{Int}
use Rattle.term_core.specs.Term.{meaning_of}
use Rattle.core_eval.proofs.enter.text.Given as goal

-- the numbers of the characters so far
abbrev pub invariant-characters : goal.invariant-characters
invariant-characters l = map meaning_of l.numbers.items ≡ map (λ c. Int (pos c)) (take l.character-index l.characters)
