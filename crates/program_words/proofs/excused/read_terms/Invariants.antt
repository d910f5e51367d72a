use Rattle.std.proofs.Common.{map, take}
use Rattle.std.specs.Borrow.{Bor}
use Rattle.clap.specs.Words.{Text}
use Rattle.term_core.specs.Term.{meaning_of}
use Rattle.program_words.specs.inside.Found.{AreTextsOf}
use Rattle.program_words.proofs.excused.read_terms.Given as goal

-- the terms of the texts before this one
abbrev pub invariant-loop-text : goal.invariant-loop-text
invariant-loop-text l = AreTextsOf (map meaning_of l.terms.items) (take l.text-index (map (λ (text : Bor Text). text.now) l.texts))
