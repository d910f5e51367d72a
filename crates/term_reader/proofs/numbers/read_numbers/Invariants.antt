use Rattle.std.proofs.Common.{length}
use Rattle.term_reader.proofs.DottedTexts.{ReadsNumbers}
use Rattle.term_reader.proofs.numbers.read_numbers.Given as goal

abbrev pub invariant-numbers : goal.invariant-numbers
invariant-numbers l = ReadsNumbers l.text l.numbers.items l.rest

abbrev pub decreases-numbers : goal.decreases-numbers
decreases-numbers l = length l.rest
