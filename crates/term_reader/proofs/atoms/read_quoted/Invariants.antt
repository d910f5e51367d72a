use Rattle.std.proofs.Common.{length}
use Rattle.term_reader.proofs.QuotedTexts.{ReadsSome}
use Rattle.term_reader.proofs.atoms.read_quoted.Given as goal

abbrev pub invariant-bytes : goal.invariant-bytes
invariant-bytes l = ReadsSome l.text l.bytes.items l.rest

abbrev pub decreases-bytes : goal.decreases-bytes
decreases-bytes l = length l.rest
