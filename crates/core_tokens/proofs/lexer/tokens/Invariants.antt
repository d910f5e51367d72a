use Rattle.std.proofs.Common.{length}
use Rattle.core_tokens.proofs.SoFar.{SoFar}
use Rattle.core_tokens.proofs.lexer.tokens.Given as goal

abbrev pub invariant-loop-rest : goal.invariant-loop-rest
invariant-loop-rest l = SoFar l.text l.tokens.items l.behind_slash l.rest

abbrev pub decreases-loop-rest : goal.decreases-loop-rest
decreases-loop-rest l = length l.rest
