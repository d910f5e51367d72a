use Rattle.std.proofs.Common.{◌≤◌, length}
use Rattle.core_tokens.specs.inside.Lexing.{Skips}
use Rattle.core_tokens.proofs.lexer.blanks.behind_blanks.Given as goal

abbrev pub invariant-loop-after : goal.invariant-loop-after
invariant-loop-after l = Skips l.text l.rest × (length l.rest ≤ length l.text)

abbrev pub decreases-loop-after : goal.decreases-loop-after
decreases-loop-after l = length l.rest
