use Rattle.std.proofs.Common.{◌≡◌, ◌-◌, length}
use Rattle.core_tokens.specs.inside.Lexing.{quoted_in}
use Rattle.core_tokens.proofs.QuotedLoop.{with_front}
use Rattle.core_tokens.proofs.lexer.quoted.quoted.Given as goal

abbrev pub invariant-loop : goal.invariant-loop
invariant-loop l = with_front l.characters.items (quoted_in (length l.text - l.counter) l.quote l.rest) ≡ quoted_in (length l.text) l.quote l.text
