use Rattle.std.proofs.Common.{◌≡◌, ◌-◌, ◌==◌, true}
use Rattle.core_grammar.specs.inside.Decoder.{exactly_at, variable_at}
use Rattle.core_parser.specs.inside.ParserView.{state_of}
use Rattle.core_grammar.specs.inside.Loops.{with_front}
use Rattle.core_parser.proofs.parser.Parser.parameters.Given as goal

abbrev pub invariant-parameters : goal.invariant-parameters
invariant-parameters l = with_front l.parameters.items (exactly_at (variable_at l.levels) (l.taken == 0) (l.arity - l.taken) (state_of l.self)) ≡ exactly_at (variable_at l.fn.levels) true l.fn.arity (state_of l.fn.self)
