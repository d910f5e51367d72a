use Rattle.std.proofs.Common.{◌≡◌, ◌-◌}
use Rattle.core_grammar.specs.inside.Decoder.{items_at, commas_at, variable_at}
use Rattle.core_parser.specs.inside.ParserView.{state_of}
use Rattle.core_grammar.specs.inside.Loops.{with_front}
use Rattle.core_parser.proofs.parser.Parser.variable_items.Given as goal

abbrev pub invariant-items : goal.invariant-items
invariant-items l = with_front l.items.items (commas_at (variable_at l.levels) (l.count - l._taken) (state_of l.self)) ≡ items_at (variable_at l.fn.levels) (state_of l.fn.self)
