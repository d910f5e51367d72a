use Rattle.std.proofs.Common.{◌≡◌, ◌-◌}
use Rattle.core_grammar.specs.inside.Decoder.{items_at, commas_at}
use Rattle.core_grammar.specs.inside.DecoderModules.{attribute_at}
use Rattle.core_reader.specs.inside.ReaderView.{state_in}
use Rattle.core_grammar.specs.inside.Loops.{with_front}
use Rattle.core_reader.proofs.grammar.ModuleReader.attribute_items.Given as goal

abbrev pub invariant-items : goal.invariant-items
invariant-items l = with_front l.items.items (commas_at (attribute_at l.levels) (l.count - l._taken) (state_in l.self)) ≡ items_at (attribute_at l.fn.levels) (state_in l.fn.self)
