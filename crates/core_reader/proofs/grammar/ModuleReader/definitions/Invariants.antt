use Rattle.std.proofs.Common.{◌≡◌, ◌-◌, map}
use Rattle.core_grammar.specs.inside.Decoder.{row_at, rows_at}
use Rattle.core_tokens.specs.declared.token.Keyword.TheVariants as k
use Rattle.core_grammar.specs.inside.DecoderModules.{definition_at}
use Rattle.core_scopes.specs.Drafts.{defined_of}
use Rattle.core_reader.specs.inside.ReaderView.{state_in}
use Rattle.core_grammar.specs.inside.Loops.{with_front}
use Rattle.core_reader.proofs.grammar.ModuleReader.definitions.Given as goal

abbrev pub invariant-definitions : goal.invariant-definitions
invariant-definitions l = with_front (map defined_of l.definitions.items) (row_at (definition_at l.own l.levels) k.End (l.count - l._taken) (state_in l.self)) ≡ rows_at (definition_at l.own l.levels) k.End (state_in l.fn.self)
