use Rattle.std.proofs.Common.{◌≡◌, map, ◌+◌, ◌-◌, ◌*◌}
use Rattle.core_grammar.specs.inside.Decoder.{items_at, commas_at, pattern_at}
use Rattle.core_parser.specs.inside.ParserView.{state_of}
use Rattle.core_tree.specs.Tree.{pattern_of}
use Rattle.core_grammar.specs.inside.Loops.{with_front}
use Rattle.core_parser.proofs.parser.Parser.+patterns.Given as goal

abbrev pub decreases-pattern : goal.decreases-pattern
decreases-pattern l = 8 * l.levels

abbrev pub decreases-alias : goal.decreases-alias
decreases-alias l = 8 * l.levels + 5

abbrev pub decreases-pattern_form : goal.decreases-pattern_form
decreases-pattern_form l = 8 * l.levels + 6

abbrev pub decreases-pattern_in_note : goal.decreases-pattern_in_note
decreases-pattern_in_note l = 8 * l.levels + 5

abbrev pub decreases-pattern_items : goal.decreases-pattern_items
decreases-pattern_items l = 8 * l.levels + 3

abbrev pub decreases-pattern_list : goal.decreases-pattern_list
decreases-pattern_list l = 8 * l.levels + 5

abbrev pub decreases-pattern_tuple : goal.decreases-pattern_tuple
decreases-pattern_tuple l = 8 * l.levels + 5

abbrev pub decreases-patterns : goal.decreases-patterns
decreases-patterns l = 8 * l.levels + 4

abbrev pub invariant-pattern_items-items : goal.invariant-pattern_items-items
invariant-pattern_items-items l =
    with_front (map pattern_of l.items.items) (commas_at (pattern_at l.levels) (l.count - l._taken) (state_of l.self)) ≡ items_at (pattern_at l.fn.levels) (state_of l.fn.self)
