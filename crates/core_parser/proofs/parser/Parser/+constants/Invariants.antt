use Rattle.std.proofs.Common.{◌≡◌, map, ◌+◌, ◌-◌, ◌*◌}
use Rattle.core_grammar.specs.inside.Decoder.{items_at, commas_at, constant_at}
use Rattle.core_parser.specs.inside.ParserView.{state_of}
use Rattle.core_tree.specs.Tree.{constant_of}
use Rattle.core_grammar.specs.inside.Loops.{with_front}
use Rattle.core_parser.proofs.parser.Parser.+constants.Given as goal

abbrev pub decreases-constant : goal.decreases-constant
decreases-constant l = 8 * l.levels

abbrev pub decreases-constant_form : goal.decreases-constant_form
decreases-constant_form l = 8 * l.levels + 7

abbrev pub decreases-constant_in_note : goal.decreases-constant_in_note
decreases-constant_in_note l = 8 * l.levels + 6

abbrev pub decreases-constant_items : goal.decreases-constant_items
decreases-constant_items l = 8 * l.levels + 3

abbrev pub decreases-constant_list : goal.decreases-constant_list
decreases-constant_list l = 8 * l.levels + 5

abbrev pub decreases-constant_tuple : goal.decreases-constant_tuple
decreases-constant_tuple l = 8 * l.levels + 5

abbrev pub decreases-constants : goal.decreases-constants
decreases-constants l = 8 * l.levels + 4

abbrev pub decreases-note : goal.decreases-note
decreases-note l = 8 * l.levels + 5

abbrev pub invariant-constant_items-items : goal.invariant-constant_items-items
invariant-constant_items-items l =
    with_front (map constant_of l.items.items) (commas_at (constant_at l.levels) (l.count - l._taken) (state_of l.self)) ≡ items_at (constant_at l.fn.levels) (state_of l.fn.self)
