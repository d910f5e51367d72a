use Rattle.std.proofs.Common.{◌≡◌, length, ◌≤◌, drop}
use Rattle.term_core.specs.Term.{meaning_of}
use Rattle.term_core.specs.Order.{order_of_terms, order_of_items}
use Rattle.term_core.specs.declared.term.Pair.TheDeep.{deep-Term}
use Rattle.term_core.proofs.order.+order.Given as goal

abbrev pub invariant-order_of-loop-left : goal.invariant-order_of-loop-left
invariant-order_of-loop-left l =
    (order_of_terms (meaning_of l.left) (meaning_of l.right) ≡ order_of_terms (meaning_of l.a) (meaning_of l.b)) × (deep-Term l.left ≤ deep-Term l.a)

abbrev pub invariant-order_of_tuples-loop-i : goal.invariant-order_of_tuples-loop-i
invariant-order_of_tuples-loop-i l =
    (length l.a-inside.items.items ≡ length l.b-inside.items.items) × (order_of_items (drop l.i l.a) (drop l.i l.b) ≡ order_of_items l.a l.b)
