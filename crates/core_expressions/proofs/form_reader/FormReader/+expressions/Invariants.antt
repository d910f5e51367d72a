use Rattle.std.proofs.Common.{◌≡◌, map, ◌+◌, ◌-◌, ◌*◌, ◌==◌, true}
use Rattle.core_grammar.specs.inside.Decoder.{word_behind, items_at, commas_at, exactly_at, row_at}
use Rattle.core_grammar.specs.inside.DecoderForms.{expression_at, start_at, clause_at, clauses_at}
use Rattle.core_expressions.specs.inside.FormView.{state_in}
use Rattle.core_tree.specs.Tree.{tree_of}
use Rattle.core_grammar.specs.inside.Loops.{with_front}
use Rattle.core_expressions.proofs.form_reader.FormReader.+expressions.Given as goal

abbrev pub decreases-expression : goal.decreases-expression
decreases-expression l = 11 * l.levels

abbrev pub decreases-form : goal.decreases-form
decreases-form l = 11 * l.levels + 10

abbrev pub decreases-mark_form : goal.decreases-mark_form
decreases-mark_form l = 11 * l.levels + 9

abbrev pub decreases-word_form : goal.decreases-word_form
decreases-word_form l = 11 * l.levels + 9

abbrev pub decreases-tuple : goal.decreases-tuple
decreases-tuple l = 11 * l.levels + 5

abbrev pub decreases-list : goal.decreases-list
decreases-list l = 11 * l.levels + 5

abbrev pub decreases-values : goal.decreases-values
decreases-values l = 11 * l.levels + 5

abbrev pub decreases-let_in : goal.decreases-let_in
decreases-let_in l = 11 * l.levels + 5

abbrev pub decreases-do_then : goal.decreases-do_then
decreases-do_then l = 11 * l.levels + 5

abbrev pub decreases-try_in : goal.decreases-try_in
decreases-try_in l = 11 * l.levels + 5

abbrev pub decreases-body : goal.decreases-body
decreases-body l = 11 * l.levels + 1

abbrev pub decreases-behind_in : goal.decreases-behind_in
decreases-behind_in l = 11 * l.levels + 1

abbrev pub decreases-branches : goal.decreases-branches
decreases-branches l = 11 * l.levels + 3

abbrev pub decreases-success : goal.decreases-success
decreases-success l = 11 * l.levels + 2

abbrev pub decreases-handler : goal.decreases-handler
decreases-handler l = 11 * l.levels + 2

abbrev pub decreases-bound : goal.decreases-bound
decreases-bound l = 11 * l.levels + 2

abbrev pub decreases-catch : goal.decreases-catch
decreases-catch l = 11 * l.levels + 5

abbrev pub decreases-apply : goal.decreases-apply
decreases-apply l = 11 * l.levels + 5

abbrev pub decreases-call : goal.decreases-call
decreases-call l = 11 * l.levels + 5

abbrev pub decreases-primop : goal.decreases-primop
decreases-primop l = 11 * l.levels + 5

abbrev pub decreases-case : goal.decreases-case
decreases-case l = 11 * l.levels + 8

abbrev pub decreases-expression_in_note : goal.decreases-expression_in_note
decreases-expression_in_note l = 11 * l.levels + 5

abbrev pub decreases-expressions : goal.decreases-expressions
decreases-expressions l = 11 * l.levels + 4

abbrev pub decreases-expression_items : goal.decreases-expression_items
decreases-expression_items l = 11 * l.levels + 3

abbrev pub decreases-arguments : goal.decreases-arguments
decreases-arguments l = 11 * l.levels + 3

abbrev pub decreases-behind_patterns : goal.decreases-behind_patterns
decreases-behind_patterns l = 11 * l.levels + 3

abbrev pub decreases-guarded : goal.decreases-guarded
decreases-guarded l = 11 * l.levels + 2

abbrev pub decreases-clause_of : goal.decreases-clause_of
decreases-clause_of l = 11 * l.levels + 4

abbrev pub decreases-start : goal.decreases-start
decreases-start l = 11 * l.levels

abbrev pub decreases-started : goal.decreases-started
decreases-started l = 11 * l.levels + 5

abbrev pub decreases-inside_start : goal.decreases-inside_start
decreases-inside_start l = 11 * l.levels + 6

abbrev pub decreases-start_in_note : goal.decreases-start_in_note
decreases-start_in_note l = 11 * l.levels + 7

abbrev pub decreases-noted_start : goal.decreases-noted_start
decreases-noted_start l = 11 * l.levels + 8

abbrev pub decreases-clause : goal.decreases-clause
decreases-clause l = 11 * l.levels + 5

abbrev pub decreases-clauses : goal.decreases-clauses
decreases-clauses l = 11 * l.levels + 6

abbrev pub decreases-choices : goal.decreases-choices
decreases-choices l = 11 * l.levels + 7

abbrev pub decreases-expiry : goal.decreases-expiry
decreases-expiry l = 11 * l.levels + 2

abbrev pub decreases-receive : goal.decreases-receive
decreases-receive l = 11 * l.levels + 8

abbrev pub invariant-expression_items-items : goal.invariant-expression_items-items
invariant-expression_items-items l =
    with_front (map tree_of l.items.items) (commas_at (expression_at l.own l.levels) (l.count - l._taken) (state_in l.self)) ≡ items_at (expression_at l.own l.fn.levels) (state_in l.fn.self)

abbrev pub invariant-arguments-arguments : goal.invariant-arguments-arguments
invariant-arguments-arguments l =
    with_front (map tree_of l.arguments.items) (exactly_at (expression_at l.own l.levels) (l.taken == 0) (l.arity - l.taken) (state_in l.self)) ≡ exactly_at (expression_at l.own l.fn.levels) true l.fn.arity (state_in l.fn.self)

abbrev pub invariant-clauses-clauses : goal.invariant-clauses-clauses
invariant-clauses-clauses l =
    with_front l.clauses.items (row_at (clause_at l.own l.levels (expression_at l.own l.levels) (start_at l.own l.levels) l.subject) (word_behind l.subject) (l.count - l._taken) (state_in l.self))
    ≡ clauses_at l.own l.fn.levels (expression_at l.own l.fn.levels) (start_at l.own l.fn.levels) l.fn.subject l.fn.front.items (state_in l.fn.self)
