use Rattle.std.proofs.Common.{ap, subst, sym, ◌∙◌}
use Rattle.std.specs.Prelude.{option_map}
use Rattle.world_model.specs.Changes.{after}
use Rattle.world_model.specs.TableLines.{table_line}
use Rattle.world_model.specs.TableRules.{found_line}
use Rattle.ets_calls.specs.Arguments.{argument_in}
use Rattle.ets_calls.specs.Calls.{call_in}
use Rattle.ets_store.specs.Tables.{settings_in}
use Rattle.ets_tables.specs.Ends.{transfers_in}
use Rattle.ets_rules.proofs.Holding.{holds_rows, served_at}
use Rattle.ets_rules.proofs.Planning.{line_applies, planned_done, planned_told}
use Rattle.ets_rules.specs.Tables.{Hold, found_of}
use Rattle.ets_rules.proofs.tables.Tables.apply.Goals as goal

pub returns-clause-tables : goal.returns-clause-tables
returns-clause-tables c = λ v p hold rule.
    let call = call_in c.args.call.now in
    let table = c.in-Some.found.table.now in
    let f = found_of c.in-Some.found in
    let found = c.in-Some.ensures.found v hold in
    let served = served_at v p (argument_in c.args.argument.now) call f found rule in
    let rows = holds_rows c.args.self.now v f.ref table hold c.in-Some.ensures.held in
    let is = c.in_ok-served.ensures.changes v p rows served.0 served.1 in
    let there = sym (hold.are.tables f.ref) ∙ ap (option_map settings_in) c.in-Some.ensures.held in
    subst (λ o. Hold c.change_all.new.self (after (found_line v p call o).changes v)) found
    (planned_done c.args.self.now c.change_all.new.self table.owner c.in_ok-served.served.changes.items _ c.in_ok-served.served.transfer (table_line v p f call).changes v
    c.as_slice.ensures.value is (line_applies v v p f call there) hold c.in_ok-change_all.ensures.ok)

pub returns-clause-answer : goal.returns-clause-answer
returns-clause-answer c = λ v p hold rule.
    let call = call_in c.args.call.now in
    let f = found_of c.in-Some.found in
    let found = c.in-Some.ensures.found v hold in
    let served = served_at v p (argument_in c.args.argument.now) call f found rule in
    let rows = holds_rows c.args.self.now v f.ref c.in-Some.found.table.now hold c.in-Some.ensures.held in
    c.in_ok-served.ensures.answer v p rows served.0 served.1 ∙ ap (λ o. (found_line v p call o).answer) found

pub returns-clause-told : goal.returns-clause-told
returns-clause-told c = λ v p hold rule.
    let call = call_in c.args.call.now in
    let table = c.in-Some.found.table.now in
    let f = found_of c.in-Some.found in
    let found = c.in-Some.ensures.found v hold in
    let served = served_at v p (argument_in c.args.argument.now) call f found rule in
    let rows = holds_rows c.args.self.now v f.ref table hold c.in-Some.ensures.held in
    planned_told table.owner c.in_ok-served.served.changes.items c.in_ok-served.served.transfer (table_line v p f call).changes (c.in_ok-served.ensures.changes v p rows served.0 served.1)
    ∙ ap (λ o. transfers_in (found_line v p call o).changes) found
