use Rattle.std.proofs.Common.{subst}
use Rattle.std.proofs.lemmas.List.{take_all}
use Rattle.world_model.specs.Changes.{after}
use Rattle.ets_rules.specs.Changes.{all_changes_of_tables}
use Rattle.ets_rules.specs.Tables.{Hold}
use Rattle.ets_rules.proofs.Planning.{changed_more}
use Rattle.ets_rules.proofs.tables.Tables.change_each.Goals as goal

pub loop-change-init : goal.loop-change-init
loop-change-init c = λ v hold can. hold

pub loop-change-preserved : goal.loop-change-preserved
loop-change-preserved c = λ v hold can.
    changed_more c.loop-change.self c.change.new.self c.args.changes.now c.loop-change.change-index c.change-item.result v c.loop-change-test.true c.change-item.is can (c.loop-change.invariant v hold can) (λ u are now. c.in_ok-change.ensures u are now)

pub returns : goal.returns
returns c = λ v hold can. subst (λ cs. Hold c.loop-change.self (after (all_changes_of_tables cs) v)) (take_all c.loop-change.change-index c.args.changes.now c.loop-change-test.false) (c.loop-change.invariant v hold can)
