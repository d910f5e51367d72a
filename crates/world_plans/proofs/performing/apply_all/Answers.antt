use Rattle.std.proofs.Common.{subst}
use Rattle.std.proofs.lemmas.List.{take_all}
use Rattle.world_model.specs.Changes.{after}
use Rattle.world_records.specs.Changes.{all_changes_in}
use Rattle.world_records.specs.Records.{Agrees}
use Rattle.world_plans.proofs.Performed.{applied_more}
use Rattle.world_plans.proofs.performing.apply_all.Goals as goal

pub loop-change-init : goal.loop-change-init
loop-change-init c = λ m v told can. told

pub loop-change-preserved : goal.loop-change-preserved
loop-change-preserved c = λ m v told can.
    applied_more m c.loop-change.records c.apply.new.self c.args.changes.now c.loop-change.change-index c.change-item.result v c.loop-change-test.true c.change-item.is can (c.loop-change.invariant m v told can) (λ u are now. c.in_ok-apply.ensures m u are now)

pub returns : goal.returns
returns c = λ m v told can. subst (λ cs. Agrees m c.loop-change.records (after (all_changes_in cs) v)) (take_all c.loop-change.change-index c.args.changes.now c.loop-change-test.false) (c.loop-change.invariant m v told can)
