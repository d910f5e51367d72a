use Rattle.std.proofs.Common.{map, subst}
use Rattle.std.proofs.lemmas.List.{take_all}
use Rattle.world_model.specs.Changes.{cell_of}
use Rattle.world_records.specs.Changes.{all_changes_in}
use Rattle.world_footprints.specs.inside.Masks.{Covers}
use Rattle.world_footprints.proofs.Writing.{covers_taken}
use Rattle.world_footprints.proofs.mask.with_changes.Goals as goal

pub loop-change-init : goal.loop-change-init
loop-change-init c = (λ d there. absurd there, λ i was. was)

pub loop-change-preserved : goal.loop-change-preserved
loop-change-preserved c = (
  covers_taken c.loop-change.mask c.with_views-mask.result c.args.changes.now c.loop-change.change-index c.change-item.result c.loop-change-test.true c.change-item.is c.with_views-mask.ensures.kept
      (subst (Covers c.with_views-mask.result) c.changed_cells.ensures c.with_views-mask.ensures.set) c.loop-change.invariant.0,
  λ i was. c.with_views-mask.ensures.kept i (c.loop-change.invariant.1 i was),
)

pub returns-clause-set : goal.returns-clause-set
returns-clause-set c = subst (λ cs. Covers c.loop-change.mask (map cell_of (all_changes_in cs))) (take_all c.loop-change.change-index c.args.changes.now c.loop-change-test.false) c.loop-change.invariant.0
