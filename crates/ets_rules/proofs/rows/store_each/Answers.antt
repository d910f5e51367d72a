use Rattle.std.proofs.Common.{arith}
use Rattle.ets_answers.specs.At.{found_at}
use Rattle.world_model.specs.Names.{ref_of}
use Rattle.world_model.specs.Objects.{stored_at, stores}
use Rattle.world_model.specs.Rows.{Object, part_at}
use Rattle.ets_rules.proofs.Adding.{adds_item, stores_more}
use Rattle.ets_rules.proofs.rows.store_each.Goals as goal

pub loop-object-preserved : goal.loop-object-preserved
loop-object-preserved c =
    let f = found_at (ref_of c.args.id.now) c.args.table.now in
    adds_item {X = Object} (stores f) (λ o. stored_at f o (part_at f.table.position o)) (stores_more f)
    c.args.objects.now c.loop-object.object-index c.object-item.result _ _ _ (omega (arith, c.loop-object-test.true)) c.object-item.is c.loop-object.invariant c.in_ok-store.ensures
