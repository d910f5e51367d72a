use Rattle.std.proofs.Common.{[], ◌∷◌, Option, map, arith}
use Rattle.ets_store.specs.Tables.{heir_in}
use Rattle.ets_store.specs.declared.table.Heir.{Heir}
use Rattle.world_model.specs.Names.{ref_of}
use Rattle.world_model.specs.Changes.{HeirSet}
use Rattle.ets_rules.proofs.Adding.{adds_item, heirs_more}
use Rattle.ets_rules.proofs.owning.entrust_each.Goals as goal

pub loop-heir-preserved : goal.loop-heir-preserved
loop-heir-preserved c =
    let t = ref_of c.args.id.now in
    adds_item {X = Option Heir} (λ hs. map (HeirSet t) (map heir_in hs)) (λ h. HeirSet t (heir_in h) ∷ []) (heirs_more t)
    c.args.heirs.now c.loop-heir.heir-index c.heir-item.result _ _ _ (omega (arith, c.loop-heir-test.true)) c.heir-item.is c.loop-heir.invariant c.in_ok-entrust.ensures
