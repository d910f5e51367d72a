use Rattle.std.proofs.Common.{◌∙◌, ap, sym}
use Rattle.std.specs.Int.{bit_at}
use Rattle.world_footprints.specs.inside.Masks.{place_in_mask}
use Rattle.world_footprints.proofs.Masks.{covers_more}
use Rattle.world_footprints.proofs.mask.mask_of.Goals as goal

pub loop-cell-init : goal.loop-cell-init
loop-cell-init c = λ d there. absurd there

pub loop-cell-preserved : goal.loop-cell-preserved
loop-cell-preserved c =
    covers_more c.loop-cell.mask c.with_bit-mask.result c.args.cells.now c.loop-cell.cell-index c.cell-item.result c.loop-cell-test.true c.cell-item.is c.with_bit-mask.ensures.kept
    (ap (λ x. bit_at c.with_bit-mask.result (place_in_mask x)) (sym c.view_of.ensures) ∙ ap (bit_at c.with_bit-mask.result) (sym c.place_in_mask.ensures.value) ∙ c.with_bit-mask.ensures.set) c.loop-cell.invariant
