use Rattle.std.proofs.Common.{arith}
use Rattle.search_samples.proofs.Chosen.{held_at}
use Rattle.search_samples.proofs.drawing.any_of.Goals as goal

pub returns : goal.returns
returns c = held_at c.args.steps.now c.number_below-place.result c.index-steps-place.result (omega (arith, c.number_below-place.ensures)) c.index-steps-place.is
