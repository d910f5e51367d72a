use Rattle.std.proofs.Common.{◌∙◌, refl}
use Rattle.search_numbers.proofs.Numbers.{zero_taken}
use Rattle.search_numbers.proofs.row.Row.trim.Goals as goal

pub loop-preserved : goal.loop-preserved
loop-preserved c k = zero_taken c.loop.self.numbers.items c.pop-zero.new.self.items c.pop-zero.result c.pop-zero.ensures.items (c.if-not-ends_with_zero.ensures refl) k ∙ c.loop.invariant k
