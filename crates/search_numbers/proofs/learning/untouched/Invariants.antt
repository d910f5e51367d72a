use Rattle.std.proofs.Common.{take}
use Rattle.search_numbers.specs.inside.Learning.{AreUntouched}
use Rattle.search_numbers.specs.Rows.{numbers_in}
use Rattle.search_numbers.proofs.learning.untouched.Given as goal

abbrev pub invariant-loop-column : goal.invariant-loop-column
invariant-loop-column l = AreUntouched (numbers_in l.row) (take l.column-index l.columns) l.touches.items
