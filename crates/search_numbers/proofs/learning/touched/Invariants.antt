use Rattle.std.proofs.Common.{◌≡◌, take}
use Rattle.search_numbers.specs.inside.Learning.{AreTouched}
use Rattle.search_numbers.specs.Rows.{numbers_in}
use Rattle.search_numbers.specs.Stored.{Follows}
use Rattle.search_numbers.proofs.learning.touched.Given as goal

abbrev pub invariant-loop-column : goal.invariant-loop-column
invariant-loop-column l = record {
  touched : AreTouched l.store (numbers_in l.row) l.after.value (take l.column-index l.columns) l.touches.items;
  follows : Follows l.store l.fn.store;
  places : l.store.places ≡ l.fn.store.places;
}
