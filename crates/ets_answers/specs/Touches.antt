-- Rows as a call touches them, in the words of the explored world.
use Rattle.std.specs.Prelude.{map}
use Rattle.term_core.specs.Term.{meaning_of}
use Rattle.world_model.specs.RowFootprints as touch
use Rattle.world_model.specs.RowFootprints.{Touch}
use Rattle.ets_answers.specs.declared.touched.Touched.{Touched}
use Rattle.ets_answers.specs.declared.touched.Touched.TheVariants.{NoRow, RowsOfKeys, EachRow}

abbrev pub touch_in : Touched → Touch
touch_in NoRow = touch.NoRow
touch_in (RowsOfKeys keys) = touch.RowsOfKeys (map meaning_of keys.items)
touch_in EachRow = touch.EachRow
