-- How what is remembered is found: by the column of the place where a step begins.
use Rattle.std.specs.Prelude.{◌≡◌, ℕ, true, Some, slice_get}
use Rattle.search_numbers.specs.Rows.{fits}
use Rattle.search_numbers.specs.declared.known.Known.{Known}
use Rattle.search_numbers.specs.declared.remembered.Remembered.{Remembered}

-- what is remembered at a place is of this column, with numbers that a world has
pub record IsFoundAt (known : Known) (numbers : ℕ → ℕ) (column at : ℕ) : Type 0 where
  pub remembered : Remembered
  pub there : slice_get known.remembered.items at ≡ Some remembered
  pub is_of : remembered.column ≡ column
  pub matches : fits remembered.touches.items numbers ≡ true
