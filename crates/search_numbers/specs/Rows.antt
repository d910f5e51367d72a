-- Rows of numbers, and what a step does to one.
use Rattle.std.specs.List.{list_all}
use Rattle.std.specs.Prelude.{◌==◌, ℕ, Bool, List, [], ◌∷◌, get_or, if◌then◌else◌}
use Rattle.search_numbers.specs.declared.touch.Touch.{Touch}

-- the number at each column; 0 where the row has none
abbrev pub numbers_in : List ℕ → ℕ → ℕ
numbers_in row c = get_or row c 0

-- a step finds these numbers at the columns that it touches
abbrev pub fits : List Touch → (ℕ → ℕ) → Bool
fits touches numbers = list_all (λ t. numbers t.column == t.before) touches

-- what a step leaves
abbrev pub written : List Touch → (ℕ → ℕ) → ℕ → ℕ
written [] numbers = numbers
written (t ∷ touches) numbers = written touches (λ c. if c == t.column then t.after else numbers c)
