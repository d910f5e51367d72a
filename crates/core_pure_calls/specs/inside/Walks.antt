-- What a walk along the cells of a list finds.
use Rattle.std.specs.Prelude.{ℕ, suc, List, [], ◌∷◌, Option, Some, None, option_map, if◌then◌else◌}
use Rattle.term_core.specs.Meaning.{Meaning}
use Rattle.core_pure_calls.specs.Comparing.{are_equal}

-- the place of the first of these that is equal to a term, from 0
abbrev pub first_equal : Meaning → List Meaning → Option ℕ
first_equal m [] = None
first_equal m (item ∷ items) = if are_equal item m then Some 0 else option_map suc (first_equal m items)
