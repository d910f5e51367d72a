-- The names of functions.
use Rattle.std.specs.Prelude.{Bool, ◌==◌}
use Rattle.std.specs.Ordering.{on, eq_of_both}
use Rattle.std.specs.Cmp.Lexicographic.{pointwise}
use Rattle.core_tree.specs.Syntax.{Function}

-- whether two names are the same: their atoms and their arities
abbrev pub same_function : Function → Function → Bool
same_function = eq_of_both (on (λ f. f.name) (pointwise ◌==◌)) (on (λ f. f.arity) ◌==◌)
