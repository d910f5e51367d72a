-- Comparisons (Erlang reference manual, "Term Comparisons") and booleans ("Boolean Expressions").
use Rattle.std.specs.Prelude.{Bool, true, false, not, ◌&&◌, ◌||◌, Option, Some, None, codes, if◌then◌else◌}
use Rattle.std.specs.Bool.{beq}
use Rattle.std.specs.Ordering.{is_eq, is_ne, is_lt, is_le, is_gt, is_ge}
use Rattle.term_core.specs.Meaning.{Meaning}
use Rattle.term_core.specs.Order.{order_of_terms}
use Rattle.core_pure_calls.specs.Answers.{Answer, Value, truth, wrong_argument}
use Rattle.term_core.specs.Kinds.{is_the_atom}

-- `==/2` and `=:=/2`: there are no floats, so that terms are equal where they are the same
abbrev pub are_equal : Meaning → Meaning → Bool
are_equal m n = is_eq (order_of_terms m n)

-- `/=/2` and `=/=/2`
abbrev pub are_different : Meaning → Meaning → Bool
are_different m n = is_ne (order_of_terms m n)

-- `</2`
abbrev pub is_less : Meaning → Meaning → Bool
is_less m n = is_lt (order_of_terms m n)

-- `=</2`
abbrev pub is_at_most : Meaning → Meaning → Bool
is_at_most m n = is_le (order_of_terms m n)

-- `>/2`
abbrev pub is_greater : Meaning → Meaning → Bool
is_greater m n = is_gt (order_of_terms m n)

-- `>=/2`
abbrev pub is_at_least : Meaning → Meaning → Bool
is_at_least m n = is_ge (order_of_terms m n)

-- ---- booleans

-- the boolean that a term is
abbrev pub boolean_in : Meaning → Option Bool
boolean_in m =
    if is_the_atom (codes "true") m then Some true
    else (if is_the_atom (codes "false") m then Some false else None)

-- what is done with two booleans, if both terms are booleans
abbrev pub with_booleans : (Bool → Bool → Bool) → Option Bool → Option Bool → Answer
with_booleans f (Some a) (Some b) = Value (truth (f a b))
with_booleans f a b = wrong_argument

-- the same with one
abbrev pub with_boolean : (Bool → Bool) → Option Bool → Answer
with_boolean f (Some a) = Value (truth (f a))
with_boolean f None = wrong_argument

-- `and/2`
abbrev pub conjunction : Meaning → Meaning → Answer
conjunction m n = with_booleans ◌&&◌ (boolean_in m) (boolean_in n)

-- `or/2`
abbrev pub disjunction : Meaning → Meaning → Answer
disjunction m n = with_booleans ◌||◌ (boolean_in m) (boolean_in n)

-- `xor/2`: whether the two differ
abbrev pub exclusion : Meaning → Meaning → Answer
exclusion m n = with_booleans (λ a b. not (beq a b)) (boolean_in m) (boolean_in n)

-- `not/1`
abbrev pub negation : Meaning → Answer
negation m = with_boolean not (boolean_in m)
