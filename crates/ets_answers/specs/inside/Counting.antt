-- How a counter is counted, addition by addition.
use Rattle.std.specs.Prelude.{◌≡◌, ◌++◌, ℕ, ℤ, List, Option, None, Some, option_and_then}
use Rattle.term_core.specs.Meaning.{Meaning}
use Rattle.world_model.specs.Calls.{Addition, Increment}
use Rattle.world_model.specs.Objects.{all_added, sum_rule, sums_answer, sums_in, sums_rule}
use Rattle.world_model.specs.Rows.{Key, Object, part_at, with_part}
use Rattle.world_model.specs.Terms.{integer_in}
use Rattle.world_model.specs.declared.rule.Rule.{Rule}

-- the integer that an object has at a position
abbrev pub integer_at : ℕ → Object → Option ℤ
integer_at position object = option_and_then integer_in (part_at position object)

-- a rule refuses whatever is added to this part
abbrev pub RefusesPart : Rule → Option Meaning → Type 0
RefusesPart rule part = (addition : Addition) → Some rule ≡ sum_rule addition part

-- additions to an object that no rule refuses come to these sums, after others
abbrev pub AddSums : List Addition → Object → List Meaning → List Meaning → Type 0
AddSums additions object old new = sums_rule additions object ≡ None → new ≡ old ++ sums_in additions object

-- this is answered
abbrev pub Answer : Increment → List Addition → Object → Meaning → Type 0
Answer increment additions object answer = sums_rule additions object ≡ None → answer ≡ sums_answer increment (sums_in additions object)

-- this object is left
abbrev pub Leave : List Addition → Object → Object → Type 0
Leave additions object left = sums_rule additions object ≡ None → left ≡ all_added additions object

-- and this one under a key
abbrev pub LeaveUnder : ℕ → Key → List Addition → Object → Object → Type 0
LeaveUnder position key additions object left = sums_rule additions object ≡ None → left ≡ with_part position key (all_added additions object)
