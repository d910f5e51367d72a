-- Tuples (Erlang reference manual, module erlang, `element/2`, `setelement/3`, `tuple_size/1`, `tuple_to_list/1`). Places count from 1.
use Rattle.std.specs.Prelude.{ℕ, suc, ℤ, pos, nat_lt, slice_get, slice_set, List, length, Option, Some, None, if◌then◌else◌}
use Rattle.term_core.specs.Meaning.{Meaning, Tuple, Nil, meanings_of}
use Rattle.term_core.specs.Term.{list_onto}
use Rattle.term_core.specs.Kinds.{tuple_in}
use Rattle.core_pure_calls.specs.Answers.{Answer, Value, integer_in, whole, wrong_argument}

-- what is done with the parts of a tuple, if the term is one
abbrev pub with_tuple : (List Meaning → Answer) → Option (List Meaning) → Answer
with_tuple f (Some parts) = f parts
with_tuple f None = wrong_argument

-- how many parts come before the one at this place, if there are so many
abbrev pub before_place : Option ℤ → ℕ → Option ℕ
before_place (Some (pos (suc n))) size = if nat_lt n size then Some n else None
before_place index size = None

-- a part, if there is one
abbrev pub part_or_error : Option Meaning → Answer
part_or_error (Some part) = Value part
part_or_error None = wrong_argument

-- the part after so many, if there are so many
abbrev pub part_behind : Option ℕ → List Meaning → Answer
part_behind (Some n) parts = part_or_error (slice_get parts n)
part_behind None parts = wrong_argument

-- `element/2`
abbrev pub element : Meaning → Meaning → Answer
element index m = with_tuple (λ parts. part_behind (before_place (integer_in index) (length parts)) parts) (tuple_in m)

-- the tuple with another part after so many, if there are so many
abbrev pub replaced_behind : Option ℕ → List Meaning → Meaning → Answer
replaced_behind (Some n) parts value = Value (Tuple (meanings_of (slice_set parts n value)))
replaced_behind None parts value = wrong_argument

-- `setelement/3`
abbrev pub with_element : Meaning → Meaning → Meaning → Answer
with_element index m value = with_tuple (λ parts. replaced_behind (before_place (integer_in index) (length parts)) parts value) (tuple_in m)

-- `tuple_size/1`
abbrev pub size_of_tuple : Meaning → Answer
size_of_tuple m = with_tuple (λ parts. whole (pos (length parts))) (tuple_in m)

-- `tuple_to_list/1`
abbrev pub list_of_tuple : Meaning → Answer
list_of_tuple m = with_tuple (λ parts. Value (list_onto parts Nil)) (tuple_in m)
