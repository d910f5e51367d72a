-- The kinds of terms (Erlang reference manual, module erlang, `is_integer/1` and its neighbours). There are no floats, binaries, maps and functions.
use Rattle.std.specs.Prelude.{ℤ, pos, Bool, true, false, ◌&&◌, Option, Some, is_some, length}
use Rattle.std.specs.Ordering.{int_eq}
use Rattle.term_core.specs.Meaning.{Meaning, Meanings, Atom, Ref, Pid, Tuple, Nil, Cons, NoMore, Also, parts_of}
use Rattle.core_pure_calls.specs.Answers.{Answer, Value, truth, integer_in, wrong_argument}
use Rattle.core_pure_calls.specs.Comparing.{are_equal, boolean_in}

-- `is_integer/1` and `is_number/1`
abbrev pub is_integer : Meaning → Bool
is_integer m = is_some (integer_in m)

-- `is_atom/1`
abbrev pub is_atom : Meaning → Bool
is_atom (Atom text) = true
is_atom m = false

-- `is_boolean/1`
abbrev pub is_boolean : Meaning → Bool
is_boolean m = is_some (boolean_in m)

-- `is_tuple/1`
abbrev pub is_tuple : Meaning → Bool
is_tuple (Tuple parts) = true
is_tuple m = false

-- `is_list/1`: nil or a list cell
abbrev pub is_list : Meaning → Bool
is_list Nil = true
is_list (Cons head tail) = true
is_list m = false

-- `is_pid/1`
abbrev pub is_pid : Meaning → Bool
is_pid (Pid p) = true
is_pid m = false

-- `is_reference/1`
abbrev pub is_reference : Meaning → Bool
is_reference (Ref p n) = true
is_reference m = false

-- whether these parts begin with a term
abbrev pub begin_with : Meaning → Meanings → Bool
begin_with tag NoMore = false
begin_with tag (Also first others) = are_equal first tag

-- whether a term is a tuple of so many parts that begins with the tag
abbrev pub is_record_of : Meaning → ℤ → Meaning → Bool
is_record_of tag size (Tuple parts) = int_eq size (pos (length (parts_of parts))) && begin_with tag parts
is_record_of tag size m = false

-- a record is asked for by an atom and an integer, of any sign
abbrev pub record_asked : Bool → Meaning → Option ℤ → Meaning → Answer
record_asked true tag (Some size) m = Value (truth (is_record_of tag size m))
record_asked is_tag tag size m = wrong_argument

-- `is_record/3`
abbrev pub record_test : Meaning → Meaning → Meaning → Answer
record_test m tag size = record_asked (is_atom tag) tag (integer_in size) m
