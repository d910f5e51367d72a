-- Lists (Erlang reference manual, modules erlang and lists). A list is cells, one in the tail of another, and the last tail; it is proper where that is nil.
use Rattle.std.specs.Prelude.{pos, Bool, true, false, ◌&&◌, ◌||◌, nat_lt, List, [], ◌∷◌, reverse, length, codes, if◌then◌else◌}
use Rattle.term_core.specs.Meaning.{Meaning, Tuple, Nil, Cons, meanings_of}
use Rattle.term_core.specs.Term.{list_onto}
use Rattle.core_pure_calls.specs.Answers.{Answer, Value, truth, error, whole, wrong_argument}
use Rattle.core_pure_calls.specs.Comparing.{are_equal}

-- the heads of the cells
abbrev pub heads_of : Meaning → List Meaning
heads_of (Cons head tail) = head ∷ heads_of tail
heads_of m = []

-- whether the last tail is nil
abbrev pub is_proper : Meaning → Bool
is_proper (Cons head tail) = is_proper tail
is_proper Nil = true
is_proper m = false

-- the proper list of some items
abbrev pub list_of : List Meaning → Meaning
list_of items = list_onto items Nil

-- `hd/1`
abbrev pub head_of : Meaning → Answer
head_of (Cons head tail) = Value head
head_of m = wrong_argument

-- `tl/1`
abbrev pub tail_of : Meaning → Answer
tail_of (Cons head tail) = Value tail
tail_of m = wrong_argument

-- `length/1`
abbrev pub length_of : Meaning → Answer
length_of list = if is_proper list then whole (pos (length (heads_of list))) else wrong_argument

-- `++/2` and `append/2`: any term may follow a proper list
abbrev pub appended : Meaning → Meaning → Answer
appended list behind = if is_proper list then Value (list_onto (heads_of list) behind) else wrong_argument

-- items without the first one that is equal to a term, if there is one
abbrev pub without_first : Meaning → List Meaning → List Meaning
without_first m [] = []
without_first m (item ∷ items) = if are_equal item m then items else item ∷ without_first m items

-- the same for each of some terms, in order
abbrev pub without_each : List Meaning → List Meaning → List Meaning
without_each [] items = items
without_each (m ∷ ms) items = without_each ms (without_first m items)

-- `--/2`
abbrev pub subtracted : Meaning → Meaning → Answer
subtracted list taken = if is_proper list && is_proper taken then Value (list_of (without_each (heads_of taken) (heads_of list))) else wrong_argument

-- `list_to_tuple/1`
abbrev pub tuple_of_list : Meaning → Answer
tuple_of_list list = if is_proper list then Value (Tuple (meanings_of (heads_of list))) else wrong_argument

-- `reverse/1`: what is no list, and a single cell with another last tail than nil, fits no clause of the function; a longer improper list is a wrong argument
abbrev pub reversed : Meaning → Answer
reversed list =
    if is_proper list then Value (list_of (reverse (heads_of list)))
    else (if nat_lt (length (heads_of list)) 2 then error (codes "function_clause") else wrong_argument)

-- whether one of these is equal to a term
abbrev pub one_equals : Meaning → List Meaning → Bool
one_equals m [] = false
one_equals m (item ∷ items) = are_equal item m || one_equals m items

-- `member/2`: the last tail is looked at where no item is equal
abbrev pub membership : Meaning → Meaning → Answer
membership m list = if one_equals m (heads_of list) then Value (truth true) else (if is_proper list then Value (truth false) else wrong_argument)
