-- What the calls give that a process answers by itself, by the number of their arguments (Erlang reference manual, modules erlang and lists).
use Rattle.std.specs.Prelude.{ℕ, Bool, List, [], ◌∷◌, false}
use Rattle.core_calls.specs.declared.pure.PureCall.{PureCall}
use Rattle.core_calls.specs.declared.pure.PureCall.TheVariants as calls
use Rattle.term_core.specs.Meaning.{Meaning, Pid}
use Rattle.core_pure_calls.specs.Answers.{Answer, Value, truth}
use Rattle.core_pure_calls.specs.Arithmetic.{absolute, bit_and, bit_or, bit_xor, difference, bit_not, plus_of, negative, product, quotient, remainder, sum}
use Rattle.core_pure_calls.specs.Comparing.{are_different, are_equal, conjunction, disjunction, exclusion, is_at_least, is_at_most, is_greater, is_less, negation}
use Rattle.core_pure_calls.specs.Kinds.{is_atom, is_boolean, is_integer, is_list, is_pid, is_reference, is_tuple, record_test}
use Rattle.core_pure_calls.specs.Tuples.{element, list_of_tuple, size_of_tuple, with_element}
use Rattle.core_pure_calls.specs.Dictionary.{Dictionary, all_of, keys_of, keys_with, value_of, with_value, without_key}
use Rattle.core_pure_calls.specs.Lists.{appended, head_of, length_of, list_of, membership, reversed, subtracted, tail_of, tuple_of_list}
use Rattle.core_pure_calls.specs.Raising.{error_with, exit_with, throw_of, undefined}

-- a boolean as a value
abbrev pub told : Bool → Answer
told b = Value (truth b)

-- calls without arguments, of the process with this pid and this dictionary
abbrev pub answer_to_none : List ℕ → Dictionary → PureCall → Answer
answer_to_none own d calls.OwnPid = Value (Pid own)
answer_to_none own d calls.GetAll = Value (all_of d)
answer_to_none own d calls.EraseAll = Value (all_of d)
answer_to_none own d calls.GetKeys = Value (keys_of d)
answer_to_none own d call = undefined

-- calls of one argument
abbrev pub answer_to_one : Dictionary → PureCall → Meaning → Answer
answer_to_one d calls.Keep a = plus_of a
answer_to_one d calls.Negate a = negative a
answer_to_one d calls.Absolute a = absolute a
answer_to_one d calls.BitNot a = bit_not a
answer_to_one d calls.Not a = negation a
answer_to_one d calls.IsInteger a = told (is_integer a)
answer_to_one d calls.IsNumber a = told (is_integer a)
answer_to_one d calls.IsAtom a = told (is_atom a)
answer_to_one d calls.IsBoolean a = told (is_boolean a)
answer_to_one d calls.IsTuple a = told (is_tuple a)
answer_to_one d calls.IsList a = told (is_list a)
answer_to_one d calls.IsPid a = told (is_pid a)
answer_to_one d calls.IsReference a = told (is_reference a)
answer_to_one d calls.IsFloat a = told false
answer_to_one d calls.IsBinary a = told false
answer_to_one d calls.TupleSize a = size_of_tuple a
answer_to_one d calls.Head a = head_of a
answer_to_one d calls.Tail a = tail_of a
answer_to_one d calls.Length a = length_of a
answer_to_one d calls.TupleToList a = list_of_tuple a
answer_to_one d calls.ListToTuple a = tuple_of_list a
answer_to_one d calls.Error a = error_with a
answer_to_one d calls.Exit a = exit_with a
answer_to_one d calls.Throw a = throw_of a
answer_to_one d calls.Reverse a = reversed a
answer_to_one d calls.Get a = Value (value_of a d)
answer_to_one d calls.Erase a = Value (value_of a d)
answer_to_one d calls.GetKeysOf a = Value (list_of (keys_with a d))
answer_to_one d call a = undefined

-- calls of two arguments
abbrev pub answer_to_two : Dictionary → PureCall → Meaning → Meaning → Answer
answer_to_two d calls.Add a b = sum a b
answer_to_two d calls.Subtract a b = difference a b
answer_to_two d calls.Multiply a b = product a b
answer_to_two d calls.Divide a b = quotient a b
answer_to_two d calls.Remainder a b = remainder a b
answer_to_two d calls.BitAnd a b = bit_and a b
answer_to_two d calls.BitOr a b = bit_or a b
answer_to_two d calls.BitXor a b = bit_xor a b
answer_to_two d calls.Equal a b = told (are_equal a b)
answer_to_two d calls.NotEqual a b = told (are_different a b)
answer_to_two d calls.Same a b = told (are_equal a b)
answer_to_two d calls.NotSame a b = told (are_different a b)
answer_to_two d calls.Less a b = told (is_less a b)
answer_to_two d calls.AtMost a b = told (is_at_most a b)
answer_to_two d calls.Greater a b = told (is_greater a b)
answer_to_two d calls.AtLeast a b = told (is_at_least a b)
answer_to_two d calls.And a b = conjunction a b
answer_to_two d calls.Or a b = disjunction a b
answer_to_two d calls.Xor a b = exclusion a b
answer_to_two d calls.Element a b = element a b
answer_to_two d calls.Append a b = appended a b
answer_to_two d calls.Without a b = subtracted a b
answer_to_two d calls.ErrorWith a b = error_with a
answer_to_two d calls.Member a b = membership a b
answer_to_two d calls.AppendLists a b = appended a b
answer_to_two d calls.Put a b = Value (value_of a d)
answer_to_two d call a b = undefined

-- calls of three arguments
abbrev pub answer_to_three : PureCall → Meaning → Meaning → Meaning → Answer
answer_to_three calls.IsRecord a b c = record_test a b c
answer_to_three calls.SetElement a b c = with_element a b c
answer_to_three call a b c = undefined

-- a call with its arguments, of the process with this pid and this dictionary; `get_module_info/1` and `get_module_info/2` are undefined as well
abbrev pub answer_of : List ℕ → Dictionary → PureCall → List Meaning → Answer
answer_of own d call [] = answer_to_none own d call
answer_of own d call (a ∷ []) = answer_to_one d call a
answer_of own d call (a ∷ b ∷ []) = answer_to_two d call a b
answer_of own d call (a ∷ b ∷ c ∷ []) = answer_to_three call a b c
answer_of own d call (a ∷ b ∷ c ∷ e ∷ more) = undefined

-- the dictionary after a call
abbrev pub kept_by : PureCall → List Meaning → Dictionary → Dictionary
kept_by calls.Put (key ∷ value ∷ []) d = with_value key value d
kept_by calls.Erase (key ∷ []) d = without_key key d
kept_by calls.EraseAll [] d = []
kept_by call arguments d = d
