-- Worked rows: what some calls answer to some arguments, of the process with the pid `P`.
use Rattle.std.specs.Prelude.{◌≡◌, pos, negsuc, List, [], ◌∷◌, codes}
use Rattle.core_calls.specs.declared.pure.PureCall.{PureCall}
use Rattle.core_calls.specs.declared.pure.PureCall.TheVariants as calls
use Rattle.term_core.specs.Meaning.{Meaning, Int, Atom, Tuple, Cons, meanings_of}
use Rattle.core_pure_calls.specs.Answers.{Answer, Value, error, wrong_argument}
use Rattle.core_pure_calls.specs.Calls.{answer_of, kept_by}
use Rattle.core_pure_calls.specs.Dictionary.{Dictionary}
use Rattle.core_pure_calls.specs.Lists.{list_of}

-- what a call answers to these arguments, where the dictionary is empty
abbrev pub Row : PureCall → List Meaning → Answer → Type 0
Row call arguments told = answer_of [] [] call arguments ≡ told

-- three small integers
abbrev one : Meaning
one = Int (pos 1)

abbrev two : Meaning
two = Int (pos 2)

abbrev three : Meaning
three = Int (pos 3)

-- the least integer of 64 bits
abbrev least : Meaning
least = Int (negsuc 9223372036854775807)

-- `-7 rem 2` is `-1`, the least integer has no quotient by -1 but a remainder, and there is nothing to count with in an atom
abbrev pub ArithmeticRows : Type 0
ArithmeticRows =
    Row calls.Remainder (Int (negsuc 6) ∷ two ∷ []) (Value (Int (negsuc 0)))
    × Row calls.Divide (least ∷ Int (negsuc 0) ∷ []) (error (codes "system_limit"))
    × Row calls.Remainder (least ∷ Int (negsuc 0) ∷ []) (Value (Int (pos 0)))
    × Row calls.Absolute (least ∷ []) (error (codes "system_limit"))
    × Row calls.Divide (one ∷ Int (pos 0) ∷ []) (error (codes "badarith"))
    × Row calls.Add (least ∷ Atom (codes "a") ∷ []) (error (codes "badarith"))

-- `[1,2,3,2] -- [2]` is `[1,3,2]`; for improper lists the answer of `reverse` and `member` depends on what comes first
abbrev pub ListRows : Type 0
ListRows =
    Row calls.Without (list_of (one ∷ two ∷ three ∷ two ∷ []) ∷ list_of (two ∷ []) ∷ []) (Value (list_of (one ∷ three ∷ two ∷ [])))
    × Row calls.Append (list_of (one ∷ []) ∷ two ∷ []) (Value (Cons one two))
    × Row calls.Reverse (Cons one two ∷ []) (error (codes "function_clause"))
    × Row calls.Reverse (Cons one (Cons two three) ∷ []) wrong_argument
    × Row calls.Member (one ∷ Cons one two ∷ []) (Value (Atom (codes "true")))
    × Row calls.Member (two ∷ Cons one two ∷ []) wrong_argument

-- places count from 1, and a record has its size and its tag
abbrev pub TupleRows : Type 0
TupleRows =
    Row calls.SetElement (one ∷ Tuple (meanings_of (three ∷ [])) ∷ two ∷ []) (Value (Tuple (meanings_of (two ∷ []))))
    × Row calls.SetElement (Int (pos 0) ∷ Tuple (meanings_of (three ∷ [])) ∷ two ∷ []) wrong_argument
    × Row calls.SetElement (two ∷ Tuple (meanings_of (three ∷ [])) ∷ two ∷ []) wrong_argument
    × Row calls.IsRecord (Tuple (meanings_of (Atom (codes "a") ∷ one ∷ [])) ∷ Atom (codes "a") ∷ two ∷ []) (Value (Atom (codes "true")))
    × Row calls.IsRecord (Tuple (meanings_of (one ∷ one ∷ [])) ∷ Atom (codes "a") ∷ two ∷ []) (Value (Atom (codes "false")))

-- what a call answers where the dictionary has this, and what it has afterwards
abbrev pub DictionaryRow : Dictionary → PureCall → List Meaning → Answer → Dictionary → Type 0
DictionaryRow before call arguments told after = (answer_of [] before call arguments ≡ told) × (kept_by call arguments before ≡ after)

abbrev a : Meaning
a = Atom (codes "a")

abbrev b : Meaning
b = Atom (codes "b")

abbrev none : Meaning
none = Atom (codes "undefined")

-- `put` gives what was there, and keys stay in their order; a key that is erased is gone, and `erase/0` leaves nothing
abbrev pub DictionaryRows : Type 0
DictionaryRows =
    DictionaryRow [] calls.Put (b ∷ one ∷ []) (Value none) ((b, one) ∷ [])
    × DictionaryRow ((b, one) ∷ []) calls.Put (a ∷ two ∷ []) (Value none) ((a, two) ∷ (b, one) ∷ [])
    × DictionaryRow ((a, two) ∷ (b, one) ∷ []) calls.Put (a ∷ three ∷ []) (Value two) ((a, three) ∷ (b, one) ∷ [])
    × DictionaryRow ((a, two) ∷ (b, one) ∷ []) calls.Get (b ∷ []) (Value one) ((a, two) ∷ (b, one) ∷ [])
    × DictionaryRow ((a, two) ∷ []) calls.Get (b ∷ []) (Value none) ((a, two) ∷ [])
    × DictionaryRow ((a, two) ∷ (b, one) ∷ []) calls.Erase (a ∷ []) (Value two) ((b, one) ∷ [])
    × DictionaryRow ((a, two) ∷ []) calls.Erase (b ∷ []) (Value none) ((a, two) ∷ [])
    × DictionaryRow ((a, two) ∷ []) calls.EraseAll [] (Value (list_of (Tuple (meanings_of (a ∷ two ∷ [])) ∷ []))) []
    × DictionaryRow ((a, two) ∷ (b, one) ∷ []) calls.GetAll [] (Value (list_of (Tuple (meanings_of (a ∷ two ∷ [])) ∷ Tuple (meanings_of (b ∷ one ∷ [])) ∷ []))) ((a, two) ∷ (b, one) ∷ [])
    × DictionaryRow ((a, two) ∷ (b, one) ∷ []) calls.GetKeys [] (Value (list_of (a ∷ b ∷ []))) ((a, two) ∷ (b, one) ∷ [])
    × DictionaryRow ((a, one) ∷ (b, one) ∷ []) calls.GetKeysOf (one ∷ []) (Value (list_of (a ∷ b ∷ []))) ((a, one) ∷ (b, one) ∷ [])
    × DictionaryRow ((a, two) ∷ (b, one) ∷ []) calls.GetKeysOf (one ∷ []) (Value (list_of (b ∷ []))) ((a, two) ∷ (b, one) ∷ [])
