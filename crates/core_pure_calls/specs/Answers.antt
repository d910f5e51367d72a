-- What a call gives, or the exception that it raises (Erlang reference manual, "Errors and Error Handling").
use Rattle.std.specs.Prelude.{ℕ, ℤ, Bool, List, Option, Some, None, codes, if◌then◌else◌}
use Rattle.term_core.specs.Meaning.{Meaning, Int, Atom}
use Rattle.term_core.specs.Integers.{has_64_bits}
use Rattle.core_pure_calls.specs.declared.outcome.Class.{Class}
use Rattle.core_pure_calls.specs.declared.outcome.Class.TheVariants.{Error}

-- a value, or an exception with its class and its reason
pub data Answer : Type 0 where
  Value : (value : Meaning) → Answer
  Raised : (class : Class) (reason : Meaning) → Answer

-- an error with this atom as its reason
abbrev pub error : List ℕ → Answer
error reason = Raised Error (Atom reason)

-- the error of a wrong argument
abbrev pub wrong_argument : Answer
wrong_argument = error (codes "badarg")

-- a boolean is one of two atoms
abbrev pub truth : Bool → Meaning
truth b = if b then Atom (codes "true") else Atom (codes "false")

-- an integer as a value, or an error where it is out of range
abbrev pub whole : ℤ → Answer
whole z = if has_64_bits z then Value (Int z) else error (codes "system_limit")

-- the integer that a term is
abbrev pub integer_in : Meaning → Option ℤ
integer_in (Int n) = Some n
integer_in m = None
