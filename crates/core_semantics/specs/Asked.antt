-- Requests and answers as data: what a process asks of the world that it runs in, and what it is answered.
use Rattle.std.specs.Prelude.{Bool, List}
use Rattle.core_calls.specs.declared.call.CallKind.{CallKind}
use Rattle.term_core.specs.Meaning.{Meaning}

-- a call with its arguments, a receive that waits for ever or not and takes some messages, an end with its reason, or too many applications in a row
pub data Asked : Type 0 where
  Call : (kind : CallKind) (arguments : List Meaning) → Asked
  Receive : (waits : Bool) (selects : Meaning → Bool) → Asked
  End : (reason : Meaning) → Asked
  Runaway : Asked

-- to a call a value, or a reason that is raised as an error; to a receive a message, or that none came in time
pub data Answered : Type 0 where
  Value : (value : Meaning) → Answered
  Raise : (reason : Meaning) → Answered
  Message : (message : Meaning) → Answered
  TimedOut : Answered
