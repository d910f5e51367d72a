-- What a request says by itself, and which messages it takes.
use Rattle.std.specs.Prelude.{Bool, false, List}
use Rattle.core_calls.specs.declared.call.CallKind.{CallKind}
use Rattle.term_core.specs.Meaning.{Meaning}
use Rattle.core_semantics.specs.Asked.{Asked}
use Rattle.core_semantics.specs.Asked as asked

-- a request without which messages a receive takes
pub data Told : Type 0 where
  Call : (kind : CallKind) (arguments : List Meaning) → Told
  Receive : (waits : Bool) → Told
  End : (reason : Meaning) → Told
  Runaway : Told

-- what a request says
abbrev pub told : Asked → Told
told (asked.Call kind arguments) = Call kind arguments
told (asked.Receive waits selects) = Receive waits
told (asked.End reason) = End reason
told asked.Runaway = Runaway

-- whether a request takes this message; only a receive takes any
abbrev pub is_selected : Asked → Meaning → Bool
is_selected (asked.Receive waits selects) message = selects message
is_selected request message = false
