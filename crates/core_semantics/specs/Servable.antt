-- Requests that are read: what a process of a module that was read can ask.
use Rattle.std.specs.Prelude.{◌≡◌, length}
use Rattle.core_calls.specs.Calls.{signature}
use Rattle.core_semantics.specs.Asked.{Asked, Call, Receive, End, Runaway}

-- a call has as many arguments as it takes
abbrev pub IsReadRequest : Asked → Type 0
IsReadRequest (Call kind arguments) = length arguments ≡ (signature kind).arity
IsReadRequest (Receive waits selects) = Unit {0}
IsReadRequest (End reason) = Unit {0}
IsReadRequest Runaway = Unit {0}
