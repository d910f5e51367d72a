-- Receiving (Core Erlang 1.0.3, "Receive"; Erlang reference manual, "Receive"): which timeouts there are, and how a receive goes on with what it is answered.
use Rattle.std.specs.Prelude.{ℕ, pos, ◌||◌, Bool, true, false, List, [], ◌∷◌, ◌++◌, Option, Some, None, if◌then◌else◌, int_lt, codes}
use Rattle.term_core.specs.Meaning.{Meaning, Int}
use Rattle.term_core.specs.Kinds.{is_the_atom}
use Rattle.core_pure_calls.specs.Dictionary.{Dictionary}
use Rattle.core_semantics.specs.Asked.{Receive, Answered, Value, Raise, Message, TimedOut}
use Rattle.core_stack.specs.Matching.{Environment}
use Rattle.core_semantics.specs.Outcomes.{State, before, limit, Outcome, Yields, Raises, Stops, error}
use Rattle.core_semantics.specs.Clauses.{is_true}

-- the longest timeout, in milliseconds
abbrev pub longest_timeout : ℕ
longest_timeout = 4294967295

-- whether a receive with this timeout waits for ever: with `'infinity'` it does, with a number of milliseconds it does not, and nothing else is a timeout
abbrev pub waits_with : Meaning → Option Bool
waits_with (Int n) = if int_lt n (pos 0) || int_lt (pos longest_timeout) n then None else Some false
waits_with m = if is_the_atom (codes "infinity") m then Some true else None

-- with a timeout the receive goes on; anything else in its place is an error
abbrev pub timed : Option Bool → (Bool → State → Outcome) → State → Outcome
timed None go s = error (codes "timeout_value") s
timed (Some waits) go s = go waits s

-- a receive with the answers that are left: the first that is one to it is a message that it takes, or that none came in time, which never happens where it waits for ever; with none left the receive is the request
abbrev pub received : Bool → (Meaning → Bool) → (Meaning → State → Outcome) → (State → Outcome) → Dictionary → List Answered → Outcome
received waits selects take act d [] = Stops (Receive waits selects)
received waits selects take act d (Message message ∷ later) = take message (before d later)
received waits selects take act d (TimedOut ∷ later) = if waits then received waits selects take act d later else act (before d later)
received waits selects take act d (Value value ∷ later) = received waits selects take act d later
received waits selects take act d (Raise reason ∷ later) = received waits selects take act d later

-- where nothing more is answered, nothing is kept and no function can be applied: there guards are judged before a message is taken, since a guard neither asks nor applies, and sees no dictionary
abbrev pub at_rest : State
at_rest = record { answers = []; dictionary = []; made = limit }

-- whether a guard gave `'true'`, and nothing else
abbrev pub holds : Outcome → Bool
holds (Yields values s) = is_true values
holds (Raises class reason s) = false
holds (Stops request) = false

-- whether a clause that matches, and binds this, has a guard that holds
abbrev pub is_taken : Option Environment → Environment → (Environment → Outcome) → Bool
is_taken None env guard = false
is_taken (Some bindings) env guard = holds (guard (bindings ++ env))
