-- What schedules show, as far as a text says it, and which of it a reader may refuse.
use Rattle.std.specs.List.{AllByRecursion}
use Rattle.std.specs.Prelude.{◌≡◌, ℕ, ◌<◌, ◌^◌, List, length, Option, IfSome}
use Rattle.term_core.specs.Meaning.{Meaning, Tuple, meanings_of, node_count}
use Rattle.core_calls.specs.Calls.{signature}
use Rattle.core_calls.specs.declared.call.CallKind.{CallKind}
use Rattle.world_model.specs.Names.{Pid, IsAmong}
use Rattle.world_model.specs.Shown.{Identity, End, Deadlock, Runaway, RefusedCall, Unread}
use Rattle.world_identities.specs.Order.{terms_of}
use Rattle.term_reader.specs.Height.{height}
use Rattle.term_reader.specs.Lawful.{AreNumbers, IsLawful}
use Rattle.report_identities.specs.declared.fault.IdentityFault.{IdentityFault}
use Rattle.report_identities.specs.declared.fault.IdentityFault.TheVariants.{BadIdentity, TooDeep, Memory}

-- a call of as many arguments as its kind takes, of terms that a program can hold, where the number of the request and those of pids are below 2^64
pub record IsLawfulCall (p : Pid) (request : ℕ) (kind : CallKind) (arguments : List Meaning) (told : Option Pid) : Type 0 where
  pub process : AreNumbers p
  pub number : request < 2 ^ 64
  pub arity : length arguments ≡ (signature kind).arity
  pub terms : AllByRecursion IsLawful arguments
  pub owner : IfSome told AreNumbers

-- what a schedule of a program can show: such a call that was refused, an end with such a reason, and a deadlock or unread messages of at least one process
abbrev pub IsLawfulIdentity : Identity → Type 0
IsLawfulIdentity (End p reason) = AreNumbers p × IsLawful reason
IsLawfulIdentity (Deadlock processes) = (0 < length processes) × AllByRecursion AreNumbers processes
IsLawfulIdentity (Runaway p) = AreNumbers p
IsLawfulIdentity (RefusedCall p request kind arguments rule told) = IsLawfulCall p request kind arguments told
IsLawfulIdentity (Unread processes) = (0 < length processes) × AllByRecursion AreNumbers processes

-- how high its terms are: the reason of an end, and the arguments of a call in one tuple
abbrev pub height_in : Identity → ℕ
height_in (End p reason) = height reason
height_in (Deadlock processes) = 0
height_in (Runaway p) = 0
height_in (RefusedCall p request kind arguments rule told) = height (Tuple (meanings_of arguments))
height_in (Unread processes) = 0

-- a text is refused only for lack of memory, or where its terms are so high: higher than 10,000
abbrev pub MayRefuse : ℕ → IdentityFault → Type 0
MayRefuse high BadIdentity = ⊥
MayRefuse high TooDeep = 10000 < high
MayRefuse high Memory = Unit {0}

-- a term of it has more than 10,000 nodes
pub record HasLargeTerm (i : Identity) : Type 0 where
  pub term : Meaning
  pub among : IsAmong term (terms_of i)
  pub large : 10000 < node_count term
