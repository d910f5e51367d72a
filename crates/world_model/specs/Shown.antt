-- What a history shows: ends, deadlocks, unread messages, runaways and refusals, and which of these are errors.
use Rattle.std.specs.List.{filter, list_any}
use Rattle.std.specs.Prelude.{List, ◌&&◌, ◌∷◌, if◌then◌else◌, ◌++◌, not, ℕ, Option, [], Bool, true, false}
use Rattle.term_core.specs.Meaning.{Meaning}
use Rattle.term_core.specs.declared.step.Step.{Step}
use Rattle.term_core.specs.declared.step.Step.TheVariants.{Turn, Deliver}
use Rattle.core_calls.specs.declared.call.CallKind.{CallKind}
use Rattle.world_model.specs.Events.{Refused, Refusal, Badarg, NoProcess, ByRule, Fate, Arrives, IsIgnored, IsDropped, Kills, Deed, Ended, EndedItself, RanAway, Delivered, History}
use Rattle.world_model.specs.Names.{Pid, IsAmong, same_pid}
use Rattle.world_model.specs.Requests.{Program}
use Rattle.world_model.specs.Run.{enabled_steps, living}
use Rattle.world_model.specs.Signals.{is_normal}
use Rattle.world_model.specs.World.{mailbox, turns}
use Rattle.world_model.specs.declared.rule.Rule.{Rule}
use Rattle.world_model.specs.declared.rule.Rule.TheVariants.{PrivateRead, PrivateWrite, ProtectedWrite, NotOwner}

-- an end with another reason than 'normal'; no step enabled while these processes live; a process that ran away; a refused call of a table, with the number of its request; no step enabled and the first process gone, while these processes live and have messages in their mailboxes
pub data Identity : Type 0 where
  End : (p : Pid) (reason : Meaning) → Identity
  Deadlock : (processes : List Pid) → Identity
  Runaway : (p : Pid) → Identity
  RefusedCall : (p : Pid) (request : ℕ) (kind : CallKind) (arguments : List Meaning) (rule : Rule) (told : Option Pid) → Identity
  Unread : (processes : List Pid) → Identity

-- ---- of the last event

abbrev pub unless_normal : Pid → Meaning → List Identity
unless_normal p reason = if is_normal reason then [] else End p reason ∷ []

abbrev pub shown_by_refusal : Pid → ℕ → CallKind → List Meaning → Refusal → List Identity
shown_by_refusal p request kind arguments Badarg = []
shown_by_refusal p request kind arguments NoProcess = []
shown_by_refusal p request kind arguments (ByRule rule told) = RefusedCall p request kind arguments rule told ∷ []

abbrev pub shown_by_fate : Pid → Fate → List Identity
shown_by_fate r (Arrives message) = []
shown_by_fate r IsIgnored = []
shown_by_fate r IsDropped = []
shown_by_fate r (Kills reason) = unless_normal r reason

-- by a turn, in the request of this number, and by a delivery
abbrev pub shown_by : Step → ℕ → Deed → List Identity
shown_by (Turn p) request (Refused kind arguments refusal) = shown_by_refusal p request kind arguments refusal
shown_by (Turn p) request (EndedItself kind arguments reason) = unless_normal p reason
shown_by (Turn p) request (Ended reason) = unless_normal p reason
shown_by (Turn p) request RanAway = Runaway p ∷ []
shown_by (Deliver s r) request (Delivered signal fate) = shown_by_fate r fate
shown_by step request deed = []

abbrev pub request_in : Step → History → ℕ
request_in (Turn p) h = turns h p
request_in (Deliver s r) h = 0

abbrev pub shown_last : History → List Identity
shown_last [] = []
shown_last (e ∷ h) = shown_by e.step (request_in e.step (e ∷ h)) e.deed

-- ---- where no step is enabled

-- those that live wait for ever, where there are any
abbrev pub deadlock_of : List Pid → List Identity
deadlock_of [] = []
deadlock_of (p ∷ ps) = Deadlock (p ∷ ps) ∷ []

-- whether the first process is among these
abbrev pub has_first : List Pid → Bool
has_first = list_any (λ p. same_pid p [])

-- whether there are any messages
abbrev pub are_some : List Meaning → Bool
are_some [] = false
are_some (message ∷ messages) = true

-- those of these processes that have messages in their mailboxes
abbrev pub with_messages : History → List Pid → List Pid
with_messages h ps = filter (λ p. are_some (mailbox h p)) ps

-- these have messages that they do not take, where there are any
abbrev pub unread_by : List Pid → List Identity
unread_by [] = []
unread_by (p ∷ ps) = Unread (p ∷ ps) ∷ []

-- of those that live, those that have messages; and nothing where the first process lives
abbrev pub unread_of : List Pid → List Pid → List Identity
unread_of ps unread = if has_first ps then [] else unread_by unread

-- what is shown after a history in which these steps are enabled: where none is, the deadlock of those that live, and what they leave unread
abbrev pub shown_at_rest : List Step → History → List Identity
shown_at_rest [] h = deadlock_of (living h) ++ unread_of (living h) (with_messages h (living h))
shown_at_rest (step ∷ steps) h = []

-- all that a history shows
abbrev pub shown : Program → History → List Identity
shown a h = shown_last h ++ shown_at_rest (enabled_steps a h) h

abbrev pub Shows : Program → History → Identity → Type 0
Shows a h i = IsAmong i (shown a h)

-- ---- errors and refusals

pub record Flags : Type 0 where
  pub allow_deadlock : Bool
  pub strict_access : Bool
  pub idle_servers : Bool

-- the rules 3 to 6: what is not the caller's to do
abbrev pub is_of_access : Rule → Bool
is_of_access PrivateRead = true
is_of_access PrivateWrite = true
is_of_access ProtectedWrite = true
is_of_access NotOwner = true
is_of_access rule = false

abbrev pub is_error : Flags → Identity → Bool
is_error flags (End p reason) = true
is_error flags (Deadlock ps) = not flags.allow_deadlock
is_error flags (Runaway p) = true
is_error flags (RefusedCall p request kind arguments rule told) = flags.strict_access && is_of_access rule
is_error flags (Unread ps) = flags.idle_servers

abbrev pub is_refusal : Identity → Bool
is_refusal (RefusedCall p request kind arguments rule told) = true
is_refusal i = false

abbrev pub errors_of : Flags → Program → History → List Identity
errors_of flags a h = filter (is_error flags) (shown a h)

abbrev pub refusals_of : Program → History → List Identity
refusals_of a h = filter is_refusal (shown a h)
