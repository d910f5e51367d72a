-- What happens: signals, what they do, and the events of a history.
use Rattle.std.specs.Prelude.{List, Option}
use Rattle.term_core.specs.Meaning.{Meaning}
use Rattle.term_core.specs.declared.step.Step.{Step}
use Rattle.core_calls.specs.declared.call.CallKind.{CallKind}
use Rattle.world_model.specs.Names.{Pid, Ref}
use Rattle.world_model.specs.declared.rule.Rule.{Rule}

-- a message; an exit signal of `exit/2`; that a linked process ended; that a watched one did; a message to a reference; that of a timer (Erlang reference manual, "Processes": "Sending Signals")
pub data Signal : Type 0 where
  Message : (message : Meaning) → Signal
  Exit : (reason : Meaning) → Signal
  LinkExit : (reason : Meaning) → Signal
  Down : (ref : Ref) (reason : Meaning) → Signal
  Guarded : (ref : Ref) (message : Meaning) → Signal
  Elapsed : (ref : Ref) (message : Meaning) → Signal

-- what becomes of a signal where it takes effect: a message in the mailbox, nothing, nothing since what it is about is gone, or the end of the process
pub data Fate : Type 0 where
  Arrives : (message : Meaning) → Fate
  IsIgnored : Fate
  IsDropped : Fate
  Kills : (reason : Meaning) → Fate

-- why a call is refused: error `badarg` or `noproc` of a process call; the one rule of a table call, with the owner at that time where the rule reports it
pub data Refusal : Type 0 where
  Badarg : Refusal
  NoProcess : Refusal
  ByRule : (rule : Rule) (owner : Option Pid) → Refusal

-- what a step did: of a turn, that a call was served, was refused, or ended its caller; that a receive took a message, or reached its timeout; that the process ended, or ran away; and of a delivery, the signal and what became of it
pub data Deed : Type 0 where
  Served : (kind : CallKind) (arguments : List Meaning) (answer : Meaning) → Deed
  Refused : (kind : CallKind) (arguments : List Meaning) (refusal : Refusal) → Deed
  EndedItself : (kind : CallKind) (arguments : List Meaning) (reason : Meaning) → Deed
  Received : (message : Meaning) → Deed
  TimedOut : Deed
  Ended : (reason : Meaning) → Deed
  RanAway : Deed
  Delivered : (signal : Signal) (fate : Fate) → Deed

-- a step, and what it did
pub record Event : Type 0 where
  pub step : Step
  pub deed : Deed

abbrev pub event : Step → Deed → Event
event step deed = record { step = step; deed = deed }

-- what happened, the latest first
abbrev pub History : Type 0
History = List Event
