-- What happens, as it is stored, in the words of the explored world.
use Rattle.term_core.specs.Term.{meaning_of}
use Rattle.world_model.specs.Events as events
use Rattle.proc_links.specs.Effects.{fate_in}
use Rattle.proc_signals.specs.Signal.{signal_of}
use Rattle.world_planned.specs.Replies.{refusal_in}
use Rattle.world_footprints.specs.declared.deed.Deed.{Deed}
use Rattle.world_footprints.specs.declared.deed.Deed.TheVariants.{Served, Refused, EndedItself, Received, TimedOut, Ended, RanAway, Delivered}
use Rattle.world_footprints.specs.declared.deed.Event.{Event}

-- what a step did
abbrev pub deed_in : Deed → events.Deed
deed_in (Served kind arguments answer) = events.Served kind arguments.value (meaning_of answer)
deed_in (Refused kind arguments refusal) = events.Refused kind arguments.value (refusal_in refusal)
deed_in (EndedItself kind arguments reason) = events.EndedItself kind arguments.value (meaning_of reason)
deed_in (Received message) = events.Received (meaning_of message)
deed_in TimedOut = events.TimedOut
deed_in (Ended reason) = events.Ended (meaning_of reason)
deed_in RanAway = events.RanAway
deed_in (Delivered signal effect) = events.Delivered (signal_of signal) (fate_in effect)

-- an event
abbrev pub event_in : Event → events.Event
event_in e = events.event e.step (deed_in e.deed)
