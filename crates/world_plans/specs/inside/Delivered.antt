-- The delivery of a signal that is known.
use Rattle.std.specs.List.{list_any}
use Rattle.std.specs.Prelude.{◌≡◌, ◌∷◌, [], Bool, true, false, Some}
use Rattle.term_core.specs.Meaning.{Meaning}
use Rattle.core_tree.specs.Syntax.{ModuleTree}
use Rattle.term_core.specs.declared.step.Step.TheVariants.{Deliver}
use Rattle.world_model.specs.Cells as cells
use Rattle.world_model.specs.Cells.{Contents}
use Rattle.world_model.specs.Changes.{GuardCleared, GuardUnwatched, WatchCleared, WatcherRemoved, after}
use Rattle.world_model.specs.Ends.{ends, reads_of_end}
use Rattle.world_model.specs.Events.{Delivered, Fate, Kills, LinkExit, Signal}
use Rattle.world_model.specs.Guards.{ends_by_reply}
use Rattle.world_model.specs.Names.{Pid, Ref, same_pid}
use Rattle.world_model.specs.Signals.{fate_of, goes_with, pair_goes, reply_ends, trap_if, watch_if}
use Rattle.world_model.specs.Steps.{changes_of_fate, reads_if_killed, reads_of_signal}
use Rattle.world_records.specs.Records.{Agrees}
use Rattle.world_records.specs.declared.records.Records.{Records}
use Rattle.world_footprints.specs.Deeds.{deed_in}
use Rattle.world_planned.specs.inside.Planned.{Adds}
use Rattle.world_footprints.specs.Plans.{other_changes}
use Rattle.world_footprints.specs.declared.deed.Deed.{Deed}
use Rattle.world_planned.specs.declared.planned.Planned.{Planned}

pub record IsPlannedSignal (v : Contents) (s r : Pid) (signal : Signal) (deed : Deed) (old new : Planned) : Type 0 where
  pub is_delivered : deed_in deed ≡ Delivered signal (fate_of v s r signal)
  pub adds : Adds (reads_of_signal v s r (Some signal)) (other_changes v (Deliver s r) (Delivered signal (fate_of v s r signal))) old new

abbrev pub PlansSignal : Pid → Pid → Signal → Records → Deed → Planned → Planned → Type 0
PlansSignal s r signal records deed old new = (m : ModuleTree) (v : Contents) → Agrees m records v → IsPlannedSignal v s r signal deed old new

-- a link goes with its exit signal, and is read, with whether the receiver traps exits where the two are linked
abbrev pub PlansUnlinked : Contents → Pid → Pid → Planned → Planned → Type 0
PlansUnlinked v s r old new = Adds (cells.Links r ∷ cells.Links s ∷ trap_if (list_any (same_pid s) (v (cells.Links r))) r) (pair_goes s r) old new

-- a watch goes with its signal, and with it an alias that was made so; the watch is read, and the name by which it was made
abbrev pub PlansUnwatched : Ref → Pid → Planned → Planned → Type 0
PlansUnwatched ref s old new = Adds (cells.Watch ref ∷ cells.Watchers s ∷ cells.Guard ref ∷ []) (WatchCleared ref ∷ WatcherRemoved s ref ∷ GuardUnwatched ref ∷ []) old new

-- the guard of a reference is read, and ends with a message that is a reply
abbrev pub PlansPassed : Contents → Pid → Ref → Planned → Planned → Type 0
PlansPassed v r ref old new =
    Adds (cells.Guard ref ∷ watch_if (ends_by_reply r (v (cells.Guard ref))) ref)
    (reply_ends (ends_by_reply r (v (cells.Guard ref))) ref (v (cells.Watch ref))) old new

-- a timer ends with its message, and is read
abbrev pub PlansElapsed : Ref → Planned → Planned → Type 0
PlansElapsed ref old new = Adds (cells.Guard ref ∷ []) (GuardCleared ref ∷ []) old new

-- whether a signal is that of a link
abbrev pub is_of_link : Signal → Bool
is_of_link (LinkExit reason) = true
is_of_link x = false

-- a signal ends its receiver, once what goes with it is gone
abbrev pub PlansKilled : Pid → Pid → Signal → Meaning → Records → Planned → Planned → Type 0
PlansKilled s r signal reason records old new = (m : ModuleTree) (v : Contents) → Agrees m records v → fate_of v s r signal ≡ Kills reason
    → Adds (reads_of_end (after (goes_with v s r signal) v) r) (ends (after (goes_with v s r signal) v) r reason) old new

-- a signal takes effect as this fate says, once what goes with it is gone
abbrev pub PlansFate : Pid → Pid → Signal → Fate → Records → Planned → Planned → Type 0
PlansFate s r signal fate records old new = (m : ModuleTree) (v : Contents) → Agrees m records v → fate ≡ fate_of v s r signal
    → Adds (reads_if_killed (after (goes_with v s r signal) v) r fate) (changes_of_fate (after (goes_with v s r signal) v) r fate) old new
