-- The changes of the code, in the words of the explored world.
use Rattle.std.specs.List.{list_any}
use Rattle.std.specs.Prelude.{◌≡◌, List, [], ◌∷◌, ◌++◌, true}
use Rattle.ets_rules.specs.Changes as tables
use Rattle.ets_rules.specs.Changes.{changes_of_tables}
use Rattle.proc_links.specs.Guards.{guard_of}
use Rattle.proc_links.specs.Process.{are_trapped}
use Rattle.proc_signals.specs.Signal.{signal_of}
use Rattle.term_core.specs.Term.{meaning_of}
use Rattle.world_model.specs.Cells.{Contents}
use Rattle.world_model.specs.Changes as changes
use Rattle.world_model.specs.Changes.{changed}
use Rattle.world_model.specs.Mailboxes.{mailbox_in}
use Rattle.world_model.specs.Names.{same_term, ref_of}
use Rattle.world_model.specs.ProcessLines.{pair_begins, watch_begins}
use Rattle.world_model.specs.Requests.{Spawned}
use Rattle.world_model.specs.Signals.{pair_goes}
use Rattle.world_records.specs.Cells.{cell_in}
use Rattle.world_records.specs.declared.change.Change.{Change}
use Rattle.world_records.specs.declared.change.Change.TheVariants.{ProcessStarted, ProcessEnded, TrapSet, MessageAdded, MessageTaken, SignalPut, LinkAdded, LinkRemoved, WatchSet, WatchCleared, GuardSet, GuardCleared, GuardUnwatched, NameRegistered, NameUnregistered, NameCleared, OfTables, CellTouched}

-- the changes of the explored world that a change means
abbrev pub changes_in : Change → List changes.Change
changes_in (ProcessStarted child module_name function_name arguments) = changes.MachineStarted child (Spawned module_name function_name arguments) ∷ changes.AliveSet child ∷ []
changes_in (ProcessEnded p reason) = changes.MachineHalted p (meaning_of reason) ∷ changes.AliveCleared p ∷ []
changes_in (TrapSet p exits) = changes.TrapSet p (are_trapped exits) ∷ []
changes_in (MessageAdded p message) = changes.MessageAdded p (meaning_of message) ∷ []
changes_in (MessageTaken p message) = changes.MessageTaken p (meaning_of message) ∷ []
changes_in (SignalPut s r signal) = changes.SignalPut s r (signal_of signal) ∷ []
changes_in (LinkAdded p q) = pair_begins p q
changes_in (LinkRemoved p q) = pair_goes p q
changes_in (WatchSet id target) = watch_begins (ref_of id) target
changes_in (WatchCleared id target) = changes.WatchCleared (ref_of id) ∷ changes.WatcherRemoved target (ref_of id) ∷ []
changes_in (GuardSet id guard) = changes.GuardSet (ref_of id) (guard_of guard) ∷ []
changes_in (GuardCleared id) = changes.GuardCleared (ref_of id) ∷ []
changes_in (GuardUnwatched id) = changes.GuardUnwatched (ref_of id) ∷ []
changes_in (NameRegistered name p) = changes.HolderSet name p ∷ changes.NameSet p name ∷ []
changes_in (NameUnregistered name p) = changes.HolderCleared name ∷ changes.NameCleared p ∷ []
changes_in (NameCleared p) = changes.NameCleared p ∷ []
changes_in (OfTables change) = changes_of_tables change
changes_in (CellTouched c) = changes.CellTouched (cell_in c) ∷ []

-- those that several mean, one after the other
abbrev pub all_changes_in : List Change → List changes.Change
all_changes_in [] = []
all_changes_in (c ∷ cs) = changes_in c ++ all_changes_in cs

-- what the cells need before a change, so that records can hold what it leaves: a message is taken that is there, and the tables can hold what it leaves
abbrev pub CanHold : Contents → changes.Change → Type 0
CanHold v (changes.MessageTaken p message) = list_any (same_term message) (mailbox_in v p) ≡ true
CanHold v k = tables.CanHold v k

-- and before several, one after the other
abbrev pub CanApply : Contents → List changes.Change → Type 0
CanApply v [] = Unit {0}
CanApply v (k ∷ ks) = CanHold v k × CanApply (changed k v) ks
