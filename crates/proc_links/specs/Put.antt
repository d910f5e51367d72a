-- Signals that are put, each with the process that it is for.
use Rattle.std.specs.Prelude.{◌≡◌, ◌++◌, ℕ, Bool, List, map}
use Rattle.term_core.specs.Meaning.{Meaning}
use Rattle.world_model.specs.Cells as cells
use Rattle.world_model.specs.Cells.{AreAlive, Contents}
use Rattle.world_model.specs.Changes.{Change, SignalPut}
use Rattle.world_model.specs.Ends.{partners_told, watchers_told}
use Rattle.world_model.specs.Events as events
use Rattle.world_model.specs.Names.{Pid}
use Rattle.proc_signals.specs.Signal.{signal_of}
use Rattle.proc_signals.specs.declared.signal.Signal.{Signal}
use Rattle.proc_links.specs.Links.{AreLinks}
use Rattle.proc_links.specs.Watchers.{AreWatchers}
use Rattle.proc_links.specs.declared.links.Links.{Links}
use Rattle.proc_links.specs.declared.watchers.Watchers.{Watchers}

abbrev pub put_of : List ℕ × Signal → Pid × events.Signal
put_of told = (told.0, signal_of told.1)

-- the changes by which a process puts them, in order
abbrev pub puts_by : Pid → List (Pid × events.Signal) → List Change
puts_by p told = map (λ t. SignalPut p t.0 t.1) told

-- the signals that a process puts where it ends, to its partners and then to its watchers, whatever contents say the links, the watches and who lives
abbrev pub AreSignalsOfEnd : Links → Watchers → (Pid → Bool) → Pid → Meaning → List (Pid × events.Signal) → Type 0
AreSignalsOfEnd links watchers lives p reason told = (v : Contents) → AreLinks links v → AreWatchers watchers v → AreAlive lives v
    → partners_told v p reason (v (cells.Links p)) ++ watchers_told v p reason (v (cells.Watchers p)) ≡ puts_by p told
