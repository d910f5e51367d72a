-- When a process that lives has no turn.
use Rattle.std.specs.Prelude.{◌≡◌, true, None}
use Rattle.world_model.specs.Calls.{call_of}
use Rattle.world_model.specs.Cells.{Contents, Machine}
use Rattle.world_model.specs.Events.{History}
use Rattle.world_model.specs.Mailboxes.{mailbox_in, selected_of}
use Rattle.world_model.specs.Names.{Pid}
use Rattle.world_model.specs.Requests.{Program, Request, Calls, Receives, Ends, RunsAway}
use Rattle.world_model.specs.Steps.{asked, must_wait}
use Rattle.world_model.specs.World.{alive, contents}

-- a process that asks this waits: for a message that its receive selects, or, where it asks whether a process lives or what is told of another, until its own signals to that process have arrived
abbrev pub WaitsAt : Contents → Pid → Request → Type 0
WaitsAt v p (Calls kind arguments) = must_wait v p (call_of kind arguments) ≡ true
WaitsAt v p (Receives waits selects) = (waits ≡ true) × (selected_of selects (mailbox_in v p) ≡ None)
WaitsAt v p (Ends reason) = ⊥
WaitsAt v p RunsAway = ⊥

-- it lives and waits
abbrev pub Waits : Program → History → Pid → Type 0
Waits a h p = (alive h p ≡ true) × WaitsAt (contents h) p (asked a p (contents h (Machine p)))
