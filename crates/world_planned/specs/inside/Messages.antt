-- What is planned of messages that are taken from a mailbox, of what is sent, and of aliases that end by a reply.
use Rattle.std.specs.Prelude.{◌∷◌, [], Bool, Option}
use Rattle.term_core.specs.Meaning.{Meaning}
use Rattle.world_model.specs.Cells as cells
use Rattle.world_model.specs.Cells.{Contents}
use Rattle.world_model.specs.Changes.{GuardCleared}
use Rattle.world_model.specs.Guards.{ends_by_reply}
use Rattle.world_model.specs.Mailboxes.{picked, reads_to_pick}
use Rattle.world_model.specs.Names.{Pid, Ref, same_pid}
use Rattle.world_model.specs.ProcessLines.{exited, flushed, read_of_target, reads_to_flush, sent}
use Rattle.world_model.specs.Signals.{reply_ends, watch_goes, watch_if}
use Rattle.world_planned.specs.inside.Planned.{Adds}
use Rattle.world_planned.specs.declared.planned.Planned.{Planned}

-- this message is taken from the mailbox of a process, or none is found there
abbrev pub PlansPicked : Pid → Option Meaning → Planned → Planned → Type 0
PlansPicked p message old new = Adds (reads_to_pick p message) (picked p message) old new

-- the same where the call flushes, and nothing where it does not
abbrev pub PlansFlushed : Bool → Pid → Option Meaning → Planned → Planned → Type 0
PlansFlushed flushes p message old new = Adds (reads_to_flush flushes p message) (flushed flushes p message) old new

-- a process sends a message to another, or to itself
abbrev pub PlansSent : Contents → Pid → Pid → Meaning → Planned → Planned → Type 0
PlansSent v s r message old new = Adds (read_of_target (same_pid s r) s r) (sent (same_pid s r) v s r message) old new

-- a process sends an exit signal to another, or to itself
abbrev pub PlansExited : Contents → Pid → Pid → Meaning → Planned → Planned → Type 0
PlansExited v s r reason old new = Adds (read_of_target (same_pid s r) s r) (exited (same_pid s r) v s r reason) old new

-- an alias ends, and the watch of its reference with it
abbrev pub PlansEnded : Contents → Ref → Planned → Planned → Type 0
PlansEnded v ref old new = Adds (cells.Watch ref ∷ []) (GuardCleared ref ∷ watch_goes ref (v (cells.Watch ref))) old new

-- the same where a message that comes through it to a process ends it
abbrev pub PlansReplied : Contents → Pid → Ref → Planned → Planned → Type 0
PlansReplied v p ref old new =
    Adds (watch_if (ends_by_reply p (v (cells.Guard ref))) ref) (reply_ends (ends_by_reply p (v (cells.Guard ref))) ref (v (cells.Watch ref))) old new
