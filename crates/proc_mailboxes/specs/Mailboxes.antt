-- Mailboxes: the messages of each process, as they are kept and as cells contain them.
use Rattle.std.specs.List.{list_any}
use Rattle.std.specs.Prelude.{◌≡◌, true, List, [], Option, Some, None, if◌then◌else◌}
use Rattle.proc_signals.specs.Channels.{beside}
use Rattle.proc_signals.specs.Mailbox.{IsMailbox}
use Rattle.term_core.specs.Meaning.{Meaning}
use Rattle.world_model.specs.Cells.{Contents}
use Rattle.world_model.specs.Changes.{MessageTaken, changed}
use Rattle.world_model.specs.Mailboxes.{mailbox_in}
use Rattle.world_model.specs.Names.{Pid, same_pid, same_term}

-- processes in their order, each with its messages, the oldest first
abbrev pub Mailboxes : Type 0
Mailboxes = List (Pid × List Meaning)

-- a process that has no mailbox has no messages
abbrev pub messages_of : Option (List Meaning) → List Meaning
messages_of None = []
messages_of (Some messages) = messages

-- the messages of a process, the oldest first
abbrev pub messages_in : Mailboxes → Pid → List Meaning
messages_in mailboxes p = messages_of (beside mailboxes p)

-- each process has its messages
abbrev pub AreMailboxes : Mailboxes → Contents → Type 0
AreMailboxes mailboxes v = (p : Pid) → IsMailbox (messages_in mailboxes p) v p

-- a message that is in the mailbox of a process is taken from it
abbrev pub IsTakenFrom : Pid → Meaning → Mailboxes → Mailboxes → Type 0
IsTakenFrom p message old new = (v : Contents) → list_any (same_term message) (mailbox_in v p) ≡ true → AreMailboxes old v → AreMailboxes new (changed (MessageTaken p message) v)

-- each process has the messages that it had
abbrev pub IsUnchanged : Mailboxes → Mailboxes → Type 0
IsUnchanged old new = (p : Pid) → messages_in new p ≡ messages_in old p

-- one process has what f makes of its messages, and the others have those that they had
abbrev pub IsChangedAt : Pid → (List Meaning → List Meaning) → Mailboxes → Mailboxes → Type 0
IsChangedAt p f old new = (q : Pid) → messages_in new q ≡ (if same_pid p q then f (messages_in old q) else messages_in old q)

-- one process has the messages that it has in others, and the others have those that they had
abbrev pub TakesFrom : Pid → Mailboxes → Mailboxes → Mailboxes → Type 0
TakesFrom p other old new = (q : Pid) → messages_in new q ≡ (if same_pid p q then messages_in other q else messages_in old q)
