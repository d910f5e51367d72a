-- The records of a world: all its parts, and what they say of its cells.
use Rattle.std.specs.Prelude.{List, Option}
use Rattle.core_tree.specs.Syntax.{ModuleTree}
use Rattle.term_core.specs.Meaning.{Meaning}
use Rattle.world_model.specs.Cells.{Contents}
use Rattle.world_model.specs.Changes.{Change, after}
use Rattle.world_model.specs.Mailboxes.{mailbox_in, selected_of}
use Rattle.world_model.specs.Names.{Pid}
use Rattle.proc_mailboxes.specs.Mailboxes.{AreMailboxes, Mailboxes}
use Rattle.proc_signals.specs.Channels.{AreChannels, Senders}
use Rattle.proc_links.specs.Guards.{AreGuards}
use Rattle.proc_links.specs.Links.{AreLinks}
use Rattle.proc_links.specs.Names.{AreHolders, AreListed, AreBorne}
use Rattle.proc_links.specs.Watchers.{AreWatchers, AreWatches}
use Rattle.proc_machines.specs.Processes as processes
use Rattle.ets_rules.specs.Tables.{Hold}
use Rattle.proc_machines.specs.declared.processes.Processes.{Processes}
use Rattle.proc_links.specs.declared.guards.Guards.{Guards}
use Rattle.proc_links.specs.declared.links.Links.{Links}
use Rattle.proc_links.specs.declared.watchers.Watchers.{Watchers}
use Rattle.proc_links.specs.declared.names.Names.{Names}
use Rattle.ets_rules.specs.declared.tables.Tables.{Tables}
use Rattle.world_records.specs.declared.records.Records.{Records}

-- the parts
abbrev pub processes_of : Records → Processes
processes_of records = records.processes

abbrev pub mailboxes_of : Records → Mailboxes
mailboxes_of records = records.mailboxes

abbrev pub channels_of : Records → Senders
channels_of records = records.channels

abbrev pub links_of : Records → Links
links_of records = records.links

abbrev pub watchers_of : Records → Watchers
watchers_of records = records.watchers

abbrev pub guards_of : Records → Guards
guards_of records = records.guards

abbrev pub names_of : Records → Names
names_of records = records.names

abbrev pub tables_of : Records → Tables
tables_of records = records.tables

-- each part is what the contents say
pub record Agrees (m : ModuleTree) (records : Records) (v : Contents) : Type 0 where
  pub processes_are : processes.Agrees m records.processes v
  pub mailboxes_are : AreMailboxes records.mailboxes v
  pub channels_are : AreChannels records.channels v
  pub links_are : AreLinks records.links v
  pub watchers_are : AreWatchers records.watchers v
  pub watches_are : AreWatches records.watchers v
  pub guards_are : AreGuards records.guards v
  pub holders_are : AreHolders records.names v
  pub names_are : AreListed records.names v
  pub borne_are : AreBorne records.names v
  pub tables_are : Hold records.tables v

-- this is so of the module and of all contents that the records agree with
abbrev pub OfWorld : Records → (ModuleTree → Contents → Type 0) → Type 0
OfWorld records IsSo = (m : ModuleTree) (v : Contents) → Agrees m records v → IsSo m v

-- the oldest message in the mailbox of a process that its receive selects, if there is one
abbrev pub selected_in : Records → Contents → Pid → Option Meaning
selected_in records v p = selected_of (processes.selects_in records.processes p) (mailbox_in v p)

-- whatever contents the records agreed with, they agree with what these changes leave of them
abbrev pub Follows : (Contents → List Change) → Records → Records → Type 0
Follows changes old new = (m : ModuleTree) (v : Contents) → Agrees m old v → Agrees m new (after (changes v) v)

-- the records agree with the same contents
abbrev pub AreAlike : Records → Records → Type 0
AreAlike old new = (m : ModuleTree) (v : Contents) → Agrees m old v → Agrees m new v
