-- The places of a world, in which its cells lie, and what records say of each.
use Rattle.std.specs.Prelude.{◌≡◌, ◌&&◌, Bool, true, false, if◌then◌else◌, is_some}
use Rattle.core_tree.specs.Syntax.{ModuleTree}
use Rattle.ets_rules.specs.Tables.{Hold}
use Rattle.proc_links.specs.Guards.{AreGuards}
use Rattle.proc_links.specs.Links.{AreLinks}
use Rattle.proc_links.specs.Names.{AreHolders, AreListed, AreBorne}
use Rattle.proc_links.specs.Watchers.{AreWatchers, AreWatches}
use Rattle.proc_machines.specs.Courses.{StandsAs}
use Rattle.proc_machines.specs.Processes.{lives_in, module_of, standing_in, traps_in, turns_in}
use Rattle.proc_machines.specs.declared.processes.Processes.{Processes}
use Rattle.proc_mailboxes.specs.Mailboxes.{messages_in}
use Rattle.proc_signals.specs.Channels.{AreWaiting, between}
use Rattle.proc_signals.specs.Mailbox.{IsMailbox}
use Rattle.world_model.specs.Cells as cells
use Rattle.world_model.specs.Cells.{Cell, Contents}
use Rattle.world_model.specs.Names.{Pid, same_pid}
use Rattle.world_records.specs.declared.place.Place.{Place}
use Rattle.world_records.specs.declared.place.Place.TheVariants.{Course, Inbox, Channel, Links, Watches, Names, Tables}
use Rattle.world_records.specs.declared.records.Records.{Records}

abbrev pub same_place : Place → Place → Bool
same_place (Course p) (Course q) = same_pid p q
same_place (Inbox p) (Inbox q) = same_pid p q
same_place (Channel s r) (Channel t u) = same_pid s t && same_pid r u
same_place Links Links = true
same_place Watches Watches = true
same_place Names Names = true
same_place Tables Tables = true
same_place a b = false

-- where a cell lies
abbrev pub place_of : Cell → Place
place_of (cells.Machine p) = Course p
place_of (cells.Alive p) = Inbox p
place_of (cells.Trap p) = Inbox p
place_of (cells.Taken p) = Inbox p
place_of (cells.Mailed p) = Inbox p
place_of (cells.Front s r) = Channel s r
place_of (cells.Tail s r) = Channel s r
place_of (cells.Links p) = Links
place_of (cells.Watchers p) = Watches
place_of (cells.Watch ref) = Watches
place_of (cells.Guard ref) = Watches
place_of (cells.Holder name) = Names
place_of cells.Holders = Names
place_of (cells.NameOf p) = Names
place_of (cells.TableName name) = Tables
place_of (cells.Table t) = Tables
place_of (cells.Row t key) = Tables
place_of (cells.Rows t) = Tables
place_of (cells.Owned p) = Tables

-- ---- what records say of one place

-- how far a process has come: a machine is at what the program asks after its answers, exactly where it lives
pub record IsCourse (m : ModuleTree) (processes : Processes) (p : Pid) (v : Contents) : Type 0 where
  pub program : module_of processes ≡ m
  pub turns : turns_in processes p ≡ (v (cells.Machine p)).turns
  pub lives : is_some (standing_in processes p) ≡ v (cells.Alive p)
  pub stands : is_some (standing_in processes p) ≡ true → StandsAs m p (v (cells.Machine p)) (standing_in processes p)

-- whether a process lives and traps exits, and its messages
pub record IsInbox (records : Records) (p : Pid) (v : Contents) : Type 0 where
  pub alive : lives_in records.processes p ≡ v (cells.Alive p)
  pub trap : traps_in records.processes p ≡ v (cells.Trap p)
  pub messages : IsMailbox (messages_in records.mailboxes p) v p

-- what the contents say of a place is in the records
abbrev pub AgreesAt : ModuleTree → Place → Records → Contents → Type 0
AgreesAt m (Course p) records v = IsCourse m records.processes p v
AgreesAt m (Inbox p) records v = IsInbox records p v
AgreesAt m (Channel s r) records v = AreWaiting (between records.channels s r) (v (cells.Front s r)) (v (cells.Tail s r))
AgreesAt m Links records v = AreLinks records.links v
AgreesAt m Watches records v = AreWatchers records.watchers v × AreWatches records.watchers v × AreGuards records.guards v
AgreesAt m Names records v = AreHolders records.names v × AreListed records.names v × AreBorne records.names v
AgreesAt m Tables records v = Hold records.tables v

-- records are of one module
abbrev pub AreOfOne : Records → Records → Type 0
AreOfOne one other = module_of one.processes ≡ module_of other.processes

-- records that agree at each place with all that others agree with there
pub record AreAlikeAt (old new : Records) : Type 0 where
  pub of_one : AreOfOne new old
  pub places : (m : ModuleTree) (q : Place) (v : Contents) → AgreesAt m q old v → AgreesAt m q new v

-- what other records of the module say of a place is taken over, and all other places stay
pub record TakesPlace (place : Place) (other old new : Records) : Type 0 where
  pub module_stays : AreOfOne new old
  pub places : (m : ModuleTree) (q : Place) (v : Contents) → AgreesAt m q (if same_place place q then other else old) v → AgreesAt m q new v

-- of one module, what some records agree with at a place these agree with there, where both agree with something there
abbrev pub AgreesTooAt : Place → Records → Records → Type 0
AgreesTooAt place one other = (m : ModuleTree) (v w : Contents) → AgreesAt m place one v → AgreesAt m place other w → AgreesAt m place one w
