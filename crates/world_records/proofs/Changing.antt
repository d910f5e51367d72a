-- Records in which one part followed changes of its own sorts of cells.
use Rattle.std.proofs.Common.{List, refl}
use Rattle.core_tree.specs.Syntax.{ModuleTree}
use Rattle.world_model.specs.Cells.{Contents}
use Rattle.world_model.specs.Changes.{Change, after}
use Rattle.world_model.proofs.SortLaws.{AllAmong}
use Rattle.proc_links.specs.Guards.{AreGuards}
use Rattle.proc_links.specs.Names.{AreHolders, AreListed, AreBorne}
use Rattle.proc_links.specs.Watchers.{AreWatchers, AreWatches}
use Rattle.proc_links.specs.declared.guards.Guards.{Guards}
use Rattle.proc_links.specs.declared.names.Names.{Names}
use Rattle.proc_links.specs.declared.watchers.Watchers.{Watchers}
use Rattle.proc_machines.specs.Processes as processes
use Rattle.proc_machines.specs.declared.processes.Processes.{Processes}
use Rattle.proc_mailboxes.specs.Mailboxes.{AreMailboxes, Mailboxes}
use Rattle.ets_rules.specs.Tables.{Hold}
use Rattle.ets_rules.specs.declared.tables.Tables.{Tables}
use Rattle.world_records.specs.Records.{Agrees}
use Rattle.world_records.specs.declared.records.Records.{Records}
use Rattle.world_records.proofs.Parts.{Same, of_processes, of_mailboxes, of_channels, of_links, of_watches, of_guards, of_names, of_tables, same_after, processes_same, mailboxes_same, channels_same, links_same, watchers_same, watches_same, guards_same, holders_same, listed_same, borne_same, tables_same}

-- contents that are the same in all cells
pub agrees_same : (m : ModuleTree) (r : Records) (v w : Contents) → Same of_processes v w → Same of_mailboxes v w → Same of_channels v w → Same of_links v w → Same of_watches v w → Same of_guards v w → Same of_names v w → Same of_tables v w → Agrees m r v → Agrees m r w
agrees_same m r v w ps bs cs ls ws gs ns ts told = record {
  processes_are = processes_same m r.processes v w ps told.processes_are;
  mailboxes_are = mailboxes_same r.mailboxes v w bs told.mailboxes_are;
  channels_are = channels_same r.channels v w cs told.channels_are;
  links_are = links_same r.links v w ls told.links_are;
  watchers_are = watchers_same r.watchers v w ws told.watchers_are;
  watches_are = watches_same r.watchers v w ws told.watches_are;
  guards_are = guards_same r.guards v w gs told.guards_are;
  holders_are = holders_same r.names v w ns told.holders_are;
  names_are = listed_same r.names v w ns told.names_are;
  borne_are = borne_same r.names v w ns told.borne_are;
  tables_are = tables_same r.tables v w ts told.tables_are;
}

pub only_processes : (m : ModuleTree) (r : Records) (new : Processes) (ks : List Change) (v : Contents) → AllAmong of_processes ks → processes.Agrees m new (after ks v) → Agrees m r v → Agrees m (record r { processes = new }) (after ks v)
only_processes m r new ks v all are told = record {
  processes_are = are;
  mailboxes_are = mailboxes_same r.mailboxes v (after ks v) (same_after of_mailboxes of_processes ks v all refl) told.mailboxes_are;
  channels_are = channels_same r.channels v (after ks v) (same_after of_channels of_processes ks v all refl) told.channels_are;
  links_are = links_same r.links v (after ks v) (same_after of_links of_processes ks v all refl) told.links_are;
  watchers_are = watchers_same r.watchers v (after ks v) (same_after of_watches of_processes ks v all refl) told.watchers_are;
  watches_are = watches_same r.watchers v (after ks v) (same_after of_watches of_processes ks v all refl) told.watches_are;
  guards_are = guards_same r.guards v (after ks v) (same_after of_guards of_processes ks v all refl) told.guards_are;
  holders_are = holders_same r.names v (after ks v) (same_after of_names of_processes ks v all refl) told.holders_are;
  names_are = listed_same r.names v (after ks v) (same_after of_names of_processes ks v all refl) told.names_are;
  borne_are = borne_same r.names v (after ks v) (same_after of_names of_processes ks v all refl) told.borne_are;
  tables_are = tables_same r.tables v (after ks v) (same_after of_tables of_processes ks v all refl) told.tables_are;
}

pub only_mailboxes : (m : ModuleTree) (r : Records) (new : Mailboxes) (ks : List Change) (v : Contents) → AllAmong of_mailboxes ks → AreMailboxes new (after ks v) → Agrees m r v → Agrees m (record r { mailboxes = new }) (after ks v)
only_mailboxes m r new ks v all are told = record {
  processes_are = processes_same m r.processes v (after ks v) (same_after of_processes of_mailboxes ks v all refl) told.processes_are;
  mailboxes_are = are;
  channels_are = channels_same r.channels v (after ks v) (same_after of_channels of_mailboxes ks v all refl) told.channels_are;
  links_are = links_same r.links v (after ks v) (same_after of_links of_mailboxes ks v all refl) told.links_are;
  watchers_are = watchers_same r.watchers v (after ks v) (same_after of_watches of_mailboxes ks v all refl) told.watchers_are;
  watches_are = watches_same r.watchers v (after ks v) (same_after of_watches of_mailboxes ks v all refl) told.watches_are;
  guards_are = guards_same r.guards v (after ks v) (same_after of_guards of_mailboxes ks v all refl) told.guards_are;
  holders_are = holders_same r.names v (after ks v) (same_after of_names of_mailboxes ks v all refl) told.holders_are;
  names_are = listed_same r.names v (after ks v) (same_after of_names of_mailboxes ks v all refl) told.names_are;
  borne_are = borne_same r.names v (after ks v) (same_after of_names of_mailboxes ks v all refl) told.borne_are;
  tables_are = tables_same r.tables v (after ks v) (same_after of_tables of_mailboxes ks v all refl) told.tables_are;
}

pub only_watchers : (m : ModuleTree) (r : Records) (new : Watchers) (ks : List Change) (v : Contents) → AllAmong of_watches ks → AreWatchers new (after ks v) → AreWatches new (after ks v) → Agrees m r v → Agrees m (record r { watchers = new }) (after ks v)
only_watchers m r new ks v all first second told = record {
  processes_are = processes_same m r.processes v (after ks v) (same_after of_processes of_watches ks v all refl) told.processes_are;
  mailboxes_are = mailboxes_same r.mailboxes v (after ks v) (same_after of_mailboxes of_watches ks v all refl) told.mailboxes_are;
  channels_are = channels_same r.channels v (after ks v) (same_after of_channels of_watches ks v all refl) told.channels_are;
  links_are = links_same r.links v (after ks v) (same_after of_links of_watches ks v all refl) told.links_are;
  watchers_are = first;
  watches_are = second;
  guards_are = guards_same r.guards v (after ks v) (same_after of_guards of_watches ks v all refl) told.guards_are;
  holders_are = holders_same r.names v (after ks v) (same_after of_names of_watches ks v all refl) told.holders_are;
  names_are = listed_same r.names v (after ks v) (same_after of_names of_watches ks v all refl) told.names_are;
  borne_are = borne_same r.names v (after ks v) (same_after of_names of_watches ks v all refl) told.borne_are;
  tables_are = tables_same r.tables v (after ks v) (same_after of_tables of_watches ks v all refl) told.tables_are;
}

pub only_guards : (m : ModuleTree) (r : Records) (new : Guards) (ks : List Change) (v : Contents) → AllAmong of_guards ks → AreGuards new (after ks v) → Agrees m r v → Agrees m (record r { guards = new }) (after ks v)
only_guards m r new ks v all are told = record {
  processes_are = processes_same m r.processes v (after ks v) (same_after of_processes of_guards ks v all refl) told.processes_are;
  mailboxes_are = mailboxes_same r.mailboxes v (after ks v) (same_after of_mailboxes of_guards ks v all refl) told.mailboxes_are;
  channels_are = channels_same r.channels v (after ks v) (same_after of_channels of_guards ks v all refl) told.channels_are;
  links_are = links_same r.links v (after ks v) (same_after of_links of_guards ks v all refl) told.links_are;
  watchers_are = watchers_same r.watchers v (after ks v) (same_after of_watches of_guards ks v all refl) told.watchers_are;
  watches_are = watches_same r.watchers v (after ks v) (same_after of_watches of_guards ks v all refl) told.watches_are;
  guards_are = are;
  holders_are = holders_same r.names v (after ks v) (same_after of_names of_guards ks v all refl) told.holders_are;
  names_are = listed_same r.names v (after ks v) (same_after of_names of_guards ks v all refl) told.names_are;
  borne_are = borne_same r.names v (after ks v) (same_after of_names of_guards ks v all refl) told.borne_are;
  tables_are = tables_same r.tables v (after ks v) (same_after of_tables of_guards ks v all refl) told.tables_are;
}

pub only_names : (m : ModuleTree) (r : Records) (new : Names) (ks : List Change) (v : Contents) → AllAmong of_names ks → AreHolders new (after ks v) → AreListed new (after ks v) → AreBorne new (after ks v) → Agrees m r v → Agrees m (record r { names = new }) (after ks v)
only_names m r new ks v all first listed second told = record {
  processes_are = processes_same m r.processes v (after ks v) (same_after of_processes of_names ks v all refl) told.processes_are;
  mailboxes_are = mailboxes_same r.mailboxes v (after ks v) (same_after of_mailboxes of_names ks v all refl) told.mailboxes_are;
  channels_are = channels_same r.channels v (after ks v) (same_after of_channels of_names ks v all refl) told.channels_are;
  links_are = links_same r.links v (after ks v) (same_after of_links of_names ks v all refl) told.links_are;
  watchers_are = watchers_same r.watchers v (after ks v) (same_after of_watches of_names ks v all refl) told.watchers_are;
  watches_are = watches_same r.watchers v (after ks v) (same_after of_watches of_names ks v all refl) told.watches_are;
  guards_are = guards_same r.guards v (after ks v) (same_after of_guards of_names ks v all refl) told.guards_are;
  holders_are = first;
  names_are = listed;
  borne_are = second;
  tables_are = tables_same r.tables v (after ks v) (same_after of_tables of_names ks v all refl) told.tables_are;
}

pub only_tables : (m : ModuleTree) (r : Records) (new : Tables) (ks : List Change) (v : Contents) → AllAmong of_tables ks → Hold new (after ks v) → Agrees m r v → Agrees m (record r { tables = new }) (after ks v)
only_tables m r new ks v all are told = record {
  processes_are = processes_same m r.processes v (after ks v) (same_after of_processes of_tables ks v all refl) told.processes_are;
  mailboxes_are = mailboxes_same r.mailboxes v (after ks v) (same_after of_mailboxes of_tables ks v all refl) told.mailboxes_are;
  channels_are = channels_same r.channels v (after ks v) (same_after of_channels of_tables ks v all refl) told.channels_are;
  links_are = links_same r.links v (after ks v) (same_after of_links of_tables ks v all refl) told.links_are;
  watchers_are = watchers_same r.watchers v (after ks v) (same_after of_watches of_tables ks v all refl) told.watchers_are;
  watches_are = watches_same r.watchers v (after ks v) (same_after of_watches of_tables ks v all refl) told.watches_are;
  guards_are = guards_same r.guards v (after ks v) (same_after of_guards of_tables ks v all refl) told.guards_are;
  holders_are = holders_same r.names v (after ks v) (same_after of_names of_tables ks v all refl) told.holders_are;
  names_are = listed_same r.names v (after ks v) (same_after of_names of_tables ks v all refl) told.names_are;
  borne_are = borne_same r.names v (after ks v) (same_after of_names of_tables ks v all refl) told.borne_are;
  tables_are = are;
}
