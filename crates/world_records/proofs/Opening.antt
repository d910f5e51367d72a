-- The records in the beginning, and the same records.
use Rattle.std.proofs.Common.{◌≡◌, ◌∙◌, ◌++◌, [], None, sym, ap, subst, arith}
use Rattle.std.specs.FinMap.{get-empty}
use Rattle.std.specs.Prelude.{option_map}
use Rattle.term_core.specs.Order.{order_of_lists, order_of_terms}
use Rattle.core_tree.specs.Syntax.{ModuleTree}
use Rattle.world_model.specs.Cells as cells
use Rattle.world_model.specs.Cells.{Contents}
use Rattle.world_model.specs.Names.{Name, Pid, Ref}
use Rattle.world_model.specs.Rows.{under, listed}
use Rattle.world_model.specs.World.{beginning}
use Rattle.ets_store.specs.Tables.{settings_in}
use Rattle.ets_tables.specs.Shelves.{rows_of}
use Rattle.ets_rules.specs.Tables as tables
use Rattle.ets_rules.specs.Tables.{held_in, meant_in, owned_in}
use Rattle.proc_links.specs.Guards as guards
use Rattle.proc_links.specs.Guards.{guard_in}
use Rattle.proc_links.specs.Links.{partners_in}
use Rattle.proc_links.specs.Names.{holder_in, name_in}
use Rattle.proc_links.specs.Watchers as watchers
use Rattle.proc_links.specs.Watchers.{watchers_in, watch_in}
use Rattle.proc_machines.specs.Courses.{StandsAs, standing_of, turns_of}
use Rattle.proc_machines.specs.Processes as processes
use Rattle.proc_machines.specs.declared.processes.Processes.{Processes}
use Rattle.proc_mailboxes.specs.Mailboxes.{messages_in}
use Rattle.proc_signals.specs.Channels.{between}
use Rattle.proc_signals.specs.Mailbox.{IsMailbox}
use Rattle.world_records.specs.Records.{Agrees, AreAlike}
use Rattle.world_records.specs.declared.records.Records.{Records}

pub begins : (m : ModuleTree) (r : Records) → processes.Agrees m r.processes beginning → ((p : Pid) → messages_in r.mailboxes p ≡ []) → ((s t : Pid) → between r.channels s t ≡ []) → ((p : Pid) → partners_in r.links p ≡ [])
    → ((p : Pid) → watchers_in r.watchers p ≡ []) → ((ref : Ref) → watch_in r.watchers ref ≡ None) → ((ref : Ref) → guard_in r.guards ref ≡ None) → ((n : Name) → holder_in r.names n ≡ None) → ((p : Pid) → name_in r.names p ≡ None)
    → ((t : Ref) → held_in r.tables t ≡ None) → ((n : Name) → meant_in r.tables n ≡ None) → ((p : Pid) → owned_in r.tables p ≡ []) → Agrees m r beginning
begins m r begun no_mail no_signals no_links no_watchers no_watches no_guards no_holders no_names no_tables none_meant none_owned = record {
  processes_are = begun;
  mailboxes_are = λ p. record { left = no_mail p; behind = λ more. ap (λ ms. ms ++ more) (sym (no_mail p)) };
  channels_are = λ s t. record { waiting = no_signals s t; counted = omega arith };
  links_are = no_links;
  watchers_are = no_watchers;
  watches_are = no_watches;
  guards_are = no_guards;
  holders_are = no_holders;
  names_are = λ n. no_holders n ∙ sym (get-empty order_of_lists n);
  borne_are = no_names;
  tables_are = record {
    are = record {
      tables = λ t. ap (option_map settings_in) (no_tables t);
      rows = λ t. ap rows_of (no_tables t);
      each_row = λ t key. ap (λ o. under (rows_of o) key) (no_tables t) ∙ ap listed (get-empty order_of_terms key);
      names = none_meant;
      owned = none_owned;
    };
    by_key = λ t key. get-empty order_of_terms key;
  };
}

processes_alike : (m : ModuleTree) (old new : Processes) (v : Contents) → processes.IsUnchanged old new → processes.Agrees m old v → processes.Agrees m new v
processes_alike m old new v same told = record {
  program = same.program ∙ told.program;
  alive = λ p. same.alive p ∙ told.alive p;
  trap = λ p. same.trap p ∙ told.trap p;
  turns = λ p. ap turns_of (same.courses p) ∙ told.turns p;
  stands = λ p lives. subst (λ o. StandsAs m p (v (cells.Machine p)) (standing_of o)) (sym (same.courses p)) (told.stands p (sym (same.alive p) ∙ lives));
  gone = λ p gone. ap standing_of (same.courses p) ∙ told.gone p (sym (same.alive p) ∙ gone);
}

pub alike : (old new : Records) → processes.IsUnchanged old.processes new.processes → ((p : Pid) → messages_in new.mailboxes p ≡ messages_in old.mailboxes p) → new.channels ≡ old.channels → ((p : Pid) → partners_in new.links p ≡ partners_in old.links p)
    → watchers.IsUnchanged old.watchers new.watchers → guards.IsUnchanged old.guards new.guards → ((n : Name) → holder_in new.names n ≡ holder_in old.names n) → ((p : Pid) → name_in new.names p ≡ name_in old.names p) → tables.IsUnchanged old.tables new.tables → AreAlike old new
alike old new ps boxes channels links watches guarded holders borne ts m v told = record {
  processes_are = processes_alike m old.processes new.processes v ps told.processes_are;
  mailboxes_are = λ p. subst (λ ms. IsMailbox ms v p) (sym (boxes p)) (told.mailboxes_are p);
  channels_are = λ s t. record { waiting = ap (λ c. between c s t) channels ∙ (told.channels_are s t).waiting; counted = (told.channels_are s t).counted };
  links_are = λ p. links p ∙ told.links_are p;
  watchers_are = λ p. watches.watchers p ∙ told.watchers_are p;
  watches_are = λ ref. watches.watches ref ∙ told.watches_are ref;
  guards_are = λ ref. guarded ref ∙ told.guards_are ref;
  holders_are = λ n. holders n ∙ told.holders_are n;
  names_are = λ n. holders n ∙ told.names_are n;
  borne_are = λ p. borne p ∙ told.borne_are p;
  tables_are = record {
    are = record {
      tables = λ t. ts.tables t ∙ told.tables_are.are.tables t;
      rows = λ t. ts.rows t ∙ told.tables_are.are.rows t;
      each_row = λ t key. ap (λ rows. under rows key) (ts.rows t) ∙ told.tables_are.are.each_row t key;
      names = λ n. ts.names n ∙ told.tables_are.are.names n;
      owned = λ p. ts.owned p ∙ told.tables_are.are.owned p;
    };
    by_key = told.tables_are.by_key;
  };
}
