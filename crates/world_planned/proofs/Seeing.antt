-- What the end of a process sees of the records.
use Rattle.std.proofs.Common.{◌≡◌, Bool, true, false, is_some, if◌then◌else◌}
use Rattle.core_tree.specs.Syntax.{ModuleTree}
use Rattle.proc_links.specs.Links.{AreLinks}
use Rattle.proc_links.specs.declared.links.Links.{Links}
use Rattle.term_core.specs.Meaning.{Meaning}
use Rattle.world_model.specs.Cells as cells
use Rattle.world_model.specs.Cells.{Contents}
use Rattle.world_model.specs.Changes.{after}
use Rattle.world_model.specs.Events.{Arrives, IsDropped, Kills, Signal, Message, Exit, LinkExit, Down, Guarded, Elapsed}
use Rattle.world_model.specs.Guards.{is_alias_of, timer_in}
use Rattle.world_model.specs.Names.{Pid}
use Rattle.world_model.specs.Guards.{watch_name}
use Rattle.world_model.specs.Signals.{fate_of, goes_with, down_message, watched_as}
use Rattle.world_records.specs.Records.{Agrees}
use Rattle.world_records.specs.declared.records.Records.{Records}
use Rattle.world_planned.specs.inside.Seen.{SeesEnd}

pub sees_now : (m : ModuleTree) (records : Records) (links : Links) (v : Contents) → Agrees m records v → AreLinks links v → SeesEnd records links v
sees_now m records links v told links_are_ = record {
  alive = told.processes_are.alive;
  links_are = links_are_;
  watchers_are = told.watchers_are;
  borne_are = told.borne_are;
  owned = told.tables_are.are.owned;
  tables = told.tables_are.are.tables;
}

no_kill : (b : Bool) (message reason : Meaning) → (if b then Arrives message else IsDropped) ≡ Kills reason → ⊥
no_kill true message reason e = absurd cc
no_kill false message reason e = absurd cc

-- after what goes with a signal that kills
pub sees_killed : (m : ModuleTree) (records : Records) (links : Links) (v : Contents) (s r : Pid) (x : Signal) (reason : Meaning) → Agrees m records v → fate_of v s r x ≡ Kills reason → AreLinks links (after (goes_with v s r x) v) → SeesEnd records links (after (goes_with v s r x) v)
sees_killed m records links v s r (Message message) reason told kills links_are_ = absurd cc
sees_killed m records links v s r (Exit x) reason told kills links_are_ = sees_now m records links v told links_are_
sees_killed m records links v s r (LinkExit x) reason told kills links_are_ = record {
  alive = told.processes_are.alive;
  links_are = links_are_;
  watchers_are = told.watchers_are;
  borne_are = told.borne_are;
  owned = told.tables_are.are.owned;
  tables = told.tables_are.are.tables;
}
sees_killed m records links v s r (Down ref x) reason told kills links_are_ = absurd (no_kill (is_some (v (cells.Watch ref))) (down_message ref (watched_as s (watch_name (v (cells.Guard ref)))) x) reason kills)
sees_killed m records links v s r (Guarded ref x) reason told kills links_are_ = absurd (no_kill (is_alias_of r (v (cells.Guard ref))) x reason kills)
sees_killed m records links v s r (Elapsed ref x) reason told kills links_are_ = absurd (no_kill (is_some (timer_in (v (cells.Guard ref)))) x reason kills)
