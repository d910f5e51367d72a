-- Records agree with contents where they agree with them at each place.
use Rattle.std.proofs.Common.{◌≡◌, ◌∙◌, Bool, true, false, [], Option, Some, None, is_some, refl, sym, ap, true≢false}
use Rattle.core_tree.specs.Syntax.{ModuleTree}
use Rattle.core_eval.specs.Standing.{Standing}
use Rattle.proc_machines.specs.Courses.{StandsAs}
use Rattle.proc_machines.specs.Processes as processes
use Rattle.proc_machines.specs.Processes.{lives_in, standing_in}
use Rattle.proc_machines.specs.declared.processes.Processes.{Processes}
use Rattle.world_model.specs.Cells as cells
use Rattle.world_model.specs.Cells.{Contents}
use Rattle.world_model.specs.Names.{Pid}
use Rattle.world_records.specs.Places.{AgreesAt, IsCourse}
use Rattle.world_records.specs.Records.{Agrees}
use Rattle.world_records.specs.declared.place.Place.{Place}
use Rattle.world_records.specs.declared.place.Place.TheVariants.{Course, Inbox, Channel, Links, Watches, Names, Tables}
use Rattle.world_records.specs.declared.records.Records.{Records}

-- ---- from all to each place

stands_somewhere : (m : ModuleTree) (p : Pid) (course : cells.Course) (o : Option Standing) → StandsAs m p course o → is_some o ≡ true
stands_somewhere m p course None stands = absurd stands
stands_somewhere m p course (Some machine) stands = refl

-- a process has a machine where it lives, and none where it does not
stands_where : (m : ModuleTree) (records : Processes) (v : Contents) (p : Pid) → processes.Agrees m records v → (b : Bool) → lives_in records p ≡ b → is_some (standing_in records p) ≡ b
stands_where m records v p is true lives = stands_somewhere m p (v (cells.Machine p)) (standing_in records p) (is.stands p lives)
stands_where m records v p is false lives = ap is_some (is.gone p lives)

course_agrees : (m : ModuleTree) (records : Processes) (v : Contents) (p : Pid) → processes.Agrees m records v → IsCourse m records p v
course_agrees m records v p is =
    let where_it_lives = stands_where m records v p is (lives_in records p) refl in
    record {
      program = is.program;
      turns = is.turns p;
      lives = where_it_lives ∙ is.alive p;
      stands = λ on. is.stands p (sym where_it_lives ∙ on);
    }

-- records that agree with contents do so at each place
pub places_agree : (m : ModuleTree) (records : Records) (v : Contents) → Agrees m records v → (q : Place) → AgreesAt m q records v
places_agree m records v is (Course p) = course_agrees m records.processes v p is.processes_are
places_agree m records v is (Inbox p) = record { alive = is.processes_are.alive p; trap = is.processes_are.trap p; messages = is.mailboxes_are p }
places_agree m records v is (Channel s r) = is.channels_are s r
places_agree m records v is Links = is.links_are
places_agree m records v is Watches = (is.watchers_are, is.watches_are, is.guards_are)
places_agree m records v is Names = (is.holders_are, is.names_are, is.borne_are)
places_agree m records v is Tables = is.tables_are

-- ---- from each place to all

none_if : {A : Type 0} (o : Option A) → is_some o ≡ false → o ≡ None
none_if None off = refl
none_if (Some x) off = absurd (true≢false off)

processes_agree : (m : ModuleTree) (records : Records) (v : Contents) → ((q : Place) → AgreesAt m q records v) → processes.Agrees m records.processes v
processes_agree m records v each =
    let lives : (p : Pid) → is_some (standing_in records.processes p) ≡ lives_in records.processes p = λ p. (each (Course p)).lives ∙ sym (each (Inbox p)).alive in
    record {
      program = (each (Course [])).program;
      alive = λ p. (each (Inbox p)).alive;
      trap = λ p. (each (Inbox p)).trap;
      turns = λ p. (each (Course p)).turns;
      stands = λ p on. (each (Course p)).stands (lives p ∙ on);
      gone = λ p off. none_if (standing_in records.processes p) (lives p ∙ off);
    }

-- records that agree with contents at each place agree with them
pub agree_of_places : (m : ModuleTree) (records : Records) (v : Contents) → ((q : Place) → AgreesAt m q records v) → Agrees m records v
agree_of_places m records v each = record {
  processes_are = processes_agree m records v each;
  mailboxes_are = λ p. (each (Inbox p)).messages;
  channels_are = λ s r. each (Channel s r);
  links_are = each Links;
  watchers_are = (each Watches).0;
  watches_are = (each Watches).1;
  guards_are = (each Watches).2;
  holders_are = (each Names).0;
  names_are = (each Names).1;
  borne_are = (each Names).2;
  tables_are = each Tables;
}
