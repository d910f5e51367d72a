-- What is kept of a place depends on the cells that it sees, and on no others.
use Rattle.std.proofs.Common.{◌≡◌, ◌∙◌, ◌⊎◌, inl, inr, ◌&&◌, ◌||◌, ◌++◌, ◌∷◌, [], Bool, true, false, List, map, refl, sym, ap, subst, subst₂, true≢false}
use Rattle.std.specs.FinMap.{get}
use Rattle.core_tree.specs.Syntax.{ModuleTree}
use Rattle.ets_rules.specs.Tables.{Hold}
use Rattle.ets_rules.specs.declared.tables.Tables.{Tables as Registry}
use Rattle.proc_machines.specs.Courses.{StandsAs}
use Rattle.proc_machines.specs.Processes.{standing_in}
use Rattle.proc_machines.specs.declared.processes.Processes.{Processes}
use Rattle.proc_signals.specs.Channels.{AreWaiting, between}
use Rattle.proc_signals.specs.Mailbox.{IsMailbox}
use Rattle.term_core.specs.Meaning.{Meaning}
use Rattle.world_model.specs.Cells as cells
use Rattle.world_model.specs.Cells.{Cell, Contents, meet}
use Rattle.world_model.specs.Changes.{Change, cell_of}
use Rattle.world_model.specs.Mailboxes.{left_of}
use Rattle.world_model.specs.Names.{IsAmong, Name, Pid, Ref, same_pid}
use Rattle.world_model.specs.Rows.{Key, some_if}
use Rattle.world_model.proofs.Meeting.{both, pid_itself, pids_same, whole, whole_same}
use Rattle.world_model.proofs.Outcomes.{touches}
use Rattle.world_records.specs.Places.{AgreesAt, IsCourse, IsInbox, place_of, same_place}
use Rattle.world_records.specs.declared.place.Place.{Place}
use Rattle.world_records.specs.declared.place.Place.TheVariants.{Course, Inbox, Channel, Links, Watches, Names, Tables}
use Rattle.world_records.specs.declared.records.Records.{Records}
use Rattle.search_numbers.specs.Local.{sees}

-- ---- each kind of place

-- two contents are the same in each cell that a place sees
abbrev pub SeesTheSame : Place → Contents → Contents → Type 0
SeesTheSame q v w = (c : Cell) → sees q c ≡ true → v c ≡ w c

course_seen : (m : ModuleTree) (records : Processes) (p : Pid) (v w : Contents) → v (cells.Machine p) ≡ w (cells.Machine p) → v (cells.Alive p) ≡ w (cells.Alive p) → IsCourse m records p v → IsCourse m records p w
course_seen m records p v w machine alive is = record {
  program = is.program;
  turns = is.turns ∙ ap (λ course. course.turns) machine;
  lives = is.lives ∙ alive;
  stands = λ on. subst (λ course. StandsAs m p course (standing_in records p)) machine (is.stands on);
}

mailbox_seen : (messages : List Meaning) (p : Pid) (v w : Contents) → v (cells.Taken p) ≡ w (cells.Taken p) → v (cells.Mailed p) ≡ w (cells.Mailed p) → IsMailbox messages v p → IsMailbox messages w p
mailbox_seen messages p v w taken mailed is = record {
  left = is.left ∙ (λ i. left_of (taken i) (mailed i));
  behind = λ more. sym (λ i. left_of (taken i) (mailed i ++ more)) ∙ is.behind more;
}

inbox_seen : (records : Records) (p : Pid) (v w : Contents) → SeesTheSame (Inbox p) v w → IsInbox records p v → IsInbox records p w
inbox_seen records p v w same is = record {
  alive = is.alive ∙ same (cells.Alive p) (pid_itself p);
  trap = is.trap ∙ same (cells.Trap p) (pid_itself p);
  messages = mailbox_seen _ p v w (same (cells.Taken p) (pid_itself p)) (same (cells.Mailed p) (pid_itself p)) is.messages;
}

pair_itself : (s r : Pid) → (same_pid s s && same_pid r r) ≡ true
pair_itself s r = λ i. pid_itself s i && pid_itself r i

tables_seen : (registry : Registry) (v w : Contents) → SeesTheSame Tables v w → Hold registry v → Hold registry w
tables_seen registry v w same is = record {
  are = record {
    tables = λ t. is.are.tables t ∙ same (cells.Table t) refl;
    rows = λ t. is.are.rows t ∙ same (cells.Rows t) refl;
    each_row = λ t key. is.are.each_row t key ∙ same (cells.Row t key) refl;
    names = λ name. is.are.names name ∙ same (cells.TableName name) refl;
    owned = λ p. is.are.owned p ∙ same (cells.Owned p) refl;
  };
  by_key = λ t key. sym (ap (λ rows. get rows key) (same (cells.Rows t) refl)) ∙ is.by_key t key ∙ ap some_if (same (cells.Row t key) refl);
}

-- so what is kept of a place agrees with contents that are the same in what it sees
pub seen_at : (m : ModuleTree) (q : Place) (records : Records) (v w : Contents) → SeesTheSame q v w → AgreesAt m q records v → AgreesAt m q records w
seen_at m (Course p) records v w same is = course_seen m records.processes p v w (same (cells.Machine p) (pid_itself p)) (same (cells.Alive p) (pid_itself p)) is
seen_at m (Inbox p) records v w same is = inbox_seen records p v w same is
seen_at m (Channel s r) records v w same is =
    subst₂ (λ front tail. AreWaiting (between records.channels s r) front tail) (same (cells.Front s r) (pair_itself s r)) (same (cells.Tail s r) (pair_itself s r)) is
seen_at m Links records v w same is = λ p. is p ∙ same (cells.Links p) refl
seen_at m Watches records v w same is = ((λ p. is.0 p ∙ same (cells.Watchers p) refl), (λ ref. is.1 ref ∙ same (cells.Watch ref) refl), (λ ref. is.2 ref ∙ same (cells.Guard ref) refl))
seen_at m Names records v w same is = ((λ name. is.0 name ∙ same (cells.Holder name) refl), (λ name. is.1 name ∙ ap (λ holders. get holders name) (same cells.Holders refl)), (λ p. is.2 p ∙ same (cells.NameOf p) refl))
seen_at m Tables records v w same is = tables_seen records.tables v w same is

-- ---- where the cells lie that a place sees

pub places_same : (a b : Place) → same_place a b ≡ true → a ≡ b
places_same (Course p) (Course q) e = ap Course (pids_same p q e)
places_same (Inbox p) (Inbox q) e = ap Inbox (pids_same p q e)
places_same (Channel s r) (Channel t u) e =
    let parts = both (same_pid s t) (same_pid r u) e in
    λ i. Channel (pids_same s t parts.0 i) (pids_same r u parts.1 i)
places_same Links Links e = refl
places_same Watches Watches e = refl
places_same Names Names e = refl
places_same Tables Tables e = refl
places_same a b e = absurd (true≢false (sym e))

-- a cell that a place sees lies there, or says whether the process of a course lives
pub seen_in : (q : Place) (c : Cell) → sees q c ≡ true → (place_of c ≡ q) ⊎ ((p : Pid) × (q ≡ Course p) × (c ≡ cells.Alive p))
seen_in (Course p) (cells.Alive r) e = inr (p, refl, ap cells.Alive (sym (pids_same p r e)))
seen_in q c e = inl (sym (places_same q (place_of c) e))

-- ---- what is written where no place sees it

rows_seen : (q : Place) (t : Ref) (key : Key) → sees q (cells.Rows t) ≡ sees q (cells.Row t key)
rows_seen (Course p) t key = refl
rows_seen q t key = refl

holders_seen : (q : Place) (name : Name) → sees q cells.Holders ≡ sees q (cells.Holder name)
holders_seen (Course p) name = refl
holders_seen q name = refl

whole_seen : (q : Place) (c : Cell) → sees q (whole c) ≡ sees q c
whole_seen q (cells.Row t key) = rows_seen q t key
whole_seen q (cells.Holder name) = holders_seen q name
whole_seen q c = refl

-- a place that sees a cell sees each cell that it meets
pub meets_seen : (q : Place) (d c : Cell) → meet d c ≡ true → sees q d ≡ sees q c
meets_seen q d c e = sym (whole_seen q d) ∙ ap (sees q) (whole_same d c e) ∙ whole_seen q c

unmet_if : (b : Bool) (q : Place) (d c : Cell) → meet d c ≡ b → sees q c ≡ true → (sees q d ≡ true → ⊥) → b ≡ false
unmet_if true q d c meets on none = absurd (none (meets_seen q d c meets ∙ on))
unmet_if false q d c meets on none = refl

-- so a cell that a place sees is untouched where the place sees none of those that are written
pub untouched : (ks : List Change) (q : Place) (c : Cell) → sees q c ≡ true → ((d : Cell) → IsAmong d (map cell_of ks) → sees q d ≡ true → ⊥) → touches ks c ≡ false
untouched [] q c on none = refl
untouched (k ∷ ks) q c on none = λ i. unmet_if (meet (cell_of k) c) q (cell_of k) c refl on (none (cell_of k) (inl refl)) i || untouched ks q c on (λ d there. none d (inr there)) i
