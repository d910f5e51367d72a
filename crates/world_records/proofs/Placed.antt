-- Records take over a place of others, and are compared at one.
use Rattle.std.proofs.Common.{◌≡◌, Bool, true, false, Option, Some, None, if◌then◌else◌, ◌&&◌, is_some, refl, sym, ap, subst, ◌∙◌}
use Rattle.std.specs.Result.{OnOk}
use Rattle.std.specs.declared.result.Result.{Result}
use Rattle.std.specs.declared.result.Result.TheVariants.{Ok, Err}
use Rattle.core_tree.specs.Syntax.{ModuleTree}
use Rattle.core_eval.specs.Standing.{AreOne, Standing}
use Rattle.world_model.specs.Cells as cells
use Rattle.world_model.specs.Cells.{Contents}
use Rattle.world_model.specs.Names.{Pid, same_pid}
use Rattle.world_model.specs.Rows.{under}
use Rattle.ets_rules.specs.Tables as tables
use Rattle.ets_rules.specs.Tables.{Hold}
use Rattle.ets_rules.specs.declared.tables.Tables.{Tables}
use Rattle.proc_links.specs.Guards as guards
use Rattle.proc_links.specs.Links.{partners_in}
use Rattle.proc_links.specs.declared.guards.Guards.{Guards}
use Rattle.proc_links.specs.declared.links.Links.{Links}
use Rattle.proc_links.specs.declared.names.Names.{Names}
use Rattle.proc_links.specs.declared.watchers.Watchers.{Watchers}
use Rattle.proc_links.specs.Names as names
use Rattle.proc_links.specs.Watchers as watchers
use Rattle.proc_machines.specs.Courses.{AreOneIf, AreSameIf, StandsAs, standing_of, turns_of}
use Rattle.proc_machines.specs.Processes.{IsUnchanged, TakesCourse, TakesFlags, course_in, lives_in, module_of, standing_in, traps_in}
use Rattle.proc_machines.specs.declared.course.Course.{Course}
use Rattle.proc_machines.specs.declared.processes.Processes.{Processes}
use Rattle.proc_mailboxes.specs.Mailboxes as mailboxes
use Rattle.proc_mailboxes.specs.Mailboxes.{Mailboxes, messages_in}
use Rattle.proc_signals.specs.Channels as channels
use Rattle.proc_signals.specs.Channels.{Senders, between}
use Rattle.proc_signals.specs.Mailbox.{IsMailbox}
use Rattle.world_records.specs.Places.{AgreesAt, AgreesTooAt, AreAlikeAt, AreOfOne, IsCourse, TakesPlace, same_place}
use Rattle.world_records.specs.declared.place.Place as place
use Rattle.world_records.specs.declared.place.Place.TheVariants as at
use Rattle.world_records.specs.declared.records.Records.{Records}

-- ---- what is the same at a place

-- two records are the same at a place
abbrev pub IsSameAt : place.Place → Records → Records → Type 0
IsSameAt (at.Course p) old new = (module_of new.processes ≡ module_of old.processes) × (course_in new.processes p ≡ course_in old.processes p)
IsSameAt (at.Inbox p) old new = (lives_in new.processes p ≡ lives_in old.processes p) × (traps_in new.processes p ≡ traps_in old.processes p) × (messages_in new.mailboxes p ≡ messages_in old.mailboxes p)
IsSameAt (at.Channel s r) old new = between new.channels s r ≡ between old.channels s r
IsSameAt at.Links old new = (p : Pid) → partners_in new.links p ≡ partners_in old.links p
IsSameAt at.Watches old new = watchers.IsUnchanged old.watchers new.watchers × guards.IsUnchanged old.guards new.guards
IsSameAt at.Names old new = names.IsUnchanged old.names new.names
IsSameAt at.Tables old new = tables.IsUnchanged old.tables new.tables

course_moves : (m : ModuleTree) (p : Pid) (old new : Processes) (v : Contents) → module_of new ≡ module_of old → course_in new p ≡ course_in old p → IsCourse m old p v → IsCourse m new p v
course_moves m p old new v program same told = record {
  program = program ∙ told.program;
  turns = ap turns_of same ∙ told.turns;
  lives = ap (λ o. is_some (standing_of o)) same ∙ told.lives;
  stands = λ e. subst (λ o. StandsAs m p (v (cells.Machine p)) (standing_of o)) (sym same) (told.stands (sym (ap (λ o. is_some (standing_of o)) same) ∙ e));
}

tables_move : (old new : Tables) (v : Contents) → tables.IsUnchanged old new → Hold old v → Hold new v
tables_move old new v same told = record {
  are = record {
    tables = λ t. same.tables t ∙ told.are.tables t;
    rows = λ t. same.rows t ∙ told.are.rows t;
    each_row = λ t key. ap (λ rows. under rows key) (same.rows t) ∙ told.are.each_row t key;
    names = λ n. same.names n ∙ told.are.names n;
    owned = λ p. same.owned p ∙ told.are.owned p;
  };
  by_key = told.by_key;
}

-- what is said of a place stays where it is the same
pub moves : (m : ModuleTree) (q : place.Place) (old new : Records) (v : Contents) → IsSameAt q old new → AgreesAt m q old v → AgreesAt m q new v
moves m (at.Course p) old new v same told = course_moves m p old.processes new.processes v same.0 same.1 told
moves m (at.Inbox p) old new v same told = record {
  alive = same.0 ∙ told.alive;
  trap = same.1 ∙ told.trap;
  messages = subst (λ ms. IsMailbox ms v p) (sym same.2) told.messages;
}
moves m (at.Channel s r) old new v same told = record { waiting = same ∙ told.waiting; counted = told.counted }
moves m at.Links old new v same told = λ p. same p ∙ told p
moves m at.Watches old new v same told = (λ p. same.0.watchers p ∙ told.0 p, λ ref. same.0.watches ref ∙ told.1 ref, λ ref. same.1 ref ∙ told.2 ref)
moves m at.Names old new v same told = (λ n. same.holders n ∙ told.0 n, λ n. same.holders n ∙ told.1 n, λ p. same.names p ∙ told.2 p)
moves m at.Tables old new v same told = tables_move old.tables new.tables v same told

-- ---- copies

pub alike_at : (old new : Records) → IsUnchanged old.processes new.processes → mailboxes.IsUnchanged old.mailboxes new.mailboxes → new.channels ≡ old.channels → ((p : Pid) → partners_in new.links p ≡ partners_in old.links p)
    → watchers.IsUnchanged old.watchers new.watchers → guards.IsUnchanged old.guards new.guards → names.IsUnchanged old.names new.names → tables.IsUnchanged old.tables new.tables → AreAlikeAt old new
alike_at old new ps boxes signals links watches guarded named ts = record {
  of_one = ps.program;
  places = λ m q v told. moves m q old new v (same q) told;
}
  where
    same : (q : place.Place) → IsSameAt q old new
    same (at.Course p) = (ps.program, ps.courses p)
    same (at.Inbox p) = (ps.alive p, ps.trap p, boxes p)
    same (at.Channel s r) = ap (λ c. between c s r) signals
    same at.Links = links
    same at.Watches = (watches, guarded)
    same at.Names = named
    same at.Tables = ts

-- ---- a place is taken over

-- where a choice is the same at a place, what the choice agrees with there the new records agree with
takes : (here : place.Place) (other old new : Records) → AreOfOne new old → ((q : place.Place) → IsSameAt q (if same_place here q then other else old) new) → TakesPlace here other old new
takes here other old new program same = record {
  module_stays = program;
  places = λ m q v told. moves m q (if same_place here q then other else old) new v (same q) told;
}

same_self : (q : place.Place) (records : Records) → IsSameAt q records records
same_self (at.Course p) records = (refl, refl)
same_self (at.Inbox p) records = (refl, refl, refl)
same_self (at.Channel s r) records = refl
same_self at.Links records = λ p. refl
same_self at.Watches records = (record { watchers = λ p. refl; watches = λ ref. refl }, λ ref. refl)
same_self at.Names records = record { holders = λ n. refl; names = λ p. refl }
same_self at.Tables records = record { tables = λ t. refl; rows = λ t. refl; names = λ n. refl; owned = λ p. refl }

pub course_taken : (p : Pid) (other old : Records) (ps : Processes) → TakesCourse p other.processes old.processes ps → AreOfOne old other → TakesPlace (at.Course p) other old (record old { processes = ps })
course_taken p other old ps took one = takes (at.Course p) other old (record old { processes = ps }) took.program same
  where
    chosen : (b : Bool) (q : Pid) → course_in ps q ≡ (if b then course_in other.processes q else course_in old.processes q) → IsSameAt (at.Course q) (if b then other else old) (record old { processes = ps })
    chosen true q e = (took.program ∙ one, e)
    chosen false q e = (took.program, e)

    same : (q : place.Place) → IsSameAt q (if same_place (at.Course p) q then other else old) (record old { processes = ps })
    same (at.Course q) = chosen (same_pid p q) q (took.courses q)
    same (at.Inbox q) = (took.alive q, took.trap q, refl)
    same (at.Channel s r) = refl
    same at.Links = same_self at.Links old
    same at.Watches = same_self at.Watches old
    same at.Names = same_self at.Names old
    same at.Tables = same_self at.Tables old

pub inbox_taken : (p : Pid) (other old : Records) (ps : Processes) (boxes : Mailboxes) → TakesFlags p other.processes old.processes ps → mailboxes.TakesFrom p other.mailboxes old.mailboxes boxes → TakesPlace (at.Inbox p) other old (record old { processes = ps; mailboxes = boxes })
inbox_taken p other old ps boxes took mail = takes (at.Inbox p) other old (record old { processes = ps; mailboxes = boxes }) took.program same
  where
    chosen : (b : Bool) (q : Pid) → lives_in ps q ≡ (if b then lives_in other.processes q else lives_in old.processes q) → traps_in ps q ≡ (if b then traps_in other.processes q else traps_in old.processes q)
        → messages_in boxes q ≡ (if b then messages_in other.mailboxes q else messages_in old.mailboxes q) → IsSameAt (at.Inbox q) (if b then other else old) (record old { processes = ps; mailboxes = boxes })
    chosen true q lives traps has = (lives, traps, has)
    chosen false q lives traps has = (lives, traps, has)

    same : (q : place.Place) → IsSameAt q (if same_place (at.Inbox p) q then other else old) (record old { processes = ps; mailboxes = boxes })
    same (at.Course q) = (took.program, took.courses q)
    same (at.Inbox q) = chosen (same_pid p q) q (took.alive q) (took.trap q) (mail q)
    same (at.Channel s r) = refl
    same at.Links = same_self at.Links old
    same at.Watches = same_self at.Watches old
    same at.Names = same_self at.Names old
    same at.Tables = same_self at.Tables old

pub channel_taken : (from to : Pid) (other old : Records) (signals : Senders) → channels.TakesFrom from to other.channels old.channels signals → TakesPlace (at.Channel from to) other old (record old { channels = signals })
channel_taken from to other old signals took = takes (at.Channel from to) other old (record old { channels = signals }) refl same
  where
    chosen : (b : Bool) (s r : Pid) → between signals s r ≡ (if b then between other.channels s r else between old.channels s r) → IsSameAt (at.Channel s r) (if b then other else old) (record old { channels = signals })
    chosen true s r e = e
    chosen false s r e = e

    same : (q : place.Place) → IsSameAt q (if same_place (at.Channel from to) q then other else old) (record old { channels = signals })
    same (at.Course q) = (refl, refl)
    same (at.Inbox q) = (refl, refl, refl)
    same (at.Channel s r) = chosen (same_pid from s && same_pid to r) s r (took s r)
    same at.Links = same_self at.Links old
    same at.Watches = same_self at.Watches old
    same at.Names = same_self at.Names old
    same at.Tables = same_self at.Tables old

pub links_taken : (other old : Records) (links : Links) → ((p : Pid) → partners_in links p ≡ partners_in other.links p) → TakesPlace at.Links other old (record old { links = links })
links_taken other old links took = takes at.Links other old (record old { links = links }) refl same
  where
    same : (q : place.Place) → IsSameAt q (if same_place at.Links q then other else old) (record old { links = links })
    same (at.Course q) = (refl, refl)
    same (at.Inbox q) = (refl, refl, refl)
    same (at.Channel s r) = refl
    same at.Links = took
    same at.Watches = same_self at.Watches old
    same at.Names = same_self at.Names old
    same at.Tables = same_self at.Tables old

pub watches_taken : (other old : Records) (watches : Watchers) (guarded : Guards) → watchers.IsUnchanged other.watchers watches → guards.IsUnchanged other.guards guarded → TakesPlace at.Watches other old (record old { watchers = watches; guards = guarded })
watches_taken other old watches guarded took also = takes at.Watches other old (record old { watchers = watches; guards = guarded }) refl same
  where
    same : (q : place.Place) → IsSameAt q (if same_place at.Watches q then other else old) (record old { watchers = watches; guards = guarded })
    same (at.Course q) = (refl, refl)
    same (at.Inbox q) = (refl, refl, refl)
    same (at.Channel s r) = refl
    same at.Links = same_self at.Links old
    same at.Watches = (took, also)
    same at.Names = same_self at.Names old
    same at.Tables = same_self at.Tables old

pub names_taken : (other old : Records) (named : Names) → names.IsUnchanged other.names named → TakesPlace at.Names other old (record old { names = named })
names_taken other old named took = takes at.Names other old (record old { names = named }) refl same
  where
    same : (q : place.Place) → IsSameAt q (if same_place at.Names q then other else old) (record old { names = named })
    same (at.Course q) = (refl, refl)
    same (at.Inbox q) = (refl, refl, refl)
    same (at.Channel s r) = refl
    same at.Links = same_self at.Links old
    same at.Watches = same_self at.Watches old
    same at.Names = took
    same at.Tables = same_self at.Tables old

pub tables_taken : (other old : Records) (ts : Tables) → tables.IsUnchanged other.tables ts → TakesPlace at.Tables other old (record old { tables = ts })
tables_taken other old ts took = takes at.Tables other old (record old { tables = ts }) refl same
  where
    same : (q : place.Place) → IsSameAt q (if same_place at.Tables q then other else old) (record old { tables = ts })
    same (at.Course q) = (refl, refl)
    same (at.Inbox q) = (refl, refl, refl)
    same (at.Channel s r) = refl
    same at.Links = same_self at.Links old
    same at.Watches = same_self at.Watches old
    same at.Names = same_self at.Names old
    same at.Tables = took

-- ---- comparison at a place

-- what is the same at a place agrees there with the same
pub agrees_too : (q : place.Place) (one other : Records) → IsSameAt q other one → AgreesTooAt q one other
agrees_too q one other same m v w old new = moves m q other one w same new

turns_same : (a b : Option Course) → AreSameIf a b → turns_of a ≡ turns_of b
turns_same None None same = refl
turns_same None (Some b) same = absurd same
turns_same (Some a) None same = absurd same
turns_same (Some a) (Some b) same = same.turns

machines_same : (a b : Option Course) → AreSameIf a b → AreOneIf (standing_of a) (standing_of b)
machines_same None None same = tt
machines_same None (Some b) same = absurd same
machines_same (Some a) None same = absurd same
machines_same (Some a) (Some b) same = same.machine

both_stand : (a b : Option Standing) → AreOneIf a b → is_some a ≡ is_some b
both_stand None None one = refl
both_stand None (Some b) one = absurd one
both_stand (Some a) None one = absurd one
both_stand (Some a) (Some b) one = refl

stands_same : (m : ModuleTree) (p : Pid) (c d : cells.Course) (a b : Option Standing) → AreOneIf a b → StandsAs m p c a → StandsAs m p d b → StandsAs m p d a
stands_same m p c d None b one old new = absurd old
stands_same m p c d (Some a) None one old new = absurd new
stands_same m p c d (Some a) (Some b) one old new =
    let are : AreOne a b = one (old.0 ∙ sym new.0) in
    (old.0, record { lives = are.one_lives; asks = λ later. are.asks later ∙ new.1.asks later })

pub course_too : (p : Pid) (one other : Records) → AreSameIf (course_in one.processes p) (course_in other.processes p) → AgreesTooAt (at.Course p) one other
course_too p one other same m v w old new =
    let machines = machines_same (course_in one.processes p) (course_in other.processes p) same in
    let stand = both_stand (standing_in one.processes p) (standing_in other.processes p) machines in
    record {
      program = old.program;
      turns = turns_same (course_in one.processes p) (course_in other.processes p) same ∙ new.turns;
      lives = stand ∙ new.lives;
      stands = λ e. stands_same m p (v (cells.Machine p)) (w (cells.Machine p)) (standing_in one.processes p) (standing_in other.processes p) machines (old.stands e) (new.stands (sym stand ∙ e));
    }

-- ---- a place that is taken apart

-- a place that is of this form
pub place_as : (here form : place.Place) (other old new : Records) → here ≡ form → TakesPlace form other old new → TakesPlace here other old new
place_as here form other old new is took = subst (λ k. TakesPlace k other old new) (sym is) took

-- and whose part is taken over where that succeeds
pub taken_as : {E T P : Type 0} (r : Result T E) (here form : place.Place) (other old new : Records) → here ≡ form → (P → AreOfOne old other → TakesPlace form other old new) → OnOk r P → OnOk r (AreOfOne old other → TakesPlace here other old new)
taken_as (Ok x) here form other old new is takes_it took = λ one. place_as here form other old new is (takes_it took one)
taken_as (Err e) here form other old new is takes_it took = tt

-- and that is taken over whole
pub placed_as : {E T : Type 0} (r : Result T E) (here form : place.Place) (other old new : Records) → here ≡ form → OnOk r (TakesPlace form other old new) → OnOk r (AreOfOne old other → TakesPlace here other old new)
placed_as (Ok x) here form other old new is took = λ one. place_as here form other old new is took
placed_as (Err e) here form other old new is took = tt

-- and at which records are compared
pub too_as : (here form : place.Place) (one other : Records) → here ≡ form → AgreesTooAt form one other → AgreesTooAt here one other
too_as here form one other is too = subst (λ k. AgreesTooAt k one other) (sym is) too
