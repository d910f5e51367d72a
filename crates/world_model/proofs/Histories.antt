-- Events that are apart commute after every history, and what a step reads settles what it does.
use Rattle.std.proofs.Common.{◌∙◌, ap, refl, sym}
use Rattle.std.specs.Prelude.{◌∷◌, ◌||◌, ◌≡◌, ◌&&◌, List, map, [], Option, option_map, Some, None, unwrap_or, drop, not, true, Bool, false, is_some}
use Rattle.term_core.specs.declared.step.Step.{Step}
use Rattle.world_model.specs.Cells.{Cell, meet, Contents, Alive, Machine, Trap, Front, Tail, Taken, Mailed, Links, Watch, Guard, Holder, Holders, Table, Row, Rows}
use Rattle.world_model.specs.Changes.{after, Change, cell_of}
use Rattle.world_model.specs.Commuting.{TellTheSame, Commutes, IndependentCommute}
use Rattle.world_model.specs.Events.{Event, event, Deed, History}
use Rattle.world_model.specs.TableAccess.{find}
use Rattle.world_model.specs.Frames.{LeavesOthers, ReadsSettle}
use Rattle.world_model.specs.Independence.{one_meets, some_meet, are_apart, written}
use Rattle.world_model.specs.TableRules.{table_rule}
use Rattle.world_model.specs.Lines.{line}
use Rattle.world_model.specs.Mailboxes.{left_of}
use Rattle.world_model.specs.Requests.{Program}
use Rattle.world_model.specs.Run.{next_event}
use Rattle.world_model.specs.Steps.{reads, changes_by, next_deed}
use Rattle.world_model.specs.World.{contents}
use Rattle.world_model.proofs.Commuting.{stays, follows, commute}
use Rattle.world_model.proofs.Meeting.{both}
use Rattle.world_model.proofs.Outcomes.{touches, meets, Outcome, with_changes, outcome, AreIndependent}
use Rattle.world_model.proofs.StepFrames.{frames}

-- ---- tests over lists of cells are those over changes

touches_are : (ks : List Change) (c : Cell) → one_meets (map cell_of ks) c ≡ touches ks c
touches_are [] c = refl
touches_are (k ∷ ks) c = ap (λ b. meet (cell_of k) c || b) (touches_are ks c)

meets_are : (ks : List Change) (cs : List Cell) → some_meet (map cell_of ks) cs ≡ meets ks cs
meets_are ks [] = refl
meets_are ks (c ∷ cs) = λ i. touches_are ks c i || meets_are ks cs i

-- ---- an event by its deed

pub deed_is : (s : Step) (o : Option Deed) (e : Event) → option_map (event s) o ≡ Some e → o ≡ Some e.deed
deed_is s None e now = absurd cc
deed_is s (Some d) e now = ap (option_map (λ x. x.deed)) now

pub step_is : (s : Step) (o : Option Deed) (e : Event) → option_map (event s) o ≡ Some e → s ≡ e.step
step_is s None e now = absurd cc
step_is s (Some d) e now = ap (λ x. (unwrap_or x e).step) now

abbrev inside : Outcome → Option Outcome → Outcome
inside d None = d
inside d (Some x) = x

event_is : (v : Contents) (s : Step) (o : Option Deed) (d : Deed) (ks : List Change) → option_map (with_changes v s) o ≡ Some ((d, ks)) → (o ≡ Some d) × (changes_by v s d ≡ ks)
event_is v s None d ks now = absurd cc
event_is v s (Some x) d ks now =
    let deed : x ≡ d = ap (λ o. (inside (d, ks) o).0) now in
    let by : changes_by v s x ≡ ks = ap (λ o. (inside (d, ks) o).1) now in
    (ap Some deed, sym (ap (changes_by v s) deed) ∙ by)

outcome_is : (a : Program) (h : History) (s : Step) (d : Deed) → next_deed a (contents h) s ≡ Some d → outcome a (contents h) s ≡ Some ((d, changes_by (contents h) s d))
outcome_is a h s d now = ap (option_map (with_changes (contents h) s)) now

-- ---- histories with the same contents say the same

pub same_contents : (h g : History) → ((c : Cell) → contents h c ≡ contents g c) → TellTheSame h g
same_contents h g same =
    let all : contents h ≡ contents g = λ i c. same c i in
    record {
      alive = λ p. same (Alive p);
      turns = λ p. ap (λ m. m.turns) (same (Machine p));
      answers = λ p. ap (λ m. m.answers) (same (Machine p));
      traps = λ p. same (Trap p);
      waiting = λ s r i. drop (same (Front s r) i) (same (Tail s r) i);
      mailbox = λ p i. left_of (same (Taken p) i) (same (Mailed p) i);
      linked = λ p. same (Links p);
      watched = λ ref. same (Watch ref);
      guarded = λ ref. same (Guard ref);
      holder = λ name. same (Holder name);
      holders = same Holders;
      found = λ argument. ap (λ v. find v argument) all;
      table = λ t. same (Table t);
      owner = λ t. ap (option_map (λ x. x.owner)) (same (Table t));
      settings = λ t. ap (option_map (λ x. (x.kind, x.protection, x.position))) (same (Table t));
      heir = λ t. ap (option_map (λ x. x.heir)) (same (Table t));
      rows = λ t key. same (Row t key);
      all_rows = λ t. same (Rows t);
      rule_of = λ p argument call. ap (λ v. table_rule v p argument call) all;
      refusal_of = λ p call. ap (λ v. (line v p call).refusal) all;
      answer_of = λ p call. ap (λ v. (line v p call).answer) all;
    }

-- ---- commuting

-- of two deeds that are apart
commute_by : (a : Program) (h : History) (s t : Step) (d e : Deed) → next_deed a (contents h) s ≡ Some d → next_deed a (contents h) t ≡ Some e → AreIndependent a (contents h) s t (changes_by (contents h) s d) (changes_by (contents h) t e) → Commutes a h (event s d) (event t e)
unfolding contents
commute_by a h s t d e first second apart =
    let ks = changes_by (contents h) s d in
    let ls = changes_by (contents h) t e in
    let both = commute a (contents h) s t (d, ks) (e, ls) (frames a) (outcome_is a h s d first) (outcome_is a h t e second) apart in
    let later = event_is (after ks (contents h)) t (next_deed a (after ks (contents h)) t) e ls both.second_after_first in
    let earlier = event_is (after ls (contents h)) s (next_deed a (after ls (contents h)) s) d ks both.first_after_second in
    let same : (c : Cell) → contents (event t e ∷ event s d ∷ h) c ≡ contents (event s d ∷ event t e ∷ h) c = λ c. ap (λ xs. after xs (after ks (contents h)) c) later.1 ∙ both.same c ∙ sym (ap (λ xs. after xs (after ls (contents h)) c) earlier.1) in
    record {
      second_after_first = ap (option_map (event t)) later.0;
      first_after_second = ap (option_map (event s)) earlier.0;
      same = same_contents (event t e ∷ event s d ∷ h) (event s d ∷ event t e ∷ h) same;
      contents = same;
    }

-- the tests of independence, one by one
not_true : (b : Bool) → not b ≡ true → b ≡ false
not_true true e = absurd cc
not_true false e = refl

apart_by : (a : Program) (v : Contents) (s t : Step) (ks ls : List Change) → are_apart (record { reads = reads a v s; writes = map cell_of ks }) (record { reads = reads a v t; writes = map cell_of ls }) ≡ true → AreIndependent a v s t ks ls
apart_by a v s t ks ls test =
    let one = both (not (some_meet (map cell_of ks) (reads a v t))) _ test in
    let two = both (not (some_meet (map cell_of ls) (reads a v s))) _ one.1 in
    record {
      first_reads = sym (meets_are ls (reads a v s)) ∙ not_true _ two.0;
      second_reads = sym (meets_are ks (reads a v t)) ∙ not_true _ one.0;
      writes = sym (meets_are ks (map cell_of ls)) ∙ not_true _ two.1;
    }

abbrev ByDeeds : Program → History → Step → Step → Option Deed → Option Deed → Type 0
ByDeeds a h s t o q = next_deed a (contents h) s ≡ o → next_deed a (contents h) t ≡ q → (is_some (option_map (event s) o) && (is_some (option_map (event t) q) && are_apart (record { reads = reads a (contents h) s; writes = written h (option_map (event s) o) }) (record { reads = reads a (contents h) t; writes = written h (option_map (event t) q) }))) ≡ true → (e : Event) × (f : Event) × (option_map (event s) o ≡ Some e) × (option_map (event t) q ≡ Some f) × Commutes a h e f

by_deeds : (a : Program) (h : History) (s t : Step) (o q : Option Deed) → ByDeeds a h s t o q
by_deeds a h s t None q first second test = absurd cc
by_deeds a h s t (Some d) None first second test = absurd cc
by_deeds a h s t (Some d) (Some e) first second test =
    (event s d, event t e, refl, refl, commute_by a h s t d e first second (apart_by a (contents h) s t (changes_by (contents h) s d) (changes_by (contents h) t e) test))

pub independent_commute : IndependentCommute
independent_commute a h s t test = by_deeds a h s t (next_deed a (contents h) s) (next_deed a (contents h) t) refl refl test

-- ---- frames

pub leaves_others : LeavesOthers
unfolding contents
leaves_others h e c other = stays (changes_by (contents h) e.step e.deed) (contents h) c (sym (touches_are (changes_by (contents h) e.step e.deed) c) ∙ other)

-- what an outcome says of the event, of the changes, and of the cells that are written
abbrev event_in : Step → Option Outcome → Option Event
event_in s o = option_map (λ x. event s x.0) o

event_of : (v : Contents) (s : Step) (o : Option Deed) → event_in s (option_map (with_changes v s) o) ≡ option_map (event s) o
event_of v s None = refl
event_of v s (Some d) = refl

abbrev cells_in : Option Outcome → List Cell
cells_in None = []
cells_in (Some o) = map cell_of o.1

written_of : (h : History) (s : Step) (o : Option Deed) → cells_in (option_map (with_changes (contents h) s) o) ≡ written h (option_map (event s) o)
written_of h s None = refl
written_of h s (Some d) = refl

pub reads_settle : ReadsSettle
unfolding contents
reads_settle a h g step agree =
    let same = frames a (contents h) (contents g) step agree in
    let happens : next_event a h step ≡ next_event a g step = sym (event_of (contents h) step (next_deed a (contents h) step)) ∙ ap (event_in step) same.0 ∙ event_of (contents g) step (next_deed a (contents g) step) in
    let writes = sym (written_of h step (next_deed a (contents h) step)) ∙ ap cells_in same.0 ∙ written_of g step (next_deed a (contents g) step) in
    record {
      event = happens;
      footprint = λ i. record { reads = same.1 i; writes = writes i };
      contents = λ e now c here.
          let deed = deed_is step (next_deed a (contents h) step) e now in
          let is = step_is step (next_deed a (contents h) step) e now in
          let theirs = event_is (contents g) step (next_deed a (contents g) step) e.deed (changes_by (contents h) step e.deed) (sym same.0 ∙ outcome_is a h step e.deed deed) in
          follows (changes_by (contents h) e.step e.deed) (contents h) (contents g) c here
          ∙ ap (λ s. after (changes_by (contents h) s e.deed) (contents g) c) (sym is)
          ∙ ap (λ ks. after ks (contents g) c) (sym theirs.1)
          ∙ ap (λ s. after (changes_by (contents g) s e.deed) (contents g) c) is;
    }
