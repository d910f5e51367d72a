-- What a plan says of its step holds on where nothing that the step reads is written.
use Rattle.std.proofs.Common.{◌≡◌, ◌∙◌, ◌++◌, ◌||◌, zero, suc, ℕ, Bool, false, drop, length, List, [], ◌∷◌, Option, Some, None, is_some, option_map, map, refl, sym, ap}
use Rattle.std.specs.Prelude.{◌&&◌}
use Rattle.term_core.specs.declared.step.Step.{Step}
use Rattle.world_model.specs.Cells.{Cell, Contents, meet}
use Rattle.world_model.specs.Changes.{Change, cell_of}
use Rattle.world_model.specs.Events.{Deed, Event, event, History}
use Rattle.world_model.specs.Frames.{AgreeOn}
use Rattle.world_model.specs.Independence as model
use Rattle.world_model.specs.Independence.{Footprint, are_apart, one_meets, some_meet, written}
use Rattle.world_model.specs.Requests.{Program}
use Rattle.world_model.specs.Run as run
use Rattle.world_model.specs.Run.{changes, next_event}
use Rattle.world_model.specs.Steps.{changes_by, next_deed, reads}
use Rattle.world_model.specs.World.{contents}
use Rattle.world_model.proofs.Outcomes.{Outcome, meets, outcome, touches, with_changes}
use Rattle.world_model.proofs.StepFrames.{frames}
use Rattle.world_records.specs.Cells.{cells_in}
use Rattle.world_plans.specs.Independence.{are_independent, footprint, is_enabled, written_of}
use Rattle.world_footprints.specs.Plans.{first_changes, other_changes, others_if}
use Rattle.world_footprints.specs.Footprints as footprints
use Rattle.world_footprints.specs.Footprints.{footprint_in, written_in}
use Rattle.world_footprints.specs.declared.plan.Plan.{Plan}
use Rattle.world_plans.proofs.Apart.{enabled_is, footprint_is}
use Rattle.world_plans.proofs.Turning.{in_order}
use Rattle.search_agenda.specs.Plans.{ArePlans, IsPlan, PlansSettle, Shared, TakesOver}
use Rattle.search_agenda.proofs.Seen.{agree_after}

-- tests over the cells of changes are those over the changes
touched : (ks : List Change) (c : Cell) → touches ks c ≡ one_meets (map cell_of ks) c
touched [] c = refl
touched (k ∷ ks) c = ap (λ b. meet (cell_of k) c || b) (touched ks c)

met : (ks : List Change) (cs : List Cell) → meets ks cs ≡ some_meet (map cell_of ks) cs
met ks [] = refl
met ks (c ∷ cs) = λ i. touched ks c i || met ks cs i

-- ---- an outcome has the deed, and what changes besides

abbrev deed_out : Option Outcome → Option Deed
deed_out o = option_map (λ x. x.0) o

deed_of : (v : Contents) (s : Step) (o : Option Deed) → deed_out (option_map (with_changes v s) o) ≡ o
deed_of v s None = refl
deed_of v s (Some d) = refl

abbrev others_out : Step → Option Outcome → List Change
others_out s None = []
others_out s (Some o) = drop (length (first_changes s o.0)) o.1

dropped : {X : Type 0} (xs ys : List X) → drop (length xs) (xs ++ ys) ≡ ys
dropped [] ys = refl
dropped (x ∷ xs) ys = dropped xs ys

others_of : (v : Contents) (s : Step) (o : Option Deed) → others_out s (option_map (with_changes v s) o) ≡ others_if v s o
others_of v s None = refl
others_of v s (Some d) = ap (drop (length (first_changes s d))) (in_order v s d) ∙ dropped (first_changes s d) (other_changes v s d)

-- so a plan holds of all contents that agree on what its step reads
pub plan_framed : (a : Program) (v w : Contents) (p : Plan) → footprints.IsPlan a v p → AgreeOn v w (reads a v p.step) → footprints.IsPlan a w p
plan_framed a v w p was agree =
    let same = frames a v w p.step agree in
    let deed : next_deed a v p.step ≡ next_deed a w p.step = sym (deed_of v p.step (next_deed a v p.step)) ∙ ap deed_out same.0 ∙ deed_of w p.step (next_deed a w p.step) in
    let others : others_if v p.step (next_deed a v p.step) ≡ others_if w p.step (next_deed a w p.step) = sym (others_of v p.step (next_deed a v p.step)) ∙ ap (others_out p.step) same.0 ∙ others_of w p.step (next_deed a w p.step) in
    record {
      deed = was.deed ∙ deed;
      reads = was.reads ∙ same.1;
      changes = was.changes ∙ others;
    }

-- and it holds on
pub plan_stays : PlansSettle
unfolding contents
plan_stays a h e p was apart =
    plan_framed a (contents h) (contents (e ∷ h)) p was (agree_after (changes h e) (contents h) (reads a (contents h) p.step) (met (changes h e) (reads a (contents h) p.step) ∙ ap (some_meet (map cell_of (changes h e))) (sym was.reads) ∙ apart))

-- ---- what a plan says, in the words of histories

mapped_some : {A B : Type 0} (f : A → B) (o : Option A) → is_some o ≡ is_some (option_map f o)
mapped_some f None = refl
mapped_some f (Some x) = refl

pub enabled_as : (a : Program) (h : History) (s : Step) → is_enabled a (contents h) s ≡ run.is_enabled a h s
enabled_as a h s = mapped_some (event s) (next_deed a (contents h) s)

written_as : (h : History) (s : Step) (o : Option Deed) → written_of (contents h) s o ≡ written h (option_map (event s) o)
written_as h s None = refl
written_as h s (Some d) = refl

footprint_as : (a : Program) (h : History) (s : Step) → footprint a (contents h) s ≡ model.footprint a h s
footprint_as a h s = λ i. record { reads = reads a (contents h) s; writes = written_as h s (next_deed a (contents h) s) i }

pub independent_as : (a : Program) (h : History) (s t : Step) → are_independent a (contents h) s t ≡ model.are_independent a h s t
independent_as a h s t = λ i. enabled_as a h s i && (enabled_as a h t i && are_apart (footprint_as a h s i) (footprint_as a h t i))

pub enabled_here : (a : Program) (h : History) (p : Plan) → IsPlan a h p → is_some p.deed ≡ run.is_enabled a h p.step
enabled_here a h p is = enabled_is a (contents h) p is ∙ enabled_as a h p.step

pub footprint_here : (a : Program) (h : History) (p : Plan) → IsPlan a h p → footprint_in p ≡ model.footprint a h p.step
footprint_here a h p is = footprint_is a (contents h) p is ∙ footprint_as a h p.step

-- the cells that the plan of the step writes are those of its event
pub writes_are : (a : Program) (h : History) (e : Event) (p : Plan) → IsPlan a h p → next_event a h p.step ≡ Some e → written_in p ≡ map cell_of (changes h e)
writes_are a h e p is now = ap (λ (f : Footprint). f.writes) (footprint_here a h p is) ∙ ap (written h) now

-- so plans are taken over
pub taken_over : (a : Program) (h : History) (e : Event) (writes : List Cell) (plans : List Shared) → writes ≡ map cell_of (changes h e) → ArePlans a h plans → TakesOver a (e ∷ h) plans writes
taken_over a h e writes [] is all = tt
taken_over a h e writes (p ∷ ps) is all =
    (λ apart. plan_stays a h e p.value all.0 (ap (λ ws. some_meet ws (cells_in p.value.planned.reads.items)) (sym is) ∙ apart), taken_over a h e writes ps is all.1)
