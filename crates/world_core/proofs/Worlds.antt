-- The world after a step.
use Rattle.std.proofs.Common.{◌≡◌, ◌∷◌, [], ◌∙◌, Option, Some, None, is_some, false, true≢false, refl, sym, ap, subst, option_map, arith, ◌+◌}
use Rattle.std.specs.Prelude.{IfSome}
use Rattle.core_tree.specs.Syntax.{ModuleTree}
use Rattle.term_core.specs.declared.step.Step.{Step}
use Rattle.term_core.specs.declared.step.Step.TheVariants.{Turn, Deliver}
use Rattle.world_model.specs.Asking.{program_of}
use Rattle.world_model.specs.Cells.{Alive}
use Rattle.world_model.specs.Events as events
use Rattle.world_model.specs.Events.{event, History}
use Rattle.world_model.specs.Requests.{Program}
use Rattle.world_model.specs.Run.{IsRun, next_event, extended}
use Rattle.world_model.specs.Steps.{next_deed}
use Rattle.world_model.specs.World.{beginning, contents, turns}
use Rattle.world_model.proofs.Fresh.{names_new}
use Rattle.world_records.specs.Records.{Agrees, AreAlike}
use Rattle.world_records.specs.declared.records.Records.{Records}
use Rattle.world_footprints.specs.Deeds.{deed_in}
use Rattle.world_footprints.specs.Plans.{IsNewFor, actor_of, left}
use Rattle.world_footprints.specs.Footprints.{IsPlan}
use Rattle.world_footprints.specs.declared.deed.Deed.{Deed}
use Rattle.world_footprints.specs.declared.plan.Plan.{Plan}
use Rattle.world_plans.proofs.Apart.{dead_off}
use Rattle.world_core.specs.inside.Worlds.{IsWorld}

-- what a process creates next is new
pub new_for : (a : Program) (h : History) (step : Step) → IsRun a h → IsNewFor (contents h) step
new_for a h (Turn p) run = (names_new a h p (turns h p + 1) run (omega arith)).table
new_for a h (Deliver s r) run = tt

-- the event that a step adds
pub next_is : (m : ModuleTree) (h : History) (step : Step) (deed : events.Deed) → Some deed ≡ next_deed (program_of m) (contents h) step → next_event (program_of m) h step ≡ Some (event step deed)
next_is m h step deed is = ap (option_map (event step)) (sym is)

pub none_next : (m : ModuleTree) (h : History) (step : Step) → None ≡ next_deed (program_of m) (contents h) step → next_event (program_of m) h step ≡ None
none_next m h step is = ap (option_map (event step)) (sym is)

pub grown_history : (m : ModuleTree) (h : History) (step : Step) (deed : events.Deed) → Some deed ≡ next_deed (program_of m) (contents h) step → extended h (next_event (program_of m) h step) ≡ Some (event step deed ∷ h)
grown_history m h step deed is = ap (extended h) (next_is m h step deed is)

-- the world after it, where it was done as planned
pub planned_next : (m : ModuleTree) (h : History) (plan : Plan) (deed : Deed) → IsPlan (program_of m) (contents h) plan → plan.deed ≡ Some deed → Some (deed_in deed) ≡ next_deed (program_of m) (contents h) plan.step
planned_next m h plan deed is here = sym (ap (option_map deed_in) here) ∙ is.deed

pub grown_world : (m : ModuleTree) (h : History) (plan : Plan) (deed : Deed) (new : Records) → IsRun (program_of m) h → IsPlan (program_of m) (contents h) plan → plan.deed ≡ Some deed → Agrees m new (left (contents h) plan.step (option_map deed_in plan.deed)) → IsWorld m (event plan.step (deed_in deed) ∷ h) new
unfolding contents
grown_world m h plan deed new run is here told = record {
  agrees = subst (λ d. Agrees m new (left (contents h) plan.step (option_map deed_in d))) here told;
  is_run = (next_is m h plan.step (deed_in deed) (planned_next m h plan deed is here), run);
}

-- a plan without a deed is of a step that is not enabled
pub planned_none : (m : ModuleTree) (h : History) (plan : Plan) → IsPlan (program_of m) (contents h) plan → plan.deed ≡ None → next_event (program_of m) h plan.step ≡ None
planned_none m h plan is none = none_next m h plan.step (sym (ap (option_map deed_in) none) ∙ is.deed)

no_deed : {A : Type 0} (o : Option A) → is_some o ≡ false → None ≡ o
no_deed None off = refl
no_deed (Some x) off = absurd (true≢false off)

-- and so is one of a process that does not live
pub dead_none : (m : ModuleTree) (h : History) (step : Step) → contents h (Alive (actor_of step)) ≡ false → next_event (program_of m) h step ≡ None
dead_none m h step dead = none_next m h step (no_deed (next_deed (program_of m) (contents h) step) (dead_off (program_of m) (contents h) step dead))

-- the world before anything happened
pub opened : (m : ModuleTree) (records : Records) → Agrees m records beginning → IsWorld m [] records
unfolding contents
opened m records told = record {
  agrees = told;
  is_run = tt;
}

-- a copy of a world
pub copied : (m : ModuleTree) (h g : History) (old new : Records) → g ≡ h → AreAlike old new → IsWorld m h old → IsWorld m g new
copied m h g old new same alike was = record {
  agrees = subst (λ k. Agrees m new (contents k)) (sym same) (alike m (contents h) was.agrees);
  is_run = subst (IsRun (program_of m)) (sym same) was.is_run;
}

pub not_none : {A : Type 0} (o : Option A) (x : A) → o ≡ Some x → o ≡ None → ⊥
not_none None x is none = absurd cc
not_none (Some y) x is none = absurd cc

-- what holds of a value, if there is one
pub if_some : {A : Type 0} (o : Option A) (P Q : A → Type 0) → ((x : A) → P x → Q x) → IfSome o P → IfSome o Q
if_some None P Q weaker holds = tt
if_some (Some x) P Q weaker holds = weaker x holds
