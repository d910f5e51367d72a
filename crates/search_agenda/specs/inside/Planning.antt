-- Plans that are put after others.
use Rattle.std.specs.List.{filter}
use Rattle.std.specs.Prelude.{◌≡◌, ◌<◌, ◌++◌, ℕ, true, List, Option, None, Some, get_or, length, ⊤}
use Rattle.core_tree.specs.Syntax.{ModuleTree}
use Rattle.std.specs.declared.cmp.Ordering.TheVariants.{Greater}
use Rattle.term_core.specs.StepOrder.{order_of_steps}
use Rattle.term_core.specs.declared.step.Step.{Step}
use Rattle.term_core.specs.declared.step.Step.TheVariants as step
use Rattle.world_model.specs.Asking.{program_of}
use Rattle.world_model.specs.Events.{History}
use Rattle.world_model.specs.Independence.{some_meet}
use Rattle.world_model.specs.Names.{IsAmong}
use Rattle.world_model.specs.Requests.{Program}
use Rattle.world_model.specs.Run.{is_enabled}
use Rattle.world_records.specs.declared.records.Records.{Records}
use Rattle.world_records.specs.Cells.{cells_in}
use Rattle.world_footprints.specs.Footprints.{written_in}
use Rattle.search_agenda.specs.Plans.{ArePlans, IsWorld, Shared, TakesOver, enabled_in}
use Rattle.search_agenda.specs.declared.above.Above.{Above}
use Rattle.search_agenda.specs.declared.lent.LentStep.{LentStep}
use Rattle.search_agenda.specs.declared.lent.LentStep.TheVariants.{Turn, Deliver}

-- the step that is lent
abbrev pub step_in : LentStep → Step
step_in (Turn p) = step.Turn p.now
step_in (Deliver s r) = step.Deliver s.now r.now

-- a plan is in a list
abbrev pub IsHeldIn : Shared → List Shared → Type 0
IsHeldIn plan plans = IsAmong plan plans

-- the steps of plans at a place and after it come after a step, where the plans are in their order
abbrev pub IsPassed : List Shared → ℕ → Step → Type 0
IsPassed plans place step = place < length plans → (p : Shared) → p ≡ get_or plans place p → order_of_steps p.value.step step ≡ Greater

-- there is a plan of a step, and the step between the nodes writes what that one reads
pub record IsMetIn (above : Above) (step : Step) : Type 0 where
  pub plan : Shared
  pub held : IsHeldIn plan above.plans.now
  pub same : plan.value.step ≡ step
  pub met : some_meet (written_in above.taken.now) (cells_in plan.value.planned.reads.items) ≡ true

-- what holds of the plans of the node above, if there is one, that are taken over
abbrev pub TakesOverFrom : Program → History → Option Above → Type 0
TakesOverFrom a h None = ⊤
TakesOverFrom a h (Some above) = TakesOver a h above.plans.now (written_in above.taken.now)

-- plans with those of more steps after them
pub record HasPlans (a : Program) (h : History) (steps : List Step) (old new : List Shared) : Type 0 where
  pub hold : ArePlans a h new
  pub enabled : enabled_in new ≡ enabled_in old ++ filter (is_enabled a h) steps

-- whatever history the records are of, the plans of these steps are put after others, some of them taken over
abbrev pub PutsPlans : Records → Option Above → List Step → List Shared → List Shared → Type 0
PutsPlans records above steps old new = (m : ModuleTree) (h : History) → IsWorld m h records → TakesOverFrom (program_of m) h above → ArePlans (program_of m) h old → HasPlans (program_of m) h steps old new
