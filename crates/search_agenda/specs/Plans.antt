-- Plans and agendas: what they say of a history.
use Rattle.std.specs.List.{AllByRecursion, filter}
use Rattle.std.specs.Prelude.{◌≡◌, ◌∷◌, false, true, is_some, List, Some, map}
use Rattle.std.specs.Global.{Global}
use Rattle.std.specs.declared.rc.Rc.{Rc}
use Rattle.core_tree.specs.Syntax.{ModuleTree}
use Rattle.term_core.specs.declared.step.Step.{Step}
use Rattle.world_model.specs.Asking.{program_of}
use Rattle.world_model.specs.Cells.{Cell}
use Rattle.world_model.specs.Changes.{cell_of}
use Rattle.world_model.specs.Events.{Event, History}
use Rattle.world_model.specs.Independence.{footprint, some_meet}
use Rattle.world_model.specs.Names.{IsAmong}
use Rattle.world_model.specs.Requests.{Program}
use Rattle.world_model.specs.Run.{IsRun, changes, enabled_steps, next_event}
use Rattle.world_model.specs.World.{contents}
use Rattle.world_records.specs.Cells.{cells_in}
use Rattle.world_records.specs.Records.{Agrees}
use Rattle.world_records.specs.declared.records.Records.{Records}
use Rattle.world_footprints.specs.Footprints as footprints
use Rattle.world_footprints.specs.declared.plan.Plan.{Plan}
use Rattle.search_agenda.specs.declared.agenda.Agenda.{Agenda}

-- the records are what a history leaves, and the history is a run
pub record IsWorld (m : ModuleTree) (h : History) (records : Records) : Type 0 where
  pub agrees : Agrees m records (contents h)
  pub is_run : IsRun (program_of m) h

-- a plan holds of a history where it is that of its step at the contents which the history leaves
abbrev pub IsPlan : Program → History → Plan → Type 0
IsPlan a h p = footprints.IsPlan a (contents h) p

-- the records after the event of a planned step, from those before it
abbrev pub IsStepped : Records → Plan → Records → Type 0
IsStepped old p new = (m : ModuleTree) (h : History) (e : Event) → IsWorld m h old → IsPlan (program_of m) h p → next_event (program_of m) h p.step ≡ Some e → IsWorld m (e ∷ h) new

-- plans that are shared, and the steps of those that are enabled
abbrev pub Shared : Type 0
Shared = Rc Plan Global

abbrev pub ArePlans : Program → History → List Shared → Type 0
ArePlans a h plans = AllByRecursion (λ p. IsPlan a h p.value) plans

abbrev pub enabled_in : List Shared → List Step
enabled_in plans = map (λ p. p.value.step) (filter (λ p. is_some p.value.deed) plans)

-- the steps of plans
abbrev pub steps_in : List Shared → List Step
steps_in plans = map (λ p. p.value.step) plans

-- plans of these steps, which hold
pub record AreStanding (a : Program) (h : History) (of : List Step) (those : List Shared) : Type 0 where
  pub plans : ArePlans a h those
  pub steps : steps_in those ≡ of

-- each plan of an agenda holds, and the enabled steps are planned
pub record IsAgenda (a : Program) (h : History) (g : Agenda) : Type 0 where
  pub plans : ArePlans a h g.plans.items
  pub enabled : enabled_in g.plans.items ≡ enabled_steps a h

-- at the node to which the step of a plan leads from a node with an agenda, and whose records these are, this is the agenda
abbrev pub IsAgendaBelow : Agenda → Plan → Records → Agenda → Type 0
IsAgendaBelow g p records below = (m : ModuleTree) (h : History) (e : Event) → IsAgenda (program_of m) h g → IsPlan (program_of m) h p → next_event (program_of m) h p.step ≡ Some e → IsWorld m (e ∷ h) records
    → IsAgenda (program_of m) (e ∷ h) below

-- each step that is enabled at a node with an agenda reads what the step of a plan writes there
abbrev pub MeetsEach : Plan → Agenda → Type 0
MeetsEach p g = (a : Program) (h : History) → IsAgenda a h g → IsPlan a h p → (s : Step) → IsAmong s (enabled_steps a h) → some_meet (footprint a h p.step).writes (footprint a h s).reads ≡ true

-- what holds of the plans that are taken over, where these cells were written
abbrev pub TakesOver : Program → History → List Shared → List Cell → Type 0
TakesOver a h plans writes = AllByRecursion (λ p. some_meet writes (cells_in p.value.planned.reads.items) ≡ false → IsPlan a h p.value) plans

-- what a plan says of its step it says after an event, too, which writes no cell that the step reads
abbrev pub PlansSettle : Type 0
PlansSettle = (a : Program) (h : History) (e : Event) (p : Plan) → IsPlan a h p → some_meet (map cell_of (changes h e)) (cells_in p.planned.reads.items) ≡ false → IsPlan a (e ∷ h) p
