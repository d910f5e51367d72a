-- What is planned of turns and of deliveries.
use Rattle.std.specs.Prelude.{◌≡◌, true, Option, option_map}
use Rattle.core_tree.specs.Syntax.{ModuleTree}
use Rattle.term_core.specs.declared.step.Step.{Step}
use Rattle.term_core.specs.declared.step.Step.TheVariants.{Turn, Deliver}
use Rattle.world_model.specs.Asking.{program_of}
use Rattle.world_model.specs.Cells.{Contents, Alive, Machine}
use Rattle.world_model.specs.Names.{Pid}
use Rattle.world_model.specs.Requests.{Program, Request}
use Rattle.world_model.specs.Signals.{first_of, waiting_in}
use Rattle.world_model.specs.Steps.{asked, deed_asked, deed_delivered, next_deed, reads, reads_of_request, reads_of_signal}
use Rattle.world_records.specs.Records.{Agrees}
use Rattle.world_records.specs.declared.records.Records.{Records}
use Rattle.world_footprints.specs.Deeds.{deed_in}
use Rattle.world_planned.specs.inside.Planned.{Adds}
use Rattle.world_planned.specs.Replies.{NamesMeanTables}
use Rattle.world_footprints.specs.Plans.{others_if}
use Rattle.world_footprints.specs.declared.deed.Deed.{Deed}
use Rattle.world_planned.specs.declared.planned.Planned.{Planned}

-- the turn of a process that asks this, and what it reads and changes
pub record IsPlannedTurn (v : Contents) (p : Pid) (request : Request) (deed : Option Deed) (old new : Planned) : Type 0 where
  pub is_next : option_map deed_in deed ≡ deed_asked v p request
  pub adds : Adds (reads_of_request v p request) (others_if v (Turn p) (deed_asked v p request)) old new

-- so it is, whatever contents the records agree with, where the process lives
abbrev pub PlansTurn : Pid → Request → Records → Option Deed → Planned → Planned → Type 0
PlansTurn p request records deed old new = (m : ModuleTree) (v : Contents) → Agrees m records v → NamesMeanTables v → v (Alive p) ≡ true → IsPlannedTurn v p request deed old new

-- a turn of whatever the process asks
abbrev pub PlansAsked : Pid → Records → Option Deed → Planned → Planned → Type 0
PlansAsked p records deed old new = (m : ModuleTree) (v : Contents) → Agrees m records v → NamesMeanTables v → v (Alive p) ≡ true → IsPlannedTurn v p (asked (program_of m) p (v (Machine p))) deed old new

-- a delivery to a process that lives
pub record IsPlannedDelivery (v : Contents) (s r : Pid) (deed : Option Deed) (old new : Planned) : Type 0 where
  pub is_next : option_map deed_in deed ≡ deed_delivered v s r (first_of (waiting_in v s r))
  pub adds : Adds (reads_of_signal v s r (first_of (waiting_in v s r))) (others_if v (Deliver s r) (deed_delivered v s r (first_of (waiting_in v s r)))) old new

abbrev pub PlansDelivery : Pid → Pid → Records → Option Deed → Planned → Planned → Type 0
PlansDelivery s r records deed old new = (m : ModuleTree) (v : Contents) → Agrees m records v → IsPlannedDelivery v s r deed old new

-- a step of a process that lives
pub record IsPlannedStep (a : Program) (v : Contents) (step : Step) (deed : Option Deed) (old new : Planned) : Type 0 where
  pub is_next : option_map deed_in deed ≡ next_deed a v step
  pub adds : Adds (reads a v step) (others_if v step (next_deed a v step)) old new
