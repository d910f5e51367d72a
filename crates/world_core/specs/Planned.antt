-- What a planned step will show.
use Rattle.std.specs.Prelude.{◌≡◌, List, ◌∷◌, Some}
use Rattle.core_tree.specs.Syntax.{ModuleTree}
use Rattle.world_model.specs.Asking.{program_of}
use Rattle.world_model.specs.Events.{Event, History}
use Rattle.world_model.specs.Run.{next_event}
use Rattle.world_model.specs.Shown.{Identity, shown_last}
use Rattle.world_model.specs.World.{contents}
use Rattle.world_records.specs.Records.{Agrees}
use Rattle.world_records.specs.declared.records.Records.{Records}
use Rattle.world_footprints.specs.Footprints.{IsPlan}
use Rattle.world_footprints.specs.declared.plan.Plan.{Plan}

-- the event that the step adds shows these, after each history that the records and the plan are of
abbrev pub WillShow : Records → Plan → List Identity → Type 0
WillShow records plan identities = (m : ModuleTree) (h : History) (e : Event) → Agrees m records (contents h) → IsPlan (program_of m) (contents h) plan → next_event (program_of m) h plan.step ≡ Some e → identities ≡ shown_last (e ∷ h)
