-- What is planned of watches by name.
use Rattle.std.specs.Prelude.{◌≡◌, ◌∷◌, ◌++◌, [], Bool, false, Option}
use Rattle.world_model.specs.Cells as cells
use Rattle.world_model.specs.Cells.{Contents}
use Rattle.world_model.specs.Changes.{GuardSet}
use Rattle.world_model.specs.Guards.{Guard}
use Rattle.world_model.specs.Names.{Name, Pid, Ref, same_pid}
use Rattle.world_model.specs.ProcessLines.{alias_beside, gone_told, named_begins, next_ref, watch_begins}
use Rattle.world_model.specs.declared.alias.AliasEnd.{AliasEnd}
use Rattle.world_planned.specs.inside.Planned.{Adds}
use Rattle.world_planned.specs.declared.planned.Planned.{Planned}

-- a process watches another, or itself, and keeps this of it
abbrev pub PlansKept : Pid → Pid → Ref → Guard → Bool → Planned → Planned → Type 0
PlansKept p q ref guard lives old new = Adds [] (watch_begins ref q ++ (GuardSet ref guard ∷ gone_told lives p q ref)) old new

-- a process watches the one that has a name, by a new reference
abbrev pub PlansHolder : Contents → Pid → Name → Pid → Option AliasEnd → Ref → Planned → Planned → Type 0
PlansHolder v p name q alias ref old new =
    (ref ≡ next_ref v p) × Adds (cells.Alive q ∷ []) (named_begins p name ref q (v (cells.Alive q)) (alias_beside (same_pid p q) alias)) old new

-- and a name that nobody has
abbrev pub PlansNobody : Contents → Pid → Name → Option AliasEnd → Ref → Planned → Planned → Type 0
PlansNobody v p name alias ref old new = (ref ≡ next_ref v p) × Adds [] (named_begins p name ref p false alias) old new
