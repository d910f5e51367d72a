-- What records are once a change of the code is applied.
use Rattle.core_tree.specs.Syntax.{ModuleTree}
use Rattle.world_model.specs.Cells.{Contents}
use Rattle.world_model.specs.Changes.{after}
use Rattle.world_records.specs.Changes.{CanApply, changes_in}
use Rattle.world_records.specs.Records.{Agrees}
use Rattle.world_records.specs.declared.change.Change.{Change}
use Rattle.world_records.specs.declared.records.Records.{Records}

-- whatever contents the records agreed with that can be held after it, they agree with what it leaves of them
abbrev pub Applies : Change → Records → Records → Type 0
Applies change old new = (m : ModuleTree) (v : Contents) → Agrees m old v → CanApply v (changes_in change) → Agrees m new (after (changes_in change) v)
