use Rattle.std.proofs.Common.{take}
use Rattle.core_tree.specs.Syntax.{ModuleTree}
use Rattle.world_model.specs.Cells.{Contents}
use Rattle.world_model.specs.Changes.{after}
use Rattle.world_records.specs.Changes.{CanApply, all_changes_in}
use Rattle.world_records.specs.Records.{Agrees}
use Rattle.world_plans.proofs.performing.apply_all.Given as goal

-- the changes so far are applied
abbrev pub invariant-loop-change : goal.invariant-loop-change
invariant-loop-change l = (m : ModuleTree) (v : Contents) → Agrees m l.fn.records v → CanApply v (all_changes_in l.changes) → Agrees m l.records (after (all_changes_in (take l.change-index l.changes)) v)
