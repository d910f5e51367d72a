use Rattle.std.proofs.Common.{◌≡◌, take}
use Rattle.std.specs.List.{filter}
use Rattle.core_tree.specs.Syntax.{ModuleTree}
use Rattle.world_model.specs.Asking.{program_of}
use Rattle.world_model.specs.Cells.{Contents}
use Rattle.world_records.specs.Records.{Agrees}
use Rattle.world_plans.specs.Independence.{are_independent}
use Rattle.world_planned.specs.Replies.{NamesMeanTables}
use Rattle.world_footprints.specs.Footprints.{IsPlan}
use Rattle.world_plans.proofs.independence.independent_of.Given as goal

-- of those before this one
abbrev pub invariant-loop-other : goal.invariant-loop-other
invariant-loop-other l = (m : ModuleTree) (v : Contents) → Agrees m l.records v → NamesMeanTables v → IsPlan (program_of m) v l.one
    → l.asleep.items ≡ filter (are_independent (program_of m) v l.one.step) (take l.other-index l.slept)
