-- Which of some steps are enabled in the records of a world.
use Rattle.std.specs.List.{filter}
use Rattle.std.specs.Prelude.{◌≡◌, ◌++◌, List, Bool, is_some, map}
use Rattle.core_tree.specs.Syntax.{ModuleTree}
use Rattle.term_core.specs.declared.step.Step.{Step}
use Rattle.term_core.specs.declared.step.Step.TheVariants.{Turn, Deliver}
use Rattle.world_model.specs.Asking.{program_of}
use Rattle.world_model.specs.Cells.{Contents}
use Rattle.world_model.specs.Names.{Pid}
use Rattle.world_model.specs.Steps.{next_deed}
use Rattle.world_records.specs.Records.{Agrees}
use Rattle.world_records.specs.declared.records.Records.{Records}

-- whether a step is enabled where the cells contain this
abbrev pub is_enabled_at : ModuleTree → Contents → Step → Bool
is_enabled_at m v step = is_some (next_deed (program_of m) v step)

-- those of some steps that are enabled are put after others
abbrev pub PutsEnabled : Records → List Step → List Step → List Step → Type 0
PutsEnabled records steps old new = (m : ModuleTree) (v : Contents) → Agrees m records v → new ≡ old ++ filter (is_enabled_at m v) steps

-- the turns of processes
abbrev pub turns_of : List Pid → List Step
turns_of ps = map Turn ps

-- the deliveries between pairs of processes
abbrev pub deliveries_of : List (Pid × Pid) → List Step
deliveries_of pairs = map (λ pair. Deliver pair.0 pair.1) pairs
