-- The nodes of the tree of a module have texts that are read back.
use Rattle.std.specs.List.{AllByRecursion}
use Rattle.std.specs.Prelude.{ℕ, ◌≤◌, ◌<◌, ◌^◌, length}
use Rattle.core_tree.specs.Syntax.{ModuleTree}
use Rattle.term_core.specs.Schedule.{AreLawful}
use Rattle.world_model.specs.Asking.{program_of}
use Rattle.tree_coverage.specs.Jobs.{Node, Job, nodes_of}

-- the numbers of all pids of a node, of its schedule and of the steps that are taken there, are those that a text may have
abbrev pub IsLawfulNode : Node → Type 0
IsLawfulNode v = AreLawful v.schedule × AreLawful v.taken

-- so it is of each node of a job, where the depth of the tree is below 2^64
abbrev pub NodesHaveTexts : Type 0
NodesHaveTexts = (m : ModuleTree) (n : ℕ) (job : Job) → n < 2 ^ 64 → length job.prefix ≤ n → AllByRecursion IsLawfulNode (nodes_of (program_of m) n job)
