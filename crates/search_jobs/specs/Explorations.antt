-- What is explored, and its jobs, as contracts see them.
use Rattle.std.specs.Prelude.{ℕ, List, map}
use Rattle.core_tree.specs.Syntax.{ModuleTree}
use Rattle.world_model.specs.Asking.{program_of}
use Rattle.world_model.specs.Requests.{Program}
use Rattle.world_model.specs.Shown.{Flags}
use Rattle.tree_coverage.specs.Findings.{Findings, findings_among}
use Rattle.tree_coverage.specs.Jobs as tree
use Rattle.tree_coverage.specs.Jobs.{Job, Node, schedules_of}
use Rattle.world_identities.specs.Identities.{flags_in}
use Rattle.tree_findings.specs.declared.options.Options.{Options}
use Rattle.search_jobs.specs.declared.exploration.Exploration.{Exploration}

-- a module, how many steps a schedule may have, and what counts as an error
pub record ExplorationSeen : Type 0 where
  pub program : ModuleTree
  pub depth : ℕ
  pub flags : Flags

abbrev pub exploration_in : Exploration → ExplorationSeen
exploration_in e = record { program = e.program.now; depth = e.depth; flags = flags_in e.flags }

-- the one of a module that the options ask for
abbrev pub explored_by : ModuleTree → Options → ExplorationSeen
explored_by m options = record { program = m; depth = options.depth; flags = flags_in options.flags }

-- the program that the module is
abbrev pub program_in : ExplorationSeen → Program
program_in e = program_of e.program

-- a job with its exploration, and the number under which it was handed out, 0 if it was not
pub record JobSeen : Type 0 where
  pub exploration : ExplorationSeen
  pub name : Job
  pub number : ℕ

-- what was handed out
pub record TicketSeen : Type 0 where
  pub number : ℕ
  pub name : Job

abbrev pub names_of : List JobSeen → List Job
names_of jobs = map (λ job. job.name) jobs

-- the nodes of a job, in the order in which the search visits them
abbrev pub nodes_of : ExplorationSeen → Job → List Node
nodes_of e name = tree.nodes_of (program_in e) e.depth name

-- and of some jobs, one job after another
abbrev pub nodes_of_all : ExplorationSeen → List JobSeen → List Node
nodes_of_all e jobs = tree.nodes_of_all (program_in e) e.depth (names_of jobs)

-- what these nodes show
abbrev pub findings_of : ExplorationSeen → List Node → Findings
findings_of e nodes = findings_among e.flags (program_in e) (schedules_of nodes)
