-- When two explorations are one, and the jobs of an exploration.
use Rattle.std.specs.List.{AllByRecursion}
use Rattle.std.specs.Prelude.{◌≡◌, List}
use Rattle.core_tree.specs.Sameness.{bare_module}
use Rattle.tree_coverage.specs.Jobs as tree
use Rattle.tree_coverage.specs.Jobs.{Job, Node}
use Rattle.search_jobs.specs.Explorations.{ExplorationSeen, JobSeen, TicketSeen, program_in, nodes_of, findings_of}

-- two explorations are one: the same modules except for the places of their parts in the text, to one depth, under the same flags
pub record AreOne (e f : ExplorationSeen) : Type 0 where
  pub program : bare_module e.program ≡ bare_module f.program
  pub depth : e.depth ≡ f.depth
  pub flags : e.flags ≡ f.flags

-- a job of the exploration
abbrev pub IsOf : ExplorationSeen → JobSeen → Type 0
IsOf e job = AreOne job.exploration e

-- all of them are
abbrev pub AreJobsOf : ExplorationSeen → List JobSeen → Type 0
AreJobsOf e jobs = AllByRecursion (IsOf e) jobs

-- the job that a ticket names
pub record IsJobOf (e : ExplorationSeen) (ticket : TicketSeen) (job : JobSeen) : Type 0 where
  pub is_of : IsOf e job
  pub name : job.name ≡ ticket.name
  pub number : job.number ≡ ticket.number

-- the nodes of jobs, one job after another
abbrev pub nodes_of_jobs : ExplorationSeen → List Job → List Node
nodes_of_jobs e jobs = tree.nodes_of_all (program_in e) e.depth jobs

-- ---- laws

-- two explorations that are one have the same nodes
abbrev pub OneHasTheSameNodes : Type 0
OneHasTheSameNodes = (e f : ExplorationSeen) (name : Job) → AreOne e f → nodes_of e name ≡ nodes_of f name

-- and what nodes show is the same
abbrev pub OneShowsTheSame : Type 0
OneShowsTheSame = (e f : ExplorationSeen) (nodes : List Node) → AreOne e f → findings_of e nodes ≡ findings_of f nodes
