-- What is done of a job, and what of it is left.
use Rattle.std.specs.List.{AllByRecursion}
use Rattle.std.specs.Prelude.{◌≡◌, List, ◌++◌, length}
use Rattle.tree_coverage.specs.Findings.{Findings}
use Rattle.tree_coverage.specs.Jobs.{Job, Node, schedules_of}
use Rattle.tree_findings.specs.declared.extent.Extent.{Extent}
use Rattle.tree_cuts.specs.Cuts.{cut_count}
use Rattle.search_jobs.specs.Explorations.{ExplorationSeen, JobSeen, TicketSeen, program_in, nodes_of, nodes_of_all, findings_of}

-- how many nodes these are, and at how many of them the tree is cut
abbrev pub extent_of : ExplorationSeen → List Node → Extent
extent_of e nodes = record { nodes = length nodes; cut = cut_count (program_in e) e.depth (schedules_of nodes) }

-- what was found is what these nodes show, and so many they are
pub record IsDone (e : ExplorationSeen) (done : List Node) (findings : Findings) (extent : Extent) : Type 0 where
  pub found : findings ≡ findings_of e done
  pub counted : extent ≡ extent_of e done

-- all of them are jobs of the exploration
abbrev pub AreOf : ExplorationSeen → List JobSeen → Type 0
AreOf e jobs = AllByRecursion (λ job. job.exploration ≡ e) jobs

-- the nodes of a job are those that were visited, and then those of the jobs that are left
pub record IsPiece (e : ExplorationSeen) (name : Job) (findings : Findings) (extent : Extent) (rest : List JobSeen) : Type 0 where
  pub done : List Node
  pub is_done : IsDone e done findings extent
  pub made_up : nodes_of e name ≡ done ++ nodes_of_all e rest
  pub are_of : AreOf e rest

-- a piece of work, as contracts see it
pub record PieceSeen : Type 0 where
  pub ticket : TicketSeen
  pub exploration : ExplorationSeen
  pub findings : Findings
  pub extent : Extent
  pub rest : List JobSeen
