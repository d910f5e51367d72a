-- What is done, open and out adds up to the job that the pool began with.
use Rattle.std.specs.List.Sorted.{IsPermutation}
use Rattle.std.specs.Prelude.{◌≡◌, ◌≤◌, ◌<◌, ℕ, List, ◌++◌, Some, None, length, map}
use Rattle.tree_coverage.specs.Findings.{Findings}
use Rattle.tree_coverage.specs.Jobs.{Job, Node}
use Rattle.tree_findings.specs.Merging.{merged_findings}
use Rattle.tree_findings.specs.declared.outcome.Cause.{Cause}
use Rattle.tree_findings.specs.declared.outcome.Cause.TheVariants.{NodeLimit}
use Rattle.search_jobs.specs.Explorations.{ExplorationSeen, TicketSeen, nodes_of, findings_of}
use Rattle.search_jobs.specs.Meanings.{AreOfJob}
use Rattle.search_jobs.specs.Pieces.{IsDone, extent_of}
use Rattle.search_pool.specs.Explorations.{nodes_of_jobs}
use Rattle.search_pool.specs.Machine.{Standing, Entry, IsLegal, sum_of}

-- the jobs that are out
abbrev pub names_out : List TicketSeen → List Job
names_out tickets = map (λ (ticket : TicketSeen). ticket.name) tickets

-- the jobs that are not done: those that are open, and those that are out
abbrev pub jobs_left : Standing → List Job
jobs_left s = s.todo ++ names_out s.out

-- and their nodes
abbrev pub nodes_left : ExplorationSeen → Standing → List Node
nodes_left e s = nodes_of_jobs e (jobs_left s)

-- the nodes of the first job are, in some order, those that were visited and those of the jobs that are left; the limit is the cause only above it, and above it there is a cause
pub record AddsUp (e : ExplorationSeen) (start : Job) (limit : ℕ) (s : Standing) : Type 0 where
  pub visited : List Node
  pub is_done : IsDone e visited s.findings s.extent
  pub made_up : IsPermutation (nodes_of e start) (visited ++ nodes_left e s)
  pub limited : s.cause ≡ Some NodeLimit → limit < s.extent.nodes
  pub within : s.cause ≡ None → s.extent.nodes ≤ limit

-- so what was found and what the jobs that are left show is what the first job shows, their nodes are as many as it has, the tree is cut at as many of them, and each finding is shown by a node of it with its schedule
pub record SumsUp (e : ExplorationSeen) (start : Job) (s : Standing) : Type 0 where
  pub found : findings_of e (nodes_of e start) ≡ merged_findings s.findings (findings_of e (nodes_left e s))
  pub counted : extent_of e (nodes_of e start) ≡ sum_of s.extent (extent_of e (nodes_left e s))
  pub shown : AreOfJob e start s.findings

-- where it was stopped: some nodes of the first job were visited, each once, and what was found is what these show, each identity once, in order, with the least of their schedules; at the limit more were visited than it
pub record VisitsSome (e : ExplorationSeen) (start : Job) (limit : ℕ) (why : Cause) (findings : Findings) : Type 0 where
  pub visited : List Node
  pub left : List Node
  pub made_up : IsPermutation (nodes_of e start) (visited ++ left)
  pub found : findings ≡ findings_of e visited
  pub beyond : why ≡ NodeLimit → limit < length visited

-- ---- laws

-- wherever a legal list leads
abbrev pub LegalAddsUp : Type 0
LegalAddsUp = (e : ExplorationSeen) (start : Job) (limit : ℕ) (entries : List Entry) (s : Standing) → IsLegal e start limit entries s → AddsUp e start limit s

-- and sums up
abbrev pub LegalSumsUp : Type 0
LegalSumsUp = (e : ExplorationSeen) (start : Job) (limit : ℕ) (entries : List Entry) (s : Standing) → IsLegal e start limit entries s → SumsUp e start s
