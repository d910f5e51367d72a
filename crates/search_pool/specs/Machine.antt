-- The pool of open jobs as a machine: its states, how one follows another, and which lists of entries are legal.
use Rattle.std.specs.Prelude.{◌≡◌, ℕ, ◌+◌, List, [], ◌∷◌, ◌++◌, Option, Some, None, if◌then◌else◌, nat_lt, reverse}
use Rattle.tree_coverage.specs.Findings.{Findings}
use Rattle.tree_coverage.specs.Jobs.{Job, Node}
use Rattle.tree_findings.specs.Merging.{merged_findings, nothing}
use Rattle.tree_findings.specs.declared.outcome.Cause.{Cause}
use Rattle.tree_findings.specs.declared.outcome.Cause.TheVariants.{NodeLimit, Memory}
use Rattle.tree_findings.specs.declared.extent.Extent.{Extent}
use Rattle.search_jobs.specs.Explorations.{ExplorationSeen, TicketSeen, nodes_of}
use Rattle.search_jobs.specs.Pieces.{IsDone}
use Rattle.search_pool.specs.Explorations.{nodes_of_jobs}
use Rattle.search_pool.specs.declared.entry.PoolEvent.{PoolEvent}
use Rattle.search_pool.specs.declared.entry.PoolEvent.TheVariants.{Took, Gave}

-- a state: the jobs that are open, the last of which is on top, and those that are out; what the nodes that were visited show, how many they are and at how many of them the tree is cut; how many jobs were handed out; why no more are
pub record Standing : Type 0 where
  pub todo : List Job
  pub out : List TicketSeen
  pub findings : Findings
  pub extent : Extent
  pub taken : ℕ
  pub cause : Option Cause

-- an entry of a list: a job was handed out or a piece came back, or there was no memory
pub data Entry : Type 0 where
  Enters : PoolEvent → Entry
  Stops : Entry

-- at the beginning one job is open, and nothing was done
abbrev pub opening : Job → Standing
opening start = record { todo = start ∷ []; out = []; findings = nothing; extent = record { nodes = 0; cut = 0 }; taken = 0; cause = None }

-- ---- a job is handed out

-- the state after it, with the jobs that are still open
abbrev pub after_take : Standing → TicketSeen → List Job → Standing
after_take s ticket open_ = record { todo = open_; out = s.out ++ ticket ∷ []; findings = s.findings; extent = s.extent; taken = s.taken + 1; cause = s.cause }

-- any open job goes out under the next number, not after a stop
pub record Takes (s : Standing) (ticket : TicketSeen) (t : Standing) : Type 0 where
  pub front : List Job
  pub back : List Job
  pub goes_on : s.cause ≡ None
  pub is_open : s.todo ≡ front ++ ticket.name ∷ back
  pub is_next : ticket.number ≡ s.taken + 1
  pub leaves : t ≡ after_take s ticket (front ++ back)

-- ---- its piece comes back

-- the nodes of a job are those that were visited, which show what was found, and then those of the jobs that are left
pub record MakesUp (e : ExplorationSeen) (name : Job) (findings : Findings) (extent : Extent) (rest : List Job) : Type 0 where
  pub visited : List Node
  pub is_done : IsDone e visited findings extent
  pub made_up : nodes_of e name ≡ visited ++ nodes_of_jobs e rest

-- how many nodes two lists have together, and at how many of them the tree is cut
abbrev pub sum_of : Extent → Extent → Extent
sum_of x y = record { nodes = x.nodes + y.nodes; cut = x.cut + y.cut }

-- above the limit of nodes there is a cause; the first one stays
abbrev pub cause_after : ℕ → ℕ → Option Cause → Option Cause
cause_after limit nodes None = if nat_lt limit nodes then Some NodeLimit else None
cause_after limit nodes (Some cause) = Some cause

-- the state after it, with the tickets that are still out: the first of the jobs that are left is on top
abbrev pub after_give : ℕ → Standing → List TicketSeen → Findings → Extent → List Job → Standing
after_give limit s out findings extent rest = record {
  todo = s.todo ++ reverse rest;
  out = out;
  findings = merged_findings s.findings findings;
  extent = sum_of s.extent extent;
  taken = s.taken;
  cause = cause_after limit (s.extent.nodes + extent.nodes) s.cause;
}

-- the job of any ticket that is out was expanded: what is done of it is added, and what is left of it is open
pub record Gives (e : ExplorationSeen) (limit : ℕ) (s : Standing) (ticket : TicketSeen) (t : Standing) : Type 0 where
  pub front : List TicketSeen
  pub back : List TicketSeen
  pub findings : Findings
  pub extent : Extent
  pub rest : List Job
  pub is_out : s.out ≡ front ++ ticket ∷ back
  pub made_up : MakesUp e ticket.name findings extent rest
  pub leaves : t ≡ after_give limit s (front ++ back) findings extent rest

-- ---- there is no memory

-- the state after it: only the cause is different
abbrev pub stopped : Standing → Standing
stopped s = record { todo = s.todo; out = s.out; findings = s.findings; extent = s.extent; taken = s.taken; cause = Some Memory }

-- ---- lists of entries

-- an entry names its ticket by the number
abbrev pub EntersBy : ExplorationSeen → ℕ → Standing → PoolEvent → Standing → Type 0
EntersBy e limit s (Took number) t = (ticket : TicketSeen) × (ticket.number ≡ number) × Takes s ticket t
EntersBy e limit s (Gave number) t = (ticket : TicketSeen) × (ticket.number ≡ number) × Gives e limit s ticket t

-- it stops where nothing stopped it before
abbrev pub StepsBy : ExplorationSeen → ℕ → Standing → Entry → Standing → Type 0
StepsBy e limit s (Enters event) t = EntersBy e limit s event t
StepsBy e limit s Stops t = (s.cause ≡ None) × (t ≡ stopped s)

-- the entries lead from one state to another
abbrev pub Leads : ExplorationSeen → ℕ → Standing → List Entry → Standing → Type 0
Leads e limit s [] t = t ≡ s
Leads e limit s (x ∷ xs) t = (m : Standing) × StepsBy e limit s x m × Leads e limit m xs t

-- a legal list leads there from the beginning with this job
abbrev pub IsLegal : ExplorationSeen → Job → ℕ → List Entry → Standing → Type 0
IsLegal e start limit entries s = Leads e limit (opening start) entries s
