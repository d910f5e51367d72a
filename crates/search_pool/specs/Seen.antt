-- What contracts see of a pool.
use Rattle.std.specs.Prelude.{ℕ, List, ◌∷◌, ◌++◌, Option, Some, None, take, drop, map, option_map}
use Rattle.tree_coverage.specs.Findings.{Findings}
use Rattle.tree_coverage.specs.Jobs.{Job}
use Rattle.tree_findings.specs.declared.outcome.Cause.{Cause}
use Rattle.tree_findings.specs.declared.outcome.Cause.TheVariants.{NodeLimit, Memory}
use Rattle.tree_findings.specs.declared.extent.Extent.{Extent}
use Rattle.search_jobs.specs.Explorations.{ExplorationSeen, JobSeen, TicketSeen, names_of}
use Rattle.search_pool.specs.Machine.{Standing, Entry, Enters, Stops}
use Rattle.search_pool.specs.declared.entry.PoolEvent.{PoolEvent}
use Rattle.search_pool.specs.declared.entry.Stop.{Stop}

-- what is explored, the job that the pool began with, how many nodes may be visited, the state of the machine, what happened so far, and the stop, if there is one
pub record Seen : Type 0 where
  pub exploration : ExplorationSeen
  pub start : Job
  pub limit : ℕ
  pub standing : Standing
  pub events : List PoolEvent
  pub stop : Option Stop

-- the list of what happened, as entries of the machine
abbrev pub entries : List PoolEvent → List Entry
entries events = map (λ (event : PoolEvent). Enters event) events

-- the entries with a stop at its place; a stop at the limit of nodes is part of the piece that passed it
abbrev pub listed_by : List PoolEvent → Cause → ℕ → List Entry
listed_by events NodeLimit place = entries events
listed_by events Memory place = entries (take place events) ++ Stops ∷ entries (drop place events)

-- the list of a pool
abbrev pub listed : List PoolEvent → Option Stop → List Entry
listed events None = entries events
listed events (Some stop) = listed_by events stop.cause stop.place

-- why it stopped
abbrev pub cause_of : Option Stop → Option Cause
cause_of stop = option_map (λ (s : Stop). s.cause) stop

-- the state of the machine, by what is stored
abbrev pub standing_of : List JobSeen → List TicketSeen → Findings → Extent → ℕ → Option Stop → Standing
standing_of todo out findings extent taken stop = record { todo = names_of todo; out = out; findings = findings; extent = extent; taken = taken; cause = cause_of stop }

-- and the pool
abbrev pub seen_of : ExplorationSeen → Job → ℕ → List JobSeen → List TicketSeen → Findings → Extent → ℕ → List PoolEvent → Option Stop → Seen
seen_of e start limit todo out findings extent taken events stop = record { exploration = e; start = start; limit = limit; standing = standing_of todo out findings extent taken stop; events = events; stop = stop }
