-- What holds of the fields of a pool.
use Rattle.std.specs.Prelude.{ℕ, ◌*◌, ◌^◌, ◌<◌, ◌≤◌, List, Option, Some, None, length, slice_index_or}
use Rattle.tree_coverage.specs.Findings.{Findings}
use Rattle.tree_coverage.specs.Jobs.{Job}
use Rattle.tree_findings.specs.declared.extent.Extent.{Extent}
use Rattle.search_jobs.specs.Explorations.{ExplorationSeen, JobSeen, TicketSeen}
use Rattle.search_pool.specs.Explorations.{AreJobsOf}
use Rattle.search_pool.specs.Machine.{IsLegal}
use Rattle.search_pool.specs.Seen.{listed, standing_of}
use Rattle.search_pool.specs.declared.entry.PoolEvent.{PoolEvent}
use Rattle.search_pool.specs.declared.entry.Stop.{Stop}

-- a stop is not after the end of the list
abbrev pub IsPlaced : List PoolEvent → Option Stop → Type 0
IsPlaced events None = Unit {0}
IsPlaced events (Some stop) = stop.place ≤ length events

-- each number is less than those of the tickets after it
abbrev pub AreRising : List TicketSeen → Type 0
AreRising out = (i j : ℕ) (d : TicketSeen) → i < j → j < length out → (slice_index_or out i d).number < (slice_index_or out j d).number

-- none is more than this
abbrev pub AreAtMost : ℕ → List TicketSeen → Type 0
AreAtMost taken out = (i : ℕ) (d : TicketSeen) → i < length out → (slice_index_or out i d).number ≤ taken

-- the list is legal and leads there; each open job is of the exploration; the tickets that are out are in their order; and the counts fit
pub record IsFrontier (e : ExplorationSeen) (start : Job) (limit : ℕ) (todo : List JobSeen) (out : List TicketSeen) (findings : Findings) (extent : Extent) (taken : ℕ) (events : List PoolEvent) (stop : Option Stop) : Type 0 where
  pub legal : IsLegal e start limit (listed events stop) (standing_of todo out findings extent taken stop)
  pub placed : IsPlaced events stop
  pub carried : AreJobsOf e todo
  pub rising : AreRising out
  pub given : AreAtMost taken out
  pub bounded : extent.nodes ≤ 2 ^ 64 * length events
  pub numbered : taken ≤ length events
