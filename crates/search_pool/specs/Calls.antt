-- What the calls of a pool do.
use Rattle.std.specs.List.{Contains}
use Rattle.std.specs.Prelude.{◌≡◌, ◌≢◌, ℕ, ◌+◌, List, [], ◌∷◌, ◌++◌, ◌<◌, ◌≤◌, Option, Some, None, length, if◌then◌else◌, nat_lt}
use Rattle.tree_coverage.specs.Jobs.{Job}
use Rattle.tree_findings.specs.declared.outcome.Cause.TheVariants.{NodeLimit}
use Rattle.tree_findings.specs.declared.outcome.Cause.TheVariants as cause
use Rattle.tree_findings.specs.declared.outcome.Outcome.{Outcome}
use Rattle.tree_findings.specs.declared.outcome.Outcome.TheVariants.{Complete, Incomplete}
use Rattle.search_jobs.specs.Explorations.{ExplorationSeen, JobSeen, TicketSeen, program_in, names_of, nodes_of, findings_of}
use Rattle.search_jobs.specs.Meanings.{AreOfJob}
use Rattle.search_jobs.specs.Pieces.{PieceSeen, extent_of}
use Rattle.world_model.specs.Requests.{Program}
use Rattle.search_pool.specs.Explorations.{AreOne, IsJobOf}
use Rattle.search_pool.specs.Machine.{Standing, Takes, after_give, opening, stopped}
use Rattle.search_pool.specs.Seen.{Seen, cause_of}
use Rattle.search_pool.specs.Sums.{VisitsSome}
use Rattle.search_pool.specs.declared.answer.GiveFault.{GiveFault}
use Rattle.search_pool.specs.declared.answer.GiveFault.TheVariants.{StrangeTicket, StrangePiece}
use Rattle.search_pool.specs.declared.answer.GiveFault.TheVariants as refused
use Rattle.search_pool.specs.declared.answer.Taken.{Taken}
use Rattle.search_pool.specs.declared.answer.Taken.TheVariants.{Work, Idle, Finished, Stopped}
use Rattle.search_pool.specs.declared.answer.Wake.{Wake}
use Rattle.search_pool.specs.declared.answer.Wake.TheVariants.{Everybody, Nobody}
use Rattle.search_pool.specs.declared.entry.PoolEvent.TheVariants.{Took, Gave}
use Rattle.search_pool.specs.declared.entry.Stop.{Stop}

-- a pool at its beginning with a job
abbrev pub opened : ExplorationSeen → Job → ℕ → Seen
opened e start limit = record { exploration = e; start = start; limit = limit; standing = opening start; events = []; stop = None }

-- ---- take

-- a job is handed out with its ticket, and that is entered
pub record HandsOut (s : Seen) (ticket : TicketSeen) (job : JobSeen) (t : Seen) : Type 0 where
  pub takes : Takes s.standing ticket t.standing
  pub is_job : IsJobOf s.exploration ticket job
  pub leaves : t ≡ record { exploration = s.exploration; start = s.start; limit = s.limit; standing = t.standing; events = s.events ++ Took ticket.number ∷ []; stop = s.stop }

-- no job is open, some are out, and nothing has stopped it
abbrev pub IsIdle : Seen → Type 0
IsIdle s = (s.stop ≡ None) × (s.standing.todo ≡ []) × (s.standing.out ≢ [])

-- what a take answers and leaves
abbrev pub TakesTo : Seen → Taken → Seen → Type 0
TakesTo s (Work ticket job) t = HandsOut s ticket job t
TakesTo s Idle t = (t ≡ s) × IsIdle s
TakesTo s Finished t = (t ≡ s) × (s.stop ≡ None) × (s.standing.todo ≡ []) × (s.standing.out ≡ [])
TakesTo s Stopped t = (t ≡ s) × (s.stop ≢ None)

-- how many entries it makes
abbrev pub entries_in : Taken → ℕ
entries_in (Work ticket job) = 1
entries_in Idle = 0
entries_in Finished = 0
entries_in Stopped = 0

-- what is handed out is the job that its ticket names; tickets are numbered from 1
abbrev pub IsOfItsTicket : Taken → Type 0
IsOfItsTicket (Work ticket job) = (1 ≤ ticket.number) × IsJobOf job.exploration ticket job
IsOfItsTicket Idle = Unit {0}
IsOfItsTicket Finished = Unit {0}
IsOfItsTicket Stopped = Unit {0}

-- what is handed out is a job of the program
abbrev pub IsOfProgram : Program → Taken → Type 0
IsOfProgram a (Work ticket job) = program_in job.exploration ≡ a
IsOfProgram a Idle = Unit {0}
IsOfProgram a Finished = Unit {0}
IsOfProgram a Stopped = Unit {0}

-- ---- stop

-- the first cause stays
abbrev pub memory_stop : ℕ → Option Stop → Option Stop
memory_stop place None = Some (record { cause = cause.Memory; place = place })
memory_stop place (Some stop) = Some stop

abbrev pub stopped_by : Standing → Option Stop → Standing
stopped_by s None = stopped s
stopped_by s (Some stop) = s

-- what a stop for lack of memory leaves
abbrev pub stopped_seen : Seen → Seen
stopped_seen s = record { exploration = s.exploration; start = s.start; limit = s.limit; standing = stopped_by s.standing s.stop; events = s.events; stop = memory_stop (length s.events) s.stop }

-- ---- give

-- a piece of the ticket's job and of the exploration
abbrev pub IsFor : ExplorationSeen → TicketSeen → PieceSeen → Type 0
IsFor e ticket piece = (piece.ticket ≡ ticket) × AreOne piece.exploration e

-- the stop after a give: above the limit of nodes there is one
abbrev pub stop_after : ℕ → ℕ → ℕ → Option Stop → Option Stop
stop_after limit nodes place None = if nat_lt limit nodes then Some (record { cause = NodeLimit; place = place }) else None
stop_after limit nodes place (Some stop) = Some stop

-- a piece is accepted, and that is entered
pub record Accepts (s : Seen) (ticket : TicketSeen) (piece : PieceSeen) (t : Seen) : Type 0 where
  pub front : List TicketSeen
  pub back : List TicketSeen
  pub is_out : s.standing.out ≡ front ++ ticket ∷ back
  pub is_for : IsFor s.exploration ticket piece
  pub leaves : t ≡ record {
    exploration = s.exploration;
    start = s.start;
    limit = s.limit;
    standing = after_give s.limit s.standing (front ++ back) piece.findings piece.extent (names_of piece.rest);
    events = s.events ++ Gave ticket.number ∷ [];
    stop = stop_after s.limit (s.standing.extent.nodes + piece.extent.nodes) (length s.events + 1) s.stop;
  }

-- what a refused give leaves, and hands back
abbrev pub RefusesTo : Seen → TicketSeen → PieceSeen → GiveFault → Seen → Type 0
RefusesTo s ticket piece (StrangeTicket back) t = (t ≡ s) × (back ≡ piece) × (Contains s.standing.out ticket → ⊥)
RefusesTo s ticket piece (StrangePiece back) t = (t ≡ s) × (back ≡ piece) × Contains s.standing.out ticket × (IsFor s.exploration ticket piece → ⊥)
RefusesTo s ticket piece refused.Memory t = (t ≡ stopped_seen s) × Contains s.standing.out ticket × IsFor s.exploration ticket piece

-- a give wakes those who wait exactly where the pool was idle, as they wait for, and no longer is
abbrev pub WakesTo : Seen → Wake → Seen → Type 0
WakesTo s Everybody t = IsIdle s × (IsIdle t → ⊥)
WakesTo s Nobody t = IsIdle s → IsIdle t

-- a piece that is refused comes back
abbrev pub HandsBack : PieceSeen → GiveFault → Type 0
HandsBack piece (StrangeTicket back) = back ≡ piece
HandsBack piece (StrangePiece back) = back ≡ piece
HandsBack piece refused.Memory = Unit {0}

-- ---- finish

-- nothing is open or out, or there is a stop
abbrev pub IsDone : Seen → Type 0
IsDone s = s.stop ≡ None → (s.standing.todo ≡ []) × (s.standing.out ≡ [])

-- the pool explores this, began with this job, and has this limit of nodes
abbrev pub IsOwn : Seen → ExplorationSeen → Job → ℕ → Type 0
IsOwn s e start limit = AreOne s.exploration e × (s.start ≡ start) × (s.limit ≡ limit)

-- what it results in: all that the first job shows, how many nodes it has, and at how many of them the tree is cut; or why it stopped, and what was found by then, which is what the visited nodes show
abbrev pub ComesTo : Seen → Outcome → Type 0
ComesTo s (Complete findings extent) = (s.stop ≡ None) × (findings ≡ findings_of s.exploration (nodes_of s.exploration s.start)) × (extent ≡ extent_of s.exploration (nodes_of s.exploration s.start)) × (extent.nodes ≤ s.limit)
ComesTo s (Incomplete why findings) =
    (cause_of s.stop ≡ Some why) × (findings ≡ s.standing.findings) × AreOfJob s.exploration s.start findings × (why ≡ NodeLimit → s.limit < length (nodes_of s.exploration s.start)) × VisitsSome s.exploration s.start s.limit why findings
