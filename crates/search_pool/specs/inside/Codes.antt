-- The codes of pools, by which proofs distinguish values.
use Rattle.std.specs.Prelude.{◌≡◌, ◌⊎◌, ℕ, List, Option, refl}
use Rattle.std.specs.Coded.{Coded, code_by, coded×, coded⊎, coded_list, coded_option, coded_ℕ}
use mathlib.Core.Logic.{inl, inr}
use Rattle.tree_coverage.specs.Findings.{Findings}
use Rattle.tree_coverage.specs.Jobs.{Job}
use Rattle.tree_findings.specs.contracts.extent.Extent as extents
use Rattle.tree_findings.specs.contracts.outcome.Cause as causes
use Rattle.tree_findings.specs.declared.extent.Extent.{Extent}
use Rattle.tree_findings.specs.declared.outcome.Cause.{Cause}
use Rattle.tree_findings.specs.inside.FindingCodes.{coded_findings}
use Rattle.search_jobs.specs.Explorations.{ExplorationSeen, TicketSeen}
use Rattle.search_jobs.specs.inside.Codes.{coded_exploration, coded_name, coded_ticket}
use Rattle.search_pool.specs.Machine.{Standing}
use Rattle.search_pool.specs.Seen.{Seen}
use Rattle.search_pool.specs.declared.entry.PoolEvent.{PoolEvent}
use Rattle.search_pool.specs.declared.entry.PoolEvent.TheVariants.{Took, Gave}
use Rattle.search_pool.specs.declared.entry.Stop.{Stop}

abbrev number_of : PoolEvent → ℕ ⊎ ℕ
number_of (Took number) = inl number
number_of (Gave number) = inr number

abbrev event_of : ℕ ⊎ ℕ → PoolEvent
event_of (inl number) = Took number
event_of (inr number) = Gave number

pub event_of-number_of : (event : PoolEvent) → event_of (number_of event) ≡ event
event_of-number_of (Took number) = refl
event_of-number_of (Gave number) = refl

abbrev coded_event : Coded PoolEvent
coded_event = code_by (ℕ ⊎ ℕ) (coded⊎ coded_ℕ coded_ℕ) number_of event_of event_of-number_of

abbrev coded_stop : Coded Stop
coded_stop = code_by (Cause × ℕ) (coded× causes.the_row.coded coded_ℕ) (λ s. (s.cause, s.place)) (λ p. record { cause = p.0; place = p.1 }) (λ _. refl)

abbrev StandingParts : Type 0
StandingParts = List Job × (List TicketSeen × (Findings × (Extent × (ℕ × Option Cause))))

abbrev pub coded_standing : Coded Standing
coded_standing =
    code_by StandingParts (coded× (coded_list coded_name) (coded× (coded_list coded_ticket) (coded× coded_findings (coded× extents.the_row.coded (coded× coded_ℕ (coded_option causes.the_row.coded))))))
    (λ s. (s.todo, (s.out, (s.findings, (s.extent, (s.taken, s.cause))))))
    (λ p. record { todo = p.0; out = p.1.0; findings = p.1.1.0; extent = p.1.1.1.0; taken = p.1.1.1.1.0; cause = p.1.1.1.1.1 })
    (λ _. refl)

abbrev SeenParts : Type 0
SeenParts = ExplorationSeen × (Job × (ℕ × (Standing × (List PoolEvent × Option Stop))))

abbrev pub coded_seen : Coded Seen
coded_seen =
    code_by SeenParts (coded× coded_exploration (coded× coded_name (coded× coded_ℕ (coded× coded_standing (coded× (coded_list coded_event) (coded_option coded_stop))))))
    (λ s. (s.exploration, (s.start, (s.limit, (s.standing, (s.events, s.stop))))))
    (λ p. record { exploration = p.0; start = p.1.0; limit = p.1.1.0; standing = p.1.1.1.0; events = p.1.1.1.1.0; stop = p.1.1.1.1.1 })
    (λ _. refl)
