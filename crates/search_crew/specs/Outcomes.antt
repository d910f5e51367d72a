-- What a search results in.
use Rattle.std.specs.Prelude.{◌≡◌, ◌≤◌, ◌<◌, ◌↔◌, ℕ, Bool, List, length, true}
use Rattle.world_model.specs.Names.{IsAmong}
use Rattle.world_model.specs.Shown.{Identity, is_error, is_refusal}
use Rattle.tree_coverage.specs.Findings.{Finding, Findings, IsFound, findings_of}
use Rattle.tree_coverage.specs.Jobs.{Job, job_node_count, root}
use Rattle.tree_coverage.specs.Shown.{IsShown, RunShows}
use Rattle.tree_findings.specs.declared.extent.Extent.{Extent}
use Rattle.tree_findings.specs.declared.outcome.Cause.TheVariants.{NodeLimit, Memory}
use Rattle.tree_findings.specs.declared.outcome.Outcome.{Outcome}
use Rattle.tree_findings.specs.declared.outcome.Outcome.TheVariants.{Complete, Incomplete}
use Rattle.search_pool.specs.Sums.{VisitsSome}
use Rattle.search_jobs.specs.Explorations as jobs
use Rattle.search_jobs.specs.Explorations.{ExplorationSeen, nodes_of, program_in}
use Rattle.search_jobs.specs.Meanings.{AreOfJob}
use Rattle.search_jobs.specs.Pieces.{extent_of}
use Rattle.tree_cuts.specs.Cuts.{IsEverShown, cuts_of}

-- a search of a job within a limit of nodes: complete, it found what the nodes of the job show, and counted them, which the limit allows, and those at which the tree is cut; it stopped at the limit only where the nodes are more, and what it lists then, or where memory ran out, is what the visited nodes show, each with the schedule of a node of the job
abbrev pub IsOutcomeOf : ExplorationSeen → Job → ℕ → Outcome → Type 0
IsOutcomeOf e name limit (Complete findings extent) = (findings ≡ jobs.findings_of e (nodes_of e name)) × (extent ≡ extent_of e (nodes_of e name)) × (extent.nodes ≤ limit)
IsOutcomeOf e name limit (Incomplete NodeLimit findings) = (limit < length (nodes_of e name)) × AreOfJob e name findings × VisitsSome e name limit NodeLimit findings
IsOutcomeOf e name limit (Incomplete Memory findings) = AreOfJob e name findings × VisitsSome e name limit Memory findings

-- ---- of the whole tree

-- what all nodes of the tree show, how many they are, and at how many of them it is cut
abbrev pub all_findings : ExplorationSeen → Findings
all_findings e = findings_of e.flags (program_in e) e.depth

abbrev pub all_nodes : ExplorationSeen → ℕ
all_nodes e = job_node_count (program_in e) e.depth root

abbrev pub whole_extent : ExplorationSeen → Extent
whole_extent e = record { nodes = all_nodes e; cut = cuts_of (program_in e) e.depth }

-- each finding is of the kind, and is shown by its schedule, which is not too long
abbrev pub AreShown : (Identity → Bool) → ExplorationSeen → List Finding → Type 0
AreShown is_of_kind e found = (f : Finding) → IsAmong f found → (is_of_kind f.identity ≡ true) × (length f.schedule ≤ e.depth) × RunShows (program_in e) f.schedule f.identity

abbrev pub AllAreShown : ExplorationSeen → Findings → Type 0
AllAreShown e findings = AreShown (is_error e.flags) e findings.errors × AreShown is_refusal e findings.refusals

-- a search of the tree within a limit of nodes: complete, it found what the nodes show, and counted them, which the limit allows, and those at which the tree is cut; it stopped at the limit only where the nodes are more, and what it lists then, or where memory ran out, is what the visited nodes show
abbrev pub IsOutcome : ExplorationSeen → ℕ → Outcome → Type 0
IsOutcome e limit (Complete findings extent) = (findings ≡ all_findings e) × (extent ≡ whole_extent e) × (extent.nodes ≤ limit)
IsOutcome e limit (Incomplete NodeLimit findings) = (limit < all_nodes e) × AllAreShown e findings × VisitsSome e root limit NodeLimit findings
IsOutcome e limit (Incomplete Memory findings) = AllAreShown e findings × VisitsSome e root limit Memory findings

-- an error is listed exactly where some schedule shows it of at most so many steps, and a refusal
pub record IsListedOf (e : ExplorationSeen) (findings : Findings) (i : Identity) : Type 0 where
  pub errors : IsFound i findings.errors ↔ ((is_error e.flags i ≡ true) × IsShown (program_in e) e.depth i)
  pub refusals : IsFound i findings.refusals ↔ ((is_refusal i ≡ true) × IsShown (program_in e) e.depth i)

-- what a complete search lists, no more and no less
abbrev pub IsExact : ExplorationSeen → Outcome → Type 0
IsExact e (Complete findings extent) = (i : Identity) → IsListedOf e findings i
IsExact e (Incomplete cause findings) = Unit {0}

-- an error is listed exactly where some schedule shows it, of whatever length, and a refusal
pub record IsListedOfAll (e : ExplorationSeen) (findings : Findings) (i : Identity) : Type 0 where
  pub errors : IsFound i findings.errors ↔ ((is_error e.flags i ≡ true) × IsEverShown (program_in e) i)
  pub refusals : IsFound i findings.refusals ↔ ((is_refusal i ≡ true) × IsEverShown (program_in e) i)

-- what a complete search lists of all schedules, where the tree is cut at no node
abbrev pub IsWhole : ExplorationSeen → Outcome → Type 0
IsWhole e (Complete findings extent) = extent.cut ≡ 0 → (i : Identity) → IsListedOfAll e findings i
IsWhole e (Incomplete cause findings) = Unit {0}
