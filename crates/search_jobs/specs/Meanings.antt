-- What the findings of a piece mean.
use Rattle.std.specs.Prelude.{◌≡◌, Bool, true, List}
use Rattle.world_model.specs.Names.{IsAmong}
use Rattle.world_model.specs.Shown.{Identity, is_error, is_refusal}
use Rattle.tree_coverage.specs.Findings.{Finding, Findings}
use Rattle.tree_coverage.specs.Jobs.{Job, schedules_of}
use Rattle.tree_coverage.specs.Shown.{RunShows}
use Rattle.search_jobs.specs.Explorations.{ExplorationSeen, program_in, nodes_of}

-- each is of the kind, its schedule is that of a node of the job, and shows it
abbrev pub AreShown : (Identity → Bool) → ExplorationSeen → Job → List Finding → Type 0
AreShown is_of_kind e name found = (f : Finding) → IsAmong f found → (is_of_kind f.identity ≡ true) × IsAmong f.schedule (schedules_of (nodes_of e name)) × RunShows (program_in e) f.schedule f.identity

-- errors and refusals
abbrev pub AreOfJob : ExplorationSeen → Job → Findings → Type 0
AreOfJob e name findings = AreShown (is_error e.flags) e name findings.errors × AreShown is_refusal e name findings.refusals
