-- Worked rows: last lines of explained reports, of all schedules and of those that deliver signals at once.
use Rattle.std.specs.Prelude.{◌≡◌, [], ◌∷◌, codes}
use Rattle.world_model.specs.Names.{Pid}
use Rattle.world_model.specs.Shown.{Runaway}
use Rattle.tree_coverage.specs.Findings.{Findings}
use Rattle.tree_excuses.specs.Excuses.{Excuses}
use Rattle.tree_findings.specs.declared.extent.Extent.{Extent}
use Rattle.tree_findings.specs.declared.outcome.Outcome.TheVariants.{Complete}
use Rattle.tree_schedules.specs.declared.delivery.Delivery.TheVariants.{AnyTime, AtOnce}
use Rattle.report_text.specs.declared.visited.Visited.TheVariants.{Nodes, States}
use Rattle.report_text.specs.FirstLines.{twelve}
use Rattle.report_text.specs.ReportText.{explained_last_line}

-- the depth cuts off nothing
abbrev pub uncut : Extent
uncut = record { nodes = 12; cut = 0 }

abbrev pub nothing_found : Findings
nothing_found = record { errors = []; refusals = [] }

-- a process that runs away is never excused
abbrev pub runaway_found : Pid → Findings
runaway_found p = record { errors = record { identity = Runaway p; schedule = [] } ∷ []; refusals = [] }

-- of nodes, and of states at any time
abbrev pub TreeIsOfAll : Type 0
TreeIsOfAll = (x : Excuses) → explained_last_line Nodes 9 x (Complete nothing_found uncut) ≡ codes "result: clean, all schedules\n"

abbrev pub StatesAreOfAll : Type 0
StatesAreOfAll = (x : Excuses) → explained_last_line (States AnyTime 9) 9 x (Complete nothing_found uncut) ≡ codes "result: clean, all schedules\n"

abbrev pub ErrorsAreOfAll : Type 0
ErrorsAreOfAll = (x : Excuses) (p : Pid) → explained_last_line (States AnyTime 9) 9 x (Complete (runaway_found p) uncut) ≡ codes "result: errors, all schedules\n"

-- of states at once
abbrev pub StatesAreOfPrompt : Type 0
StatesAreOfPrompt = (x : Excuses) → explained_last_line (States AtOnce 9) 9 x (Complete nothing_found uncut) ≡ codes "result: clean, all prompt schedules\n"

abbrev pub ErrorsAreOfPrompt : Type 0
ErrorsAreOfPrompt = (x : Excuses) (p : Pid) → explained_last_line (States AtOnce 9) 9 x (Complete (runaway_found p) uncut) ≡ codes "result: errors, all prompt schedules\n"

-- which the depth cuts off
abbrev pub CutIsToDepth : Type 0
CutIsToDepth = (x : Excuses) → explained_last_line (States AtOnce 9) 9 x (Complete nothing_found twelve) ≡ codes "result: clean to depth 9\n"
