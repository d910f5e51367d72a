-- Worked rows: first lines of reports, of nodes and of states.
use Rattle.std.specs.Prelude.{◌≡◌, codes}
use Rattle.tree_coverage.specs.Findings.{Findings}
use Rattle.tree_findings.specs.declared.extent.Extent.{Extent}
use Rattle.tree_findings.specs.declared.outcome.Cause.TheVariants.{NodeLimit, Memory}
use Rattle.tree_findings.specs.declared.outcome.Outcome.TheVariants.{Complete, Incomplete}
use Rattle.tree_schedules.specs.declared.delivery.Delivery.TheVariants.{AnyTime, AtOnce}
use Rattle.report_text.specs.declared.visited.Visited.TheVariants.{Nodes, States}
use Rattle.report_text.specs.ReportText.{explained_first_line_by, first_line_by}

abbrev pub twelve : Extent
twelve = record { nodes = 12; cut = 3 }

-- all nodes were visited
abbrev pub NodesAreCounted : Type 0
NodesAreCounted = (findings : Findings) → first_line_by Nodes 9 (Complete findings twelve) ≡ codes "depth 9, nodes 12, complete\n"

-- all states were visited: the line says nothing of a depth that was reached
abbrev pub StatesAreCounted : Type 0
StatesAreCounted = (findings : Findings) → first_line_by (States AnyTime 5) 9 (Complete findings twelve) ≡ codes "depth 9, states 12, complete\n"

-- the search of states stopped at its limit, or where memory ran out, when all schedules of at most 5 steps were followed
abbrev pub StateLimitIsTold : Type 0
StateLimitIsTold = (findings : Findings) → first_line_by (States AnyTime 5) 9 (Incomplete NodeLimit findings) ≡ codes "depth 9, incomplete: state limit; all schedules to depth 5\n"

abbrev pub StatesTakeMemory : Type 0
StatesTakeMemory = (findings : Findings) → first_line_by (States AnyTime 5) 9 (Incomplete Memory findings) ≡ codes "depth 9, incomplete: memory; all schedules to depth 5\n"

-- explained, the line says at how many states the depth cuts off what could follow, and of a stop the same
abbrev pub CutStatesAreCounted : Type 0
CutStatesAreCounted = (findings : Findings) → explained_first_line_by (States AnyTime 5) 9 (Complete findings twelve) ≡ codes "depth 9, states 12, complete, cut 3\n"

abbrev pub StopIsToldAlike : Type 0
StopIsToldAlike = (findings : Findings) → explained_first_line_by (States AnyTime 5) 9 (Incomplete NodeLimit findings) ≡ codes "depth 9, incomplete: state limit; all schedules to depth 5\n"

-- ---- signals are delivered at once

-- all states were visited: the line says nothing of when signals are delivered
abbrev pub PromptStatesAreCounted : Type 0
PromptStatesAreCounted = (findings : Findings) → first_line_by (States AtOnce 5) 9 (Complete findings twelve) ≡ codes "depth 9, states 12, complete\n"

-- the search stopped at its limit, when all prompt schedules of at most 5 steps were followed
abbrev pub PromptStopIsTold : Type 0
PromptStopIsTold = (findings : Findings) → first_line_by (States AtOnce 5) 9 (Incomplete NodeLimit findings) ≡ codes "depth 9, incomplete: state limit; all prompt schedules to depth 5\n"

-- explained, the line says the same of it
abbrev pub PromptStopIsToldAlike : Type 0
PromptStopIsToldAlike = (findings : Findings) → explained_first_line_by (States AtOnce 5) 9 (Incomplete NodeLimit findings) ≡ codes "depth 9, incomplete: state limit; all prompt schedules to depth 5\n"
