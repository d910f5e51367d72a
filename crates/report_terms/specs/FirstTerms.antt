-- Worked rows: first lines, of the tree, of states, and of random schedules.
use Rattle.std.specs.Prelude.{◌≡◌, codes}
use Rattle.tree_coverage.specs.Findings.{Findings}
use Rattle.tree_findings.specs.declared.outcome.Cause.TheVariants.{NodeLimit, Memory}
use Rattle.tree_findings.specs.declared.outcome.Outcome.TheVariants.{Complete, Incomplete}
use Rattle.tree_schedules.specs.declared.delivery.Delivery.TheVariants.{AnyTime, AtOnce}
use Rattle.report_text.specs.declared.visited.Visited.TheVariants.{Nodes, States}
use Rattle.report_text.specs.FirstLines.{twelve}
use Rattle.report_text.specs.SampleLines.{hundred}
use Rattle.report_terms.specs.TermsReport.{explored_line, sampled_line}

-- all nodes were visited, or all states
abbrev pub NodesAreTold : Type 0
NodesAreTold = (findings : Findings) → explored_line Nodes 9 (Complete findings twelve) ≡ codes "{explored,9,any_time,{nodes,12,3}}.\n"

abbrev pub StatesAreTold : Type 0
StatesAreTold = (findings : Findings) → explored_line (States AnyTime 5) 9 (Complete findings twelve) ≡ codes "{explored,9,any_time,{states,12,3}}.\n"

abbrev pub PromptStatesAreTold : Type 0
PromptStatesAreTold = (findings : Findings) → explored_line (States AtOnce 5) 9 (Complete findings twelve) ≡ codes "{explored,9,at_once,{states,12,3}}.\n"

-- the exploration stopped
abbrev pub TreeStops : Type 0
TreeStops = (findings : Findings) → explored_line Nodes 9 (Incomplete NodeLimit findings) ≡ codes "{explored,9,any_time,{stopped,node_limit}}.\n"

abbrev pub TreeTakesMemory : Type 0
TreeTakesMemory = (findings : Findings) → explored_line Nodes 9 (Incomplete Memory findings) ≡ codes "{explored,9,any_time,{stopped,memory}}.\n"

abbrev pub StatesStop : Type 0
StatesStop = (findings : Findings) → explored_line (States AtOnce 5) 9 (Incomplete NodeLimit findings) ≡ codes "{explored,9,at_once,{stopped,state_limit,5}}.\n"

abbrev pub StatesTakeMemory : Type 0
StatesTakeMemory = (findings : Findings) → explored_line (States AnyTime 5) 9 (Incomplete Memory findings) ≡ codes "{explored,9,any_time,{stopped,memory,5}}.\n"

-- a hundred random schedules of at most nine steps
abbrev pub SamplesAreTold : Type 0
SamplesAreTold = sampled_line hundred ≡ codes "{sampled,9,100,7}.\n"
