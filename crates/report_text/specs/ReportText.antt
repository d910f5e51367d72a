-- The report: the text of what an exploration results in, as bytes.
use Rattle.std.specs.Prelude.{ℕ, ◌+◌, ◌==◌, List, [], ◌∷◌, ◌++◌, length, codes, if◌then◌else◌}
use Rattle.std.specs.Fmt.{decimal}
use Rattle.term_core.specs.Text.{text_of_schedule}
use Rattle.tree_coverage.specs.Findings.{Finding, Findings}
use Rattle.tree_excuses.specs.Excuses.{Excuses, are_any, counted, taken}
use Rattle.tree_schedules.specs.declared.delivery.Delivery.{Delivery}
use Rattle.tree_schedules.specs.declared.delivery.Delivery.TheVariants.{AnyTime, AtOnce}
use Rattle.tree_findings.specs.declared.extent.Extent.{Extent}
use Rattle.tree_findings.specs.declared.outcome.Cause.{Cause}
use Rattle.tree_findings.specs.declared.outcome.Cause.TheVariants.{NodeLimit, Memory}
use Rattle.tree_findings.specs.declared.outcome.Outcome.{Outcome}
use Rattle.tree_findings.specs.declared.outcome.Outcome.TheVariants.{Complete, Incomplete}
use Rattle.report_text.specs.declared.visited.Visited.{Visited}
use Rattle.report_text.specs.declared.visited.Visited.TheVariants.{Nodes, States}
use Rattle.report_text.specs.IdentityText.{text_of_identity}

-- what was found
abbrev pub findings_in : Outcome → Findings
findings_in (Complete findings extent) = findings
findings_in (Incomplete cause findings) = findings

-- ---- which schedules the report is about

-- when signals are delivered in them: in those of the tree at any time
abbrev pub delivery_in : Visited → Delivery
delivery_in Nodes = AnyTime
delivery_in (States delivery whole_to) = delivery

-- the words for the schedules that deliver signals then
abbrev pub schedules_by : Delivery → List ℕ
schedules_by AnyTime = codes "schedules"
schedules_by AtOnce = codes "prompt schedules"

abbrev pub schedules_told : Visited → List ℕ
schedules_told visited = schedules_by (delivery_in visited)

-- ---- the first line

-- why it stopped
abbrev pub text_of_cause : Cause → List ℕ
text_of_cause NodeLimit = codes "node limit"
text_of_cause Memory = codes "memory"

-- that all nodes were visited, and how many they are
abbrev pub text_of_nodes : ℕ → List ℕ
text_of_nodes nodes = codes "nodes " ++ (decimal nodes ++ codes ", complete")

-- that it stopped before its end, and why
abbrev pub text_of_incomplete : Cause → List ℕ
text_of_incomplete cause = codes "incomplete: " ++ text_of_cause cause

-- why a search of states stopped: its limit is one of states
abbrev pub text_of_states_cause : Cause → List ℕ
text_of_states_cause NodeLimit = codes "state limit"
text_of_states_cause Memory = codes "memory"

-- that all states were visited, and how many they are
abbrev pub text_of_states : ℕ → List ℕ
text_of_states states = codes "states " ++ (decimal states ++ codes ", complete")

-- that a search of states stopped before its end, why, and of how many steps at most all schedules that deliver signals so were followed by then
abbrev pub text_of_incomplete_states : Delivery → ℕ → Cause → List ℕ
text_of_incomplete_states delivery whole_to cause =
    codes "incomplete: " ++ (text_of_states_cause cause ++ (codes "; all " ++ (schedules_by delivery ++ (codes " to depth " ++ decimal whole_to))))

-- that all were visited, and how many they are
abbrev pub text_of_complete_by : Visited → ℕ → List ℕ
text_of_complete_by Nodes number = text_of_nodes number
text_of_complete_by (States delivery whole_to) number = text_of_states number

-- that it stopped before its end, and why; of states also, of how many steps at most all schedules that deliver signals so were followed by then
abbrev pub text_of_incomplete_by : Visited → Cause → List ℕ
text_of_incomplete_by Nodes cause = text_of_incomplete cause
text_of_incomplete_by (States delivery whole_to) cause = text_of_incomplete_states delivery whole_to cause

-- how far the exploration came
abbrev pub text_of_extent_by : Visited → Outcome → List ℕ
text_of_extent_by visited (Complete findings extent) = text_of_complete_by visited extent.nodes
text_of_extent_by visited (Incomplete cause findings) = text_of_incomplete_by visited cause

-- of the tree
abbrev pub text_of_extent : Outcome → List ℕ
text_of_extent outcome = text_of_extent_by Nodes outcome

-- how many steps a schedule may have, and how far the exploration came
abbrev pub first_line_by : Visited → ℕ → Outcome → List ℕ
first_line_by visited depth outcome = codes "depth " ++ (decimal depth ++ (codes ", " ++ (text_of_extent_by visited outcome ++ codes "\n")))

-- of the tree
abbrev pub first_line : ℕ → Outcome → List ℕ
first_line depth outcome = first_line_by Nodes depth outcome

-- ---- findings

-- one of a kind by its number, and on a line of its own its schedule after two blanks
abbrev pub text_of_finding : List ℕ → ℕ → Finding → List ℕ
text_of_finding kind number f =
    kind ++ (codes " " ++ (decimal number ++ (codes ": " ++ (text_of_identity f.identity ++ (codes "\n  " ++ (text_of_schedule f.schedule ++ codes "\n"))))))

-- those of one kind, numbered on from a number
abbrev pub findings_from : List ℕ → ℕ → List Finding → List ℕ
findings_from kind number [] = []
findings_from kind number (f ∷ fs) = text_of_finding kind number f ++ findings_from kind (number + 1) fs

-- all of one kind, numbered from 1
abbrev pub text_of_findings : List ℕ → List Finding → List ℕ
text_of_findings kind fs = findings_from kind 1 fs

-- how many errors are taken as normal
abbrev pub text_of_taken : List Finding → List ℕ
text_of_taken fs = codes ", taken as normal " ++ decimal (length fs)

-- which is written where an error may be excused
abbrev pub text_of_normal : Excuses → List Finding → List ℕ
text_of_normal x errors = if are_any x then text_of_taken (taken x errors) else []

-- how many errors count and how many refusals there are; where an error may be excused, how many are taken as normal
abbrev pub text_of_counts : Excuses → Findings → List ℕ
text_of_counts x findings =
    codes "errors " ++ (decimal (length (counted x findings.errors)) ++ (codes ", refusals " ++ (decimal (length findings.refusals) ++ (text_of_normal x findings.errors ++ codes "\n"))))

-- ---- the result

-- of all nodes: whether there are errors that count
abbrev pub complete_result : List Finding → List ℕ
complete_result [] = codes "clean"
complete_result (f ∷ fs) = codes "errors"

abbrev pub text_of_result : Excuses → Outcome → List ℕ
text_of_result x (Complete findings extent) = complete_result (counted x findings.errors)
text_of_result x (Incomplete cause findings) = codes "incomplete"

abbrev pub last_line : Excuses → Outcome → List ℕ
last_line x outcome = codes "result: " ++ (text_of_result x outcome ++ codes "\n")

-- ---- the report

-- the errors that count, then the refusals, and then the errors that are taken as normal
abbrev pub text_of_all : Excuses → Findings → List ℕ
text_of_all x findings =
    text_of_findings (codes "error") (counted x findings.errors) ++ (text_of_findings (codes "refusal") findings.refusals ++ text_of_findings (codes "normal") (taken x findings.errors))

-- what an exploration with schedules of at most so many steps results in
abbrev pub text_of_report_by : Visited → ℕ → Excuses → Outcome → List ℕ
text_of_report_by visited depth x outcome =
    first_line_by visited depth outcome ++ (text_of_all x (findings_in outcome) ++ (text_of_counts x (findings_in outcome) ++ last_line x outcome))

-- of the tree
abbrev pub text_of_report : ℕ → Excuses → Outcome → List ℕ
text_of_report depth x outcome = text_of_report_by Nodes depth x outcome

-- ---- the first and the last line where a report is explained

-- that all were visited, how many they are, and at how many of them the depth cuts off what could follow
abbrev pub text_of_complete_and_cuts : Visited → Extent → List ℕ
text_of_complete_and_cuts visited extent = text_of_complete_by visited extent.nodes ++ (codes ", cut " ++ decimal extent.cut)

abbrev pub explained_extent_by : Visited → Outcome → List ℕ
explained_extent_by visited (Complete findings extent) = text_of_complete_and_cuts visited extent
explained_extent_by visited (Incomplete cause findings) = text_of_incomplete_by visited cause

abbrev pub explained_first_line_by : Visited → ℕ → Outcome → List ℕ
explained_first_line_by visited depth outcome = codes "depth " ++ (decimal depth ++ (codes ", " ++ (explained_extent_by visited outcome ++ codes "\n")))

-- of the tree
abbrev pub explained_first_line : ℕ → Outcome → List ℕ
explained_first_line depth outcome = explained_first_line_by Nodes depth outcome

-- that the result is about schedules up to the depth
abbrev pub text_of_depth_reached : ℕ → List ℕ
text_of_depth_reached depth = codes " to depth " ++ decimal depth

-- that it is about all schedules, or all that are prompt
abbrev pub text_of_all_reached : Visited → List ℕ
text_of_all_reached visited = codes ", all " ++ schedules_told visited

-- which schedules the result is about: all, where the depth cuts off nothing, and else those up to the depth
abbrev pub text_of_reach : Visited → ℕ → Extent → List ℕ
text_of_reach visited depth extent = if extent.cut == 0 then text_of_all_reached visited else text_of_depth_reached depth

abbrev pub explained_result : Visited → ℕ → Excuses → Outcome → List ℕ
explained_result visited depth x (Complete findings extent) = complete_result (counted x findings.errors) ++ text_of_reach visited depth extent
explained_result visited depth x (Incomplete cause findings) = codes "incomplete"

abbrev pub explained_last_line : Visited → ℕ → Excuses → Outcome → List ℕ
explained_last_line visited depth x outcome = codes "result: " ++ (explained_result visited depth x outcome ++ codes "\n")
