-- The report as terms of Erlang, one a line, as bytes.
use Rattle.std.specs.Prelude.{ℕ, ◌+◌, ◌==◌, List, [], ◌∷◌, ◌++◌, length, codes, if◌then◌else◌}
use Rattle.std.specs.Fmt.{decimal}
use Rattle.term_core.specs.Meaning.{Meaning}
use Rattle.world_model.specs.Events.{History}
use Rattle.world_model.specs.Mailboxes.{mailbox_in}
use Rattle.world_model.specs.Names.{Pid}
use Rattle.world_model.specs.Requests.{Program}
use Rattle.world_model.specs.Shown.{Identity, Deadlock, Unread}
use Rattle.world_model.specs.World.{contents}
use Rattle.tree_coverage.specs.Findings.{Finding, Findings}
use Rattle.tree_excuses.specs.Excuses.{Excuses, counted, taken}
use Rattle.tree_schedules.specs.declared.delivery.Delivery.{Delivery}
use Rattle.tree_schedules.specs.declared.delivery.Delivery.TheVariants.{AnyTime, AtOnce}
use Rattle.tree_findings.specs.declared.extent.Extent.{Extent}
use Rattle.tree_findings.specs.declared.outcome.Cause.{Cause}
use Rattle.tree_findings.specs.declared.outcome.Cause.TheVariants.{NodeLimit, Memory}
use Rattle.tree_findings.specs.declared.outcome.Outcome.{Outcome}
use Rattle.tree_findings.specs.declared.outcome.Outcome.TheVariants.{Complete, Incomplete}
use Rattle.report_text.specs.declared.sample_lines.Sampled.{Sampled}
use Rattle.report_text.specs.declared.visited.Visited.{Visited}
use Rattle.report_text.specs.declared.visited.Visited.TheVariants.{Nodes, States}
use Rattle.report_text.specs.ReportText.{complete_result, delivery_in, findings_in}
use Rattle.world_replay.specs.Replay.{reached}
use Rattle.report_terms.specs.Strings.{string_of_pid, string_of_schedule, strings_of_terms}
use Rattle.report_terms.specs.EventTerms.{event_line}
use Rattle.report_terms.specs.IdentityTerms.{identity_as_term}

-- ---- the first line

-- when signals are delivered in the schedules that the report is about
abbrev pub delivery_as_term : Delivery → List ℕ
delivery_as_term AnyTime = codes "any_time"
delivery_as_term AtOnce = codes "at_once"

-- what was visited
abbrev pub visited_as_term : Visited → List ℕ
visited_as_term Nodes = codes "nodes"
visited_as_term (States delivery whole_to) = codes "states"

-- `{nodes,N,Cut}`, or of states: all were visited, so many, and the depth cuts off what could follow at so many of them
abbrev pub complete_as_term : Visited → Extent → List ℕ
complete_as_term visited extent = codes "{" ++ (visited_as_term visited ++ (codes "," ++ (decimal extent.nodes ++ (codes "," ++ (decimal extent.cut ++ codes "}")))))

-- why an exploration of the tree stopped
abbrev pub tree_cause_as_term : Cause → List ℕ
tree_cause_as_term NodeLimit = codes "node_limit"
tree_cause_as_term Memory = codes "memory"

-- why a search of states stopped: its limit is one of states
abbrev pub states_cause_as_term : Cause → List ℕ
states_cause_as_term NodeLimit = codes "state_limit"
states_cause_as_term Memory = codes "memory"

-- `{stopped,Cause}`
abbrev pub stopped_tree_as_term : Cause → List ℕ
stopped_tree_as_term cause = codes "{stopped," ++ (tree_cause_as_term cause ++ codes "}")

-- `{stopped,Cause,WholeTo}`: all schedules of at most so many steps that deliver signals so were followed by then
abbrev pub stopped_states_as_term : Cause → ℕ → List ℕ
stopped_states_as_term cause whole_to = codes "{stopped," ++ (states_cause_as_term cause ++ (codes "," ++ (decimal whole_to ++ codes "}")))

abbrev pub stopped_as_term : Visited → Cause → List ℕ
stopped_as_term Nodes cause = stopped_tree_as_term cause
stopped_as_term (States delivery whole_to) cause = stopped_states_as_term cause whole_to

-- how far the exploration came
abbrev pub extent_as_term : Visited → Outcome → List ℕ
extent_as_term visited (Complete findings extent) = complete_as_term visited extent
extent_as_term visited (Incomplete cause findings) = stopped_as_term visited cause

-- `{explored,Depth,Delivery,Extent}.`
abbrev pub explored_line : Visited → ℕ → Outcome → List ℕ
explored_line visited depth outcome =
    codes "{explored," ++ (decimal depth ++ (codes "," ++ (delivery_as_term (delivery_in visited) ++ (codes "," ++ (extent_as_term visited outcome ++ codes "}.\n")))))

-- `{sampled,Depth,Runs,Seed}.`, of random schedules
abbrev pub sampled_line : Sampled → List ℕ
sampled_line sampled = codes "{sampled," ++ (decimal sampled.depth ++ (codes "," ++ (decimal sampled.runs ++ (codes "," ++ (decimal sampled.seed ++ codes "}.\n")))))

-- ---- below a finding

-- the lines of a history, in the order in which its events came, numbered from 1
abbrev pub event_lines : History → List ℕ
event_lines [] = []
event_lines (e ∷ earlier) = event_lines earlier ++ event_line (length earlier + 1) e

-- `{waits,Pid,[Message,..]}.`: a process that waits, and the messages in its mailbox, the oldest first
abbrev pub waits_line : Pid → List Meaning → List ℕ
waits_line p messages = codes "{waits," ++ (string_of_pid p ++ (codes ",[" ++ (strings_of_terms messages ++ codes "]}.\n")))

-- one line for each of these processes
abbrev pub waits_lines : History → List Pid → List ℕ
waits_lines h [] = []
waits_lines h (p ∷ ps) = waits_line p (mailbox_in (contents h) p) ++ waits_lines h ps

-- at a deadlock its processes wait, and so do those that have messages which they do not take
abbrev pub who_waits : History → Identity → List ℕ
who_waits h (Deadlock processes) = waits_lines h processes
who_waits h (Unread processes) = waits_lines h processes
who_waits h identity = []

-- what comes below a finding: what its schedule did, as far as its steps are enabled, and which processes wait then
abbrev pub lines_below : Program → Finding → List ℕ
lines_below a f = event_lines (reached a f.schedule) ++ who_waits (reached a f.schedule) f.identity

-- ---- findings

-- `{Kind,K,Identity,Schedule}.`
abbrev pub finding_line : List ℕ → ℕ → Finding → List ℕ
finding_line kind number f =
    codes "{" ++ (kind ++ (codes "," ++ (decimal number ++ (codes "," ++ (identity_as_term f.identity ++ (codes "," ++ (string_of_schedule f.schedule ++ codes "}.\n")))))))

abbrev pub lines_of_finding : Program → List ℕ → ℕ → Finding → List ℕ
lines_of_finding a kind number f = finding_line kind number f ++ lines_below a f

-- those of one kind, numbered on from a number
abbrev pub lines_from : Program → List ℕ → ℕ → List Finding → List ℕ
lines_from a kind number [] = []
lines_from a kind number (f ∷ fs) = lines_of_finding a kind number f ++ lines_from a kind (number + 1) fs

-- the errors that count, then the refusals, and then the errors that are taken as normal, each kind numbered from 1
abbrev pub lines_of_findings : Program → Excuses → Findings → List ℕ
lines_of_findings a x findings =
    lines_from a (codes "error") 1 (counted x findings.errors) ++ (lines_from a (codes "refusal") 1 findings.refusals ++ lines_from a (codes "normal") 1 (taken x findings.errors))

-- `{counts,Errors,Refusals,Normal}.`: how many errors count, how many refusals there are, and how many errors are taken as normal
abbrev pub counts_line : Excuses → Findings → List ℕ
counts_line x findings =
    codes "{counts," ++ (decimal (length (counted x findings.errors)) ++ (codes "," ++ (decimal (length findings.refusals) ++ (codes "," ++ (decimal (length (taken x findings.errors)) ++ codes "}.\n")))))

-- ---- the last line

-- `{depth,N}`
abbrev pub depth_as_term : ℕ → List ℕ
depth_as_term depth = codes "{depth," ++ (decimal depth ++ codes "}")

-- which schedules the result is about: all with the delivery of the first line, where the depth cuts off nothing, and else those up to the depth
abbrev pub reach_as_term : ℕ → Extent → List ℕ
reach_as_term depth extent = if extent.cut == 0 then codes "all" else depth_as_term depth

-- `{result,clean,Reach}.` or `{result,errors,Reach}.`, by the errors that count
abbrev pub complete_line : ℕ → Extent → List Finding → List ℕ
complete_line depth extent fs = codes "{result," ++ (complete_result fs ++ (codes "," ++ (reach_as_term depth extent ++ codes "}.\n")))

abbrev pub result_line : ℕ → Excuses → Outcome → List ℕ
result_line depth x (Complete findings extent) = complete_line depth extent (counted x findings.errors)
result_line depth x (Incomplete cause findings) = codes "{result,incomplete}.\n"

-- of random schedules: whether they show errors that count; where they do not, others may
abbrev pub sample_result_as_term : List Finding → List ℕ
sample_result_as_term [] = codes "nothing_found"
sample_result_as_term (f ∷ fs) = codes "errors"

abbrev pub sample_result_line : Excuses → Findings → List ℕ
sample_result_line x findings = codes "{result," ++ (sample_result_as_term (counted x findings.errors) ++ codes "}.\n")

-- ---- the report

-- what an exploration with schedules of at most so many steps results in
abbrev pub text_of_terms_report : Visited → Program → ℕ → Excuses → Outcome → List ℕ
text_of_terms_report visited a depth x outcome =
    explored_line visited depth outcome ++ (lines_of_findings a x (findings_in outcome) ++ (counts_line x (findings_in outcome) ++ result_line depth x outcome))

-- what so many random schedules show
abbrev pub text_of_terms_sample : Sampled → Program → Excuses → Findings → List ℕ
text_of_terms_sample sampled a x findings = sampled_line sampled ++ (lines_of_findings a x findings ++ (counts_line x findings ++ sample_result_line x findings))
