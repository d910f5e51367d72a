-- The explained report: below each finding come the lines of its schedule and, at a deadlock or at unread messages, which processes wait.
use Rattle.std.specs.Prelude.{◌≡◌, ℕ, ◌+◌, Bool, false, List, [], ◌∷◌, ◌++◌, length, codes, Option, Some, Result, Ok, Err}
use Rattle.term_core.specs.Meaning.{Meaning}
use Rattle.term_core.specs.Stream.{AppendsBeginning, BreaksOff, WritesAll}
use Rattle.term_core.specs.Text.{text_of_pid}
use Rattle.world_model.specs.Events.{History}
use Rattle.world_model.specs.Mailboxes.{mailbox_in}
use Rattle.world_model.specs.Names.{Pid}
use Rattle.world_model.specs.Requests.{Program}
use Rattle.world_model.specs.Run.{run}
use Rattle.world_model.specs.Shown.{Identity, Deadlock, Unread}
use Rattle.world_model.specs.World.{contents}
use Rattle.tree_coverage.specs.Findings.{Finding, Findings}
use Rattle.tree_excuses.specs.Excuses.{Excuses, counted, taken}
use Rattle.tree_findings.specs.declared.outcome.Outcome.{Outcome}
use Rattle.world_event_text.specs.CallText.{text_of_arguments}
use Rattle.world_event_text.specs.EventText.{text_of_event}
use Rattle.report_text.specs.declared.visited.Visited.{Visited}
use Rattle.report_text.specs.declared.visited.Visited.TheVariants.{Nodes}
use Rattle.report_text.specs.ReportText.{explained_first_line_by, explained_last_line, findings_in, text_of_counts, text_of_finding}
use Rattle.report_text.specs.SampleText.{sample_first_line, sample_last_line}
use Rattle.report_text.specs.declared.sample_lines.Sampled.{Sampled}
use Rattle.world_replay.specs.Replay.{reached}
use Rattle.report_explained.specs.declared.explain_fault.ExplainFault.{ExplainFault}
use Rattle.report_explained.specs.declared.explain_fault.ExplainFault.TheVariants.{Memory, Write}

-- ---- lines below a finding

-- a line after four blanks
abbrev pub indented : List ℕ → List ℕ
indented line = codes "    " ++ line

-- the lines of a history, each after four blanks
abbrev pub text_of_steps : History → List ℕ
text_of_steps [] = []
text_of_steps (e ∷ earlier) = text_of_steps earlier ++ indented (text_of_event (length earlier + 1) e)

-- a process that waits, and the messages in its mailbox, the oldest first
abbrev pub text_of_waiting : Pid → List Meaning → List ℕ
text_of_waiting p messages = text_of_pid p ++ (codes " waits, mailbox [" ++ (text_of_arguments messages ++ codes "]\n"))

-- one line for each of these processes
abbrev pub text_of_all_waiting : History → List Pid → List ℕ
text_of_all_waiting h [] = []
text_of_all_waiting h (p ∷ ps) = indented (text_of_waiting p (mailbox_in (contents h) p)) ++ text_of_all_waiting h ps

-- at a deadlock its processes wait, and so do those that have messages which they do not take
abbrev pub text_of_waits : History → Identity → List ℕ
text_of_waits h (Deadlock processes) = text_of_all_waiting h processes
text_of_waits h (Unread processes) = text_of_all_waiting h processes
text_of_waits h identity = []

-- what comes below a finding: what its schedule did, and which processes wait then
abbrev pub text_of_explanation : Program → Finding → List ℕ
text_of_explanation a f = text_of_steps (reached a f.schedule) ++ text_of_waits (reached a f.schedule) f.identity

-- below a finding whose schedule runs, as those of a search do, come the lines of that run, and which processes wait after it
abbrev pub ExplanationsAreOfRuns : Type 0
ExplanationsAreOfRuns = (a : Program) (f : Finding) (h : History) → run a f.schedule ≡ Some h → text_of_explanation a f ≡ text_of_steps h ++ text_of_waits h f.identity

-- ---- the report

abbrev pub explained_finding : Program → List ℕ → ℕ → Finding → List ℕ
explained_finding a kind number f = text_of_finding kind number f ++ text_of_explanation a f

-- those of one kind, numbered on from a number
abbrev pub explained_from : Program → List ℕ → ℕ → List Finding → List ℕ
explained_from a kind number [] = []
explained_from a kind number (f ∷ fs) = explained_finding a kind number f ++ explained_from a kind (number + 1) fs

-- the errors that count, then the refusals, and then the errors that are taken as normal, each kind numbered from 1
abbrev pub explained_findings : Program → Excuses → Findings → List ℕ
explained_findings a x findings =
    explained_from a (codes "error") 1 (counted x findings.errors) ++ (explained_from a (codes "refusal") 1 findings.refusals ++ explained_from a (codes "normal") 1 (taken x findings.errors))

-- what an exploration with schedules of at most so many steps results in
abbrev pub text_of_explained_report_by : Visited → Program → ℕ → Excuses → Outcome → List ℕ
text_of_explained_report_by visited a depth x outcome =
    explained_first_line_by visited depth outcome ++ (explained_findings a x (findings_in outcome) ++ (text_of_counts x (findings_in outcome) ++ explained_last_line visited depth x outcome))

-- of the tree
abbrev pub text_of_explained_report : Program → ℕ → Excuses → Outcome → List ℕ
text_of_explained_report a depth x outcome = text_of_explained_report_by Nodes a depth x outcome

-- what so many random schedules show
abbrev pub text_of_explained_sample : Sampled → Program → Excuses → Findings → List ℕ
text_of_explained_sample sampled a x findings = sample_first_line sampled ++ (explained_findings a x findings ++ (text_of_counts x findings ++ sample_last_line x findings))

-- ---- what was written of such a text, which takes memory to be made

-- the whole text; or memory ran out, and the sink, which is sound, got a beginning of it; or the sink has failed within it
abbrev pub IsExplained : List ℕ → (old new : Option (List ℕ)) → Bool → Result (Unit {0}) ExplainFault → Type 0
IsExplained text old new failed (Ok done) = WritesAll old new failed text
IsExplained text old new failed (Err Memory) = (failed ≡ false) × AppendsBeginning old new text
IsExplained text old new failed (Err Write) = BreaksOff old new failed text
