-- Worked rows: the first and the last line of reports of random schedules, and a whole report.
use Rattle.std.specs.Prelude.{◌≡◌, true, List, [], ◌∷◌, codes}
use Rattle.term_core.specs.Meaning.{Meaning}
use Rattle.term_core.specs.declared.step.Step.TheVariants.{Turn}
use Rattle.world_model.specs.Names.{Pid}
use Rattle.world_model.specs.Shown.{Deadlock, Unread}
use Rattle.tree_coverage.specs.Findings.{Findings}
use Rattle.tree_excuses.specs.Excuses.{Excuses}
use Rattle.report_text.specs.declared.sample_lines.Sampled.{Sampled}
use Rattle.report_text.specs.LastLines.{nothing_found, runaway_found}
use Rattle.report_text.specs.SampleText.{sample_first_line, sample_last_line, text_of_sample}

-- a hundred schedules of at most nine steps
abbrev pub hundred : Sampled
hundred = record { depth = 9; runs = 100; seed = 7 }

abbrev pub SamplesAreCounted : Type 0
SamplesAreCounted = sample_first_line hundred ≡ codes "depth 9, runs 100, seed 7\n"

-- ---- the result

-- it is never `clean`
abbrev pub NothingIsTold : Type 0
NothingIsTold = (x : Excuses) → sample_last_line x nothing_found ≡ codes "result: nothing found\n"

-- a process that runs away is never excused
abbrev pub ErrorsAreTold : Type 0
ErrorsAreTold = (x : Excuses) (p : Pid) → sample_last_line x (runaway_found p) ≡ codes "result: errors\n"

-- ---- an error that is excused

-- the second process waits for ever, and the first one does not
abbrev pub deadlock_found : Findings
deadlock_found = record { errors = record { identity = Deadlock ((2 ∷ []) ∷ []); schedule = Turn [] ∷ Turn (2 ∷ []) ∷ [] } ∷ []; refusals = [] }

-- which is taken as normal
abbrev pub excusing : List Meaning → Excuses
excusing normal = record { main_deadlock = true; normal = normal }

abbrev pub ExcusedIsNothing : Type 0
ExcusedIsNothing = (normal : List Meaning) → sample_last_line (excusing normal) deadlock_found ≡ codes "result: nothing found\n"

-- it is listed
abbrev pub ExcusedIsListed : Type 0
ExcusedIsListed = (normal : List Meaning) →
    text_of_sample hundred (excusing normal) deadlock_found
    ≡ codes "depth 9, runs 100, seed 7\nnormal 1: deadlock of P.2\n  P P.2\nerrors 0, refusals 0, taken as normal 1\nresult: nothing found\n"

-- where messages are unread, that is an error of its own
abbrev pub unread_found : Findings
unread_found = record {
  errors = record { identity = Deadlock ((2 ∷ []) ∷ []); schedule = Turn [] ∷ Turn (2 ∷ []) ∷ [] } ∷ record { identity = Unread ((2 ∷ []) ∷ []); schedule = Turn [] ∷ Turn (2 ∷ []) ∷ [] } ∷ [];
  refusals = [];
}

abbrev pub UnreadIsListed : Type 0
UnreadIsListed = (normal : List Meaning) →
    text_of_sample hundred (excusing normal) unread_found
    ≡ codes "depth 9, runs 100, seed 7\nerror 1: unread messages of P.2\n  P P.2\nnormal 1: deadlock of P.2\n  P P.2\nerrors 1, refusals 0, taken as normal 1\nresult: errors\n"
