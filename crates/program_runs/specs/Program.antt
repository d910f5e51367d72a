-- What the program does with its words and its three streams.
use Rattle.program_runs.specs.Ends.{WritesNothing, IsRefusedBefore, IsHandedOn}
use Rattle.std.specs.Prelude.{◌≡◌, ◌⊎◌, ℕ, Bool, true, false, List, codes, Option, Result, Ok, Err, IfSome, string_bytes}
use Rattle.term_core.specs.Stream.{WritesAll, BreaksOff}
use Rattle.tree_excuses.specs.Excuses.{Excuses, counts, excuses_in}
use Rattle.world_identities.specs.Identities.{flags_in}
use Rattle.world_identities.specs.declared.flags.Flags.{Flags}
use Rattle.tree_findings.specs.declared.options.Options.{Options}
use Rattle.search_samples.specs.declared.sample.Samples.{Samples}
use Rattle.program_words.specs.Words.{AsksCheck, AsksExplore, AsksExploreJob, AsksJobs, AsksMerge, AsksReplay, AsksSample, IsCheck, IsExplore, IsExploreJob, IsInRange, IsJobs, IsMerge, IsNamed, IsReplay, IsSample, command_of}
use Rattle.program_words.specs.declared.words.Words.{Words}
use Rattle.program_words.specs.declared.words.Printed.{Printed}
use Rattle.program_words.specs.declared.words.Words.TheVariants.{Replay, Explore, ExploreJob, Jobs, Merge, Check, Sample}
use Rattle.program_runs.specs.Replayed.{IsReplayOf}
use Rattle.program_runs.specs.FaultText.{text_of_fault}
use Rattle.program_runs.specs.Status.{status_of}
use Rattle.program_runs.specs.Checked.{IsCheckOf}
use Rattle.program_runs.specs.Explored.{IsExplorationOf, IsCleanIfSaid}
use Rattle.program_runs.specs.JobRuns.{IsJobRunOf, IsListingOf}
use Rattle.program_runs.specs.MergeRuns.{ComesToTree, IsMergeOf}
use Rattle.program_runs.specs.Sampled.{IsSampleOf}
use Rattle.program_runs.specs.Input.{IsUnread}
use Rattle.program_runs.specs.declared.verdict.RunFault.{RunFault}
use Rattle.program_runs.specs.declared.verdict.RunFault.TheVariants as faults
use Rattle.program_runs.specs.declared.verdict.Verdict.{Verdict}

-- what was done to a stream: the bytes that it held before and after, whether a call on it has failed, and whether its last call was a flush that succeeded
pub record Written : Type 0 where
  pub old : Option (List ℕ)
  pub new : Option (List ℕ)
  pub failed : Bool
  pub flushed : Bool

-- the same of a stream before and after, by what it reports
abbrev pub written : {S : Type 0} → (S → Option (List ℕ)) → (S → Bool) → (S → Bool) → S → S → Written
written contents has_failed is_flushed old new = record { old = contents old; new = contents new; failed = has_failed new; flushed = is_flushed new }

-- nothing was written to the stream
abbrev pub IsUntouched : Written → Type 0
IsUntouched w = WritesNothing w.old w.new w.failed

-- the stream got this text and nothing more, or a beginning of it where it has failed
abbrev pub Gets : Written → List ℕ → Type 0
Gets w text = WritesAll w.old w.new w.failed text ⊎ BreaksOff w.old w.new w.failed text

-- a refusal is reported by its line, and any other end by nothing
abbrev pub IsReported : Written → Result Verdict RunFault → Type 0
IsReported errors (Ok verdict) = IsUntouched errors
IsReported errors (Err fault) = Gets errors (text_of_fault fault)

-- what was asked for was done with the input: a schedule was replayed, or the schedules were explored, all of them or those of a job, or jobs were listed, or reports were put together, which result in that of a tree where they are those of its parts, or a cover was checked, or random schedules were followed
abbrev pub IsDone : Words → List ℕ → (old new : Option (List ℕ)) → Bool → Result Verdict RunFault → Type 0
IsDone (Replay schedule) input old new failed outcome = IsReplayOf input (string_bytes schedule) old new failed outcome
IsDone (Explore options x what) input old new failed outcome = IsExplorationOf input options (excuses_in x) what old new failed outcome × IsCleanIfSaid input options (excuses_in x) outcome
IsDone (ExploreJob options x line) input old new failed outcome = IsJobRunOf input (string_bytes line) options (excuses_in x) old new failed outcome
IsDone (Jobs depth) input old new failed outcome = IsListingOf input depth old new failed outcome
IsDone (Merge depth at flags x) input old new failed outcome = IsMergeOf input depth at (flags_in flags) (excuses_in x) old new failed outcome × ComesToTree input depth at (flags_in flags) (excuses_in x) old new failed outcome
IsDone (Check depth flags x) input old new failed outcome = IsCheckOf input depth (counts (flags_in flags) (excuses_in x)) old new failed outcome
IsDone (Sample samples x what) input old new failed outcome = IsSampleOf input samples (excuses_in x) what old new failed outcome

-- the input could not be read: a read has failed, or, where it is read whole, the reads are used up
abbrev pub CannotBeRead : Words → Option (List ℕ) → Bool → Type 0
CannotBeRead (Replay schedule) input failed = failed ≡ true
CannotBeRead (Explore options x what) input failed = failed ≡ true
CannotBeRead (ExploreJob options x line) input failed = failed ≡ true
CannotBeRead (Jobs depth) input failed = failed ≡ true
CannotBeRead (Merge depth at flags x) input failed = IsUnread input failed
CannotBeRead (Check depth flags x) input failed = IsUnread input failed
CannotBeRead (Sample samples x what) input failed = failed ≡ true

-- what the words ask for was done with the input, a read of which may have failed: what it wrote to the output was flushed, the third stream got the line of a refusal or nothing, and the status is that of its end
pub record IsRun (words : List (List ℕ)) (input : Option (List ℕ)) (failed : Bool) (output errors : Written) (status : ℕ) : Type 0 where
  pub asked : Words
  pub replay : (schedule : List ℕ) → IsReplay words schedule → AsksReplay schedule asked
  pub explore : (options : Options) (x : Excuses) (what : Printed) → IsExplore words options x what → AsksExplore options x what asked
  pub explore_job : (options : Options) (x : Excuses) (line : List ℕ) → IsExploreJob words options x line → AsksExploreJob options x line asked
  pub jobs : (depth : ℕ) → IsJobs words depth → AsksJobs depth asked
  pub merge : (depth at : ℕ) (flags : Flags) (x : Excuses) → IsMerge words depth at flags x → AsksMerge depth at flags x asked
  pub check : (depth : ℕ) (flags : Flags) (x : Excuses) → IsCheck words depth flags x → AsksCheck depth flags x asked
  pub sample : (samples : Samples) (x : Excuses) (what : Printed) → IsSample words samples x what → AsksSample samples x what asked
  pub named : IsNamed words (command_of asked)
  pub in_range : IsInRange asked
  pub outcome : Result Verdict RunFault
  pub run : IfSome input (λ bytes. IsDone asked bytes output.old output.new output.failed outcome)
  pub read_failed : outcome ≡ Err faults.ReadFailed → CannotBeRead asked input failed
  pub sound : (outcome ≡ Err faults.ReadFailed → ⊥) → failed ≡ false
  pub silent : IsRefusedBefore outcome → IsUntouched output
  pub flushed : IsHandedOn outcome output.flushed
  pub reported : IsReported errors outcome
  pub status_is : status ≡ status_of outcome

-- the words were refused: the output got nothing, and the third stream a text, which is that of no memory where the words are those of a command
pub record AreRefused (words : List (List ℕ)) (output errors : Written) : Type 0 where
  pub silent : IsUntouched output
  pub text : List ℕ
  pub told : Gets errors text
  pub no_replay : (schedule : List ℕ) → IsReplay words schedule → text ≡ codes "error: out of memory\n"
  pub no_exploration : (options : Options) (x : Excuses) (what : Printed) → IsExplore words options x what → text ≡ codes "error: out of memory\n"
  pub no_job : (options : Options) (x : Excuses) (line : List ℕ) → IsExploreJob words options x line → text ≡ codes "error: out of memory\n"
  pub no_jobs : (depth : ℕ) → IsJobs words depth → text ≡ codes "error: out of memory\n"
  pub no_merge : (depth at : ℕ) (flags : Flags) (x : Excuses) → IsMerge words depth at flags x → text ≡ codes "error: out of memory\n"
  pub no_check : (depth : ℕ) (flags : Flags) (x : Excuses) → IsCheck words depth flags x → text ≡ codes "error: out of memory\n"
  pub no_sample : (samples : Samples) (x : Excuses) (what : Printed) → IsSample words samples x what → text ≡ codes "error: out of memory\n"

-- there was no memory for the words: the output got nothing, and the third stream the parser's text for that
abbrev pub HaveNoMemory : (output errors : Written) → Type 0
HaveNoMemory output errors = IsUntouched output × Gets errors (codes "error: out of memory\n")
