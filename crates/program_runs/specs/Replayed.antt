-- What a replay of the program results in, by the bytes that it is given.
use Rattle.std.specs.Prelude.{◌≡◌, ℕ, Bool, true, false, List, Option, Result, Ok, Err}
use Rattle.core_tree.specs.Syntax.{ModuleTree}
use Rattle.core_reader.specs.ModuleText.{SpellsModule}
use Rattle.core_reader.specs.Refusal.{IsRefusalOf}
use Rattle.term_core.specs.Schedule.{AreLawful, IsFirstBadStep}
use Rattle.term_core.specs.Stream.{BreaksOff}
use Rattle.term_core.specs.Text.{text_of_schedule}
use Rattle.term_core.specs.declared.schedule.ScheduleFault.{ScheduleFault}
use Rattle.term_core.specs.declared.schedule.ScheduleFault.TheVariants as schedule
use Rattle.term_core.specs.declared.step.Step.{Step}
use Rattle.world_model.specs.Asking.{program_of}
use Rattle.world_replay.specs.Replay.{Replays, transcript}
use Rattle.world_replay.specs.declared.replay_fault.ReplayFault.TheVariants as replay
use Rattle.program_runs.specs.Ends.{WritesNothing}
use Rattle.program_runs.specs.declared.verdict.RunFault.{RunFault}
use Rattle.program_runs.specs.declared.verdict.RunFault.TheVariants as run
use Rattle.program_runs.specs.declared.verdict.Verdict.{Verdict}
use Rattle.program_runs.specs.declared.verdict.Verdict.TheVariants.{Done}

-- the input is the text of this module, and the word is the text of this schedule
pub record IsGiven (input word : List ℕ) (m : ModuleTree) (steps : List Step) : Type 0 where
  pub module_text : SpellsModule input m
  pub lawful : AreLawful steps
  pub schedule_text : word ≡ text_of_schedule steps

-- the word is refused as a schedule: but for lack of memory at its first bad step
abbrev pub IsBadSchedule : List ℕ → ScheduleFault → Type 0
IsBadSchedule word (schedule.BadStep at) = IsFirstBadStep word at
IsBadSchedule word schedule.Memory = Unit {0}

-- what was replayed, and how that ended
pub record IsReplayed (input word : List ℕ) (End : ModuleTree → List Step → Type 0) : Type 0 where
  pub program : ModuleTree
  pub steps : List Step
  pub given : IsGiven input word program steps
  pub end : End program steps

-- the input is a module, and the word is refused
pub record IsNoSchedule (input word : List ℕ) (old new : Option (List ℕ)) (failed : Bool) (fault : ScheduleFault) : Type 0 where
  pub program : ModuleTree
  pub module_text : SpellsModule input program
  pub bad : IsBadSchedule word fault
  pub quiet : WritesNothing old new failed

-- a run replayed its schedule to the end; or the input was refused as a module, or could not be read, or the schedule was refused, and nothing was written; or the replay stopped at a step or for lack of memory; or the output failed, at a write or at the flush
abbrev pub IsReplayOf : (input word : List ℕ) → (old new : Option (List ℕ)) → Bool → Result Verdict RunFault → Type 0
IsReplayOf input word old new failed (Ok Done) = IsReplayed input word (λ m steps. Replays (program_of m) steps old new failed (Ok tt))
IsReplayOf input word old new failed (Err (run.Input fault)) = IsRefusalOf input fault × WritesNothing old new failed
IsReplayOf input word old new failed (Err run.ReadFailed) = WritesNothing old new failed
IsReplayOf input word old new failed (Err (run.Schedule fault)) = IsNoSchedule input word old new failed fault
IsReplayOf input word old new failed (Err (run.NotEnabled step)) = IsReplayed input word (λ m steps. Replays (program_of m) steps old new failed (Err (replay.NotEnabled step)))
IsReplayOf input word old new failed (Err run.ReplayCutOff) = IsReplayed input word (λ m steps. Replays (program_of m) steps old new failed (Err replay.Memory))
IsReplayOf input word old new failed (Err run.Output) = IsReplayed input word (λ m steps. BreaksOff old new failed (transcript (program_of m) steps))
IsReplayOf input word old new failed _ = ⊥
