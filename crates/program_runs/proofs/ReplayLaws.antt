-- What was read of the source says the same as the whole of it.
use Rattle.std.proofs.Common.{◌≡◌, ◌⊎◌, ℕ, ◌<◌, ◌≤◌, Bool, false, List, length, Option, Some, None, IfSome, refl, sym, subst, inl, inr, not-le_of_lt, arith}
use Rattle.std.proofs.lemmas.Bool.{cases_order}
use Rattle.std.specs.Prelude.{Result, Ok, Err}
use Rattle.core_tree.specs.Syntax.{ModuleTree}
use Rattle.core_reader.specs.ModuleText.{SpellsModule}
use Rattle.core_reader.specs.Refusal.{IsTrueOf, IsRefusalOf}
use Rattle.core_tokens.specs.declared.fault.ReadFault.{ReadFault}
use Rattle.core_tokens.specs.declared.fault.ReadFault.TheVariants as read
use Rattle.program_runs.specs.Input.{IsInputOf}
use Rattle.program_runs.specs.Replayed.{IsReplayOf, IsBadSchedule, IsGiven}
use Rattle.program_runs.specs.Refusals.{refusal_of_replay}
use Rattle.world_model.specs.Asking.{program_of}
use Rattle.world_replay.specs.Replay.{Replays}
use Rattle.world_replay.specs.declared.replay_fault.ReplayFault.{ReplayFault}
use Rattle.world_replay.specs.declared.replay_fault.ReplayFault.TheVariants as replay
use Rattle.program_runs.specs.declared.verdict.RunFault.{RunFault}
use Rattle.program_runs.specs.declared.verdict.RunFault.TheVariants as run
use Rattle.program_runs.specs.declared.verdict.Verdict.{Verdict}
use Rattle.program_runs.specs.declared.verdict.Verdict.TheVariants.{Done}
use Rattle.term_core.specs.Schedule.{AreLawful, IsFirstBadStep}
use Rattle.term_core.specs.declared.schedule.ScheduleFault.TheVariants as schedule
use Rattle.term_core.specs.Text.{text_of_schedule}
use Rattle.term_core.specs.declared.schedule.ScheduleFault.{ScheduleFault}
use Rattle.term_core.specs.declared.step.Step.{Step}

-- a module is no longer than what is read, so all of its text was read
pub whole_text : (all bytes : List ℕ) (m : ModuleTree) → IsInputOf 1048576 all bytes → SpellsModule bytes m → bytes ≡ all
whole_text all bytes m is spelt = is.whole (grind (arith, is.beyond, spelt.fits))

pub spells_all : (all bytes : List ℕ) (m : ModuleTree) → IsInputOf 1048576 all bytes → SpellsModule bytes m → SpellsModule all m
spells_all all bytes m is spelt = subst (λ (t : List ℕ). SpellsModule t m) (whole_text all bytes m is spelt) spelt

-- what refuses a beginning that is too long refuses the whole
refused_beyond : (all bytes : List ℕ) (fault : ReadFault) → 1048576 < length all → 1048576 < length bytes → IsTrueOf bytes fault → IsTrueOf all fault
refused_beyond all bytes (read.TooLong place) long beyond says = (long, says.1)
refused_beyond all bytes (read.NotUtf8 place) long beyond says = absurd (not-le_of_lt beyond says.0)
refused_beyond all bytes (read.BadToken place) long beyond says = absurd (not-le_of_lt beyond says.0.0)
refused_beyond all bytes (read.BadInteger place) long beyond says = absurd (not-le_of_lt beyond says.0.0)
refused_beyond all bytes read.Memory long beyond says = tt
refused_beyond all bytes _ long beyond says = absurd (not-le_of_lt beyond says.legible.0)

-- what refuses the text that was read refuses the whole
pub refused_all : (all bytes : List ℕ) (fault : ReadFault) → IsInputOf 1048576 all bytes → IsRefusalOf bytes fault → IsRefusalOf all fault
refused_all all bytes fault is refusal = by (cases_order (length all) 1048576)
  where
    as_read : length all ≤ 1048576 → IsRefusalOf all fault
    as_read fits = subst (λ (t : List ℕ). IsRefusalOf t fault) (is.whole fits) refusal

    by : (length all ≡ 1048576) ⊎ ((length all < 1048576) ⊎ (1048576 < length all)) → IsRefusalOf all fault
    by (inl e) = as_read (omega arith)
    by (inr (inl less)) = as_read (omega arith)
    by (inr (inr long)) = record { says = refused_beyond all bytes fault long (is.beyond long) refusal.says; only = λ m spelt. absurd (not-le_of_lt long spelt.fits) }

-- a run whose module was refused
pub module_refused : (remaining : Option (List ℕ)) (bytes word : List ℕ) (contents : Option (List ℕ)) (failed : Bool) (fault : ReadFault) (r : Result Verdict RunFault)
    → r ≡ Err (run.Input fault) → IfSome remaining (λ all. IsInputOf 1048576 all bytes) → IsRefusalOf bytes fault → failed ≡ false
    → IfSome remaining (λ input. IsReplayOf input word contents contents failed r)
module_refused None bytes word contents failed fault r e is refusal sound = tt
module_refused (Some all) bytes word contents failed fault r e is refusal sound =
    subst (λ (r : Result Verdict RunFault). IsReplayOf all word contents contents failed r) (sym e) (refused_all all bytes fault is refusal, record { same = refl; sound = sound })

-- a run whose schedule was refused
pub schedule_refused : (remaining : Option (List ℕ)) (bytes word : List ℕ) (contents : Option (List ℕ)) (failed : Bool) (m : ModuleTree) (fault : ScheduleFault) (r : Result Verdict RunFault)
    → r ≡ Err (run.Schedule fault) → IfSome remaining (λ all. IsInputOf 1048576 all bytes) → SpellsModule bytes m → IsBadSchedule word fault → failed ≡ false
    → IfSome remaining (λ input. IsReplayOf input word contents contents failed r)
schedule_refused None bytes word contents failed m fault r e is spelt bad sound = tt
schedule_refused (Some all) bytes word contents failed m fault r e is spelt bad sound =
    subst (λ (r : Result Verdict RunFault). IsReplayOf all word contents contents failed r) (sym e)
    (record { program = m; module_text = spells_all all bytes m is spelt; bad = bad; quiet = record { same = refl; sound = sound } })

-- module and schedule were read
given_by : (all bytes word : List ℕ) (m : ModuleTree) (steps : List Step) → IsInputOf 1048576 all bytes → SpellsModule bytes m → AreLawful steps × (word ≡ text_of_schedule steps) → IsGiven all word m steps
given_by all bytes word m steps is spelt read = record { module_text = spells_all all bytes m is spelt; lawful = read.0; schedule_text = read.1 }

stopped_by : (all bytes word : List ℕ) (old new : Option (List ℕ)) (failed : Bool) (m : ModuleTree) (steps : List Step) (fault : ReplayFault)
    → IsGiven all word m steps → Replays (program_of m) steps old new failed (Err fault) → IsReplayOf all word old new failed (Err (refusal_of_replay fault))
stopped_by all bytes word old new failed m steps (replay.NotEnabled place) given ends = record { program = m; steps = steps; given = given; end = ends }
stopped_by all bytes word old new failed m steps replay.Memory given ends = record { program = m; steps = steps; given = given; end = ends }
stopped_by all bytes word old new failed m steps replay.Write given ends = record { program = m; steps = steps; given = given; end = ends }

-- a run whose replay stopped
pub replay_stopped : (remaining : Option (List ℕ)) (bytes word : List ℕ) (old new : Option (List ℕ)) (failed : Bool) (m : ModuleTree) (steps : List Step) (fault : ReplayFault) (r : Result Verdict RunFault)
    → r ≡ Err (refusal_of_replay fault) → IfSome remaining (λ all. IsInputOf 1048576 all bytes) → SpellsModule bytes m → AreLawful steps × (word ≡ text_of_schedule steps) → Replays (program_of m) steps old new failed (Err fault)
    → IfSome remaining (λ input. IsReplayOf input word old new failed r)
replay_stopped None bytes word old new failed m steps fault r e is spelt read ends = tt
replay_stopped (Some all) bytes word old new failed m steps fault r e is spelt read ends =
    subst (λ (r : Result Verdict RunFault). IsReplayOf all word old new failed r) (sym e) (stopped_by all bytes word old new failed m steps fault (given_by all bytes word m steps is spelt read) ends)

-- a run that was done
pub replayed : (remaining : Option (List ℕ)) (bytes word : List ℕ) (old new : Option (List ℕ)) (failed : Bool) (m : ModuleTree) (steps : List Step)
    → IfSome remaining (λ all. IsInputOf 1048576 all bytes) → SpellsModule bytes m → AreLawful steps × (word ≡ text_of_schedule steps) → Replays (program_of m) steps old new failed (Ok tt)
    → IfSome remaining (λ input. IsReplayOf input word old new failed (Ok Done))
replayed None bytes word old new failed m steps is spelt read ends = tt
replayed (Some all) bytes word old new failed m steps is spelt read ends = record { program = m; steps = steps; given = given_by all bytes word m steps is spelt read; end = ends }

pub bad_by : (word : List ℕ) (fault : ScheduleFault) → ((at : ℕ) → fault ≡ schedule.BadStep at → IsFirstBadStep word at) → IsBadSchedule word fault
bad_by word (schedule.BadStep at) bad = bad at refl
bad_by word schedule.Memory bad = tt
