-- A line is the text of one job alone, and what a fault says of a line is not so of that of a job.
use Rattle.std.proofs.Common.{◌≡◌, ◌<◌, ◌+◌, ℕ, true≢false, List, [], ◌∷◌, ◌++◌, length, Some, inl, inr, refl, sym, ap, ◌∙◌, subst, arith, Result, Ok, Err, IfErr}
use Rattle.term_core.proofs.ScheduleTexts.{no_schedule, schedule_injective}
use Rattle.term_core.specs.Schedule.{IsLawfulStep}
use Rattle.term_core.specs.Text.{text_of_schedule}
use Rattle.term_core.specs.declared.step.Step.{Step}
use Rattle.world_model.specs.Events.{History}
use Rattle.world_model.specs.Names.{IsAmong}
use Rattle.world_model.specs.Run.{is_enabled, run}
use Rattle.tree_coverage.specs.Jobs.{Job}
use Rattle.world_model.proofs.Runs.{runs_real}
use Rattle.world_pids.proofs.Texts.{enabled_lawful, events_of, schedule_lawful}
use Rattle.tree_coverage.proofs.Lists.{all_among, among_right}
use Rattle.search_jobs.specs.Explorations.{ExplorationSeen, JobSeen, program_in}
use Rattle.search_jobs.proofs.Runs.{not_none, stopped}
use Rattle.tree_levels.specs.Levels.{JobsCanBeTaken}
use Rattle.search_job_lines.specs.Faults.{IsAwakeAt, IsJobFault, IsStoppedAt, IsTextWhere}
use Rattle.search_job_lines.specs.JobLineLaws.{LinesSayOneJob, OwnTextsAreJobLines}
use Rattle.search_job_lines.specs.JobText.{text_of_job}
use Rattle.search_job_lines.specs.Reading.{IsJobLine}
use Rattle.search_job_lines.specs.declared.fault.JobFault.{JobFault}
use Rattle.search_job_lines.specs.declared.fault.JobFault.TheVariants as faults
use Rattle.search_job_lines.specs.inside.Parts.{IsNameFault, IsTakenName, IsTextFault, IsTextOf}
use Rattle.search_job_lines.proofs.Bars.{cut_is, lacks_bar, one_cut}

-- ---- one job

pub one_job : LinesSayOneJob
one_job line name other h k e f =
    let same = one_cut (text_of_schedule name.prefix) (text_of_schedule name.slept) (text_of_schedule other.prefix) (text_of_schedule other.slept) (lacks_bar name.prefix h.0) (lacks_bar other.prefix k.0) (sym e ∙ f) in
    let prefix : name.prefix ≡ other.prefix = schedule_injective name.prefix other.prefix h.0 k.0 same.0 in
    let slept : name.slept ≡ other.slept = schedule_injective name.slept other.slept h.1 k.1 same.1 in
    λ i. record { prefix = prefix i; slept = slept i }

-- ---- the faults of a line that is that of a job

module _ (e : ExplorationSeen) (line : List ℕ) (name : Job) (is : IsJobLine e line name) where
  -- what is true of the job with this line as its text
  so_of : (IsSo : Job → Type 0) → IsTextWhere line IsSo → IsSo name
  so_of IsSo w = subst IsSo (one_job line w.name name w.lawful is.lawful w.text is.text) w.is_so

  not_stopped : (place : ℕ) → IsStoppedAt e place name → ⊥
  not_stopped place at =
      not_none (run (program_in e) name.prefix) is.is_job.history is.is_job.reached (stopped (program_in e) (Some []) name.prefix (at.stops.before + 1) at.stops.ends)

  one_history : (h : History) → run (program_in e) name.prefix ≡ Some h → is.is_job.history ≡ h
  one_history h now = some_is is.is_job.history h (sym is.is_job.reached ∙ now)
    where
      some_is : (g h : History) → Some g ≡ Some h → g ≡ h
      some_is g h e = cc

  not_awake : (place : ℕ) → IsAwakeAt e place name → ⊥
  not_awake place at =
      let s = at.awake.step in
      let among : IsAmong s name.slept = subst (IsAmong s) (sym at.awake.parts) (among_right at.awake.before (s ∷ at.awake.after) s (inl refl)) in
      true≢false (sym (is.asleep s among) ∙ ap (λ (h : History). is_enabled (program_in e) h s) (one_history at.is_job.history at.is_job.reached) ∙ at.awake.refused)

  pub only_memory : (fault : JobFault) → IsJobFault e line fault → fault ≡ faults.Memory
  only_memory faults.NoBar f = absurd (f (text_of_schedule name.prefix) (text_of_schedule name.slept) is.text)
  only_memory (faults.BadStep at) f =
      let same = cut_is f.front f.behind (text_of_schedule name.prefix) (text_of_schedule name.slept) (f.cut.is_first (text_of_schedule name.prefix) (text_of_schedule name.slept) is.text) (lacks_bar name.prefix is.lawful.0) (sym f.cut.parts ∙ is.text) in
      absurd (no_schedule f.front at f.bad name.prefix is.lawful.0 same.0)
  only_memory (faults.BadSleeper at) f =
      let same = one_cut (text_of_schedule f.steps) f.behind (text_of_schedule name.prefix) (text_of_schedule name.slept) (lacks_bar f.steps f.lawful) (lacks_bar name.prefix is.lawful.0) (sym f.parts ∙ is.text) in
      absurd (no_schedule f.behind at f.bad name.slept is.lawful.1 same.1)
  only_memory faults.TooLong f =
      let long : e.depth < length name.prefix = so_of (λ j. e.depth < length j.prefix) f in
      absurd (omega (arith, long, is.is_job.short))
  only_memory (faults.NotEnabled place) f = absurd (not_stopped place (so_of (IsStoppedAt e place) f))
  only_memory (faults.NotAsleep place) f = absurd (not_awake place (so_of (IsAwakeAt e place) f))
  only_memory faults.Memory f = refl

  -- a result that is an error of the line
  pub refused_by : {T : Type 0} (r : Result T JobFault) (fault : JobFault) → r ≡ Err fault → IsJobFault e line fault → IfErr r (λ f. f ≡ faults.Memory)
  refused_by r fault err f = subst (λ x. IfErr x (λ f. f ≡ faults.Memory)) (sym err) (only_memory fault f)

-- ---- which fault it is

pub fault_by : {T : Type 0} (P : JobFault → Type 0) (r : Result T JobFault) (fault : JobFault) → r ≡ Err fault → P fault → IfErr r P
fault_by P r fault err f = subst (λ x. IfErr x P) (sym err) f

pub text_fault : (e : ExplorationSeen) (line : List ℕ) (fault : JobFault) → IsTextFault line fault → IsJobFault e line fault
text_fault e line faults.NoBar f = f
text_fault e line (faults.BadStep at) f = f
text_fault e line (faults.BadSleeper at) f = f
text_fault e line faults.TooLong f = absurd f
text_fault e line (faults.NotEnabled place) f = absurd f
text_fault e line (faults.NotAsleep place) f = absurd f
text_fault e line faults.Memory f = f

pub name_fault : (e : ExplorationSeen) (line : List ℕ) (name : Job) (fault : JobFault) → IsTextOf line name → IsNameFault e name fault → IsJobFault e line fault
name_fault e line name faults.NoBar t f = absurd f
name_fault e line name (faults.BadStep at) t f = absurd f
name_fault e line name (faults.BadSleeper at) t f = absurd f
name_fault e line name faults.TooLong t f = record { name = name; text = t.text; lawful = t.lawful; is_so = f }
name_fault e line name (faults.NotEnabled place) t f = record { name = name; text = t.text; lawful = t.lawful; is_so = f }
name_fault e line name (faults.NotAsleep place) t f = record { name = name; text = t.text; lawful = t.lawful; is_so = f }
name_fault e line name faults.Memory t f = f

-- ---- what is read

pub is_read : (e : ExplorationSeen) (line : List ℕ) (name : Job) (job : JobSeen) → name ≡ job.name → IsTextOf line name → IsTakenName e name → IsJobLine e line job.name
is_read e line name job same t n = subst (IsJobLine e line) same (record { text = t.text; lawful = t.lawful; is_job = n.is_job; asleep = n.asleep })

-- ---- the jobs of a depth

pub own_texts : JobsCanBeTaken → OwnTextsAreJobLines
own_texts taken e d name fits short among =
    let job = taken (program_in e) d name among in
    let long = events_of (program_in e) name.prefix job.1 job.2 in
    let real = (runs_real (program_in e) name.prefix job.1 job.2).0 in
    record {
      text = refl;
      lawful = (
        schedule_lawful e.program name.prefix job.1 job.2 (omega (arith, fits, short, job.0)),
        all_among IsLawfulStep name.slept (λ s there. enabled_lawful e.program job.1 s real (omega (arith, long, fits, short, job.0)) (job.3 s there)),
      );
      is_job = record { short = omega (arith, short, job.0); history = job.1; reached = job.2 };
      asleep = job.3;
    }
