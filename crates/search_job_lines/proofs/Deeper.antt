-- The jobs one step deeper, job by job and step by step.
use Rattle.std.proofs.Common.{◌≡◌, ◌<◌, ◌≤◌, ◌+◌, ◌-◌, ℕ, zero, suc, false, List, [], ◌∷◌, ◌++◌, length, get_or, drop, Some, None, refl, sym, ap, ap₂, ◌∙◌, subst, arith, append_assoc, append-nil, add-one}
use Rattle.std.proofs.lemmas.List.{at_drop_more, at_drop_all}
use Rattle.std.specs.Prelude.{Result, Ok, Err, OnOk}
use Rattle.core_tree.specs.Syntax.{ModuleTree}
use Rattle.term_core.specs.declared.step.Step.{Step}
use Rattle.world_core.specs.Advanced.{RunsTo, StopsAt}
use Rattle.world_core.specs.Seen.{Seen, new_world, program_in}
use Rattle.world_model.proofs.Runs.{runs_real}
use Rattle.world_model.specs.Asking.{program_of}
use Rattle.world_model.specs.Events.{History}
use Rattle.world_model.specs.Requests.{Program}
use Rattle.world_model.specs.Run.{IsRun, run, run_from}
use Rattle.tree_sleep.specs.Reached.{IsReached}
use Rattle.tree_coverage.specs.Jobs.{Job, asleep_below, awake_steps, jobs_along, jobs_behind, taken_steps}
use Rattle.search_jobs.proofs.Runs.{stopped}
use Rattle.tree_levels.specs.Levels.{jobs_at, next_jobs, next_of_all}

-- ---- the steps of a node

no_steps : (rest : List Step) → length rest ≡ 0 → rest ≡ []
no_steps [] none = refl
no_steps (s ∷ rest) none = absurd (omega (arith, none))

module _ (a : Program) (h : History) (prefix : List Step) where
  -- the job of one step was added
  pub step_added : (slept more rest later : List Step) (s : Step) (now new whole : List Job) (job : Job)
      → rest ≡ s ∷ later → more ≡ slept ++ s ∷ [] → new ≡ now ++ job ∷ [] → job ≡ record { prefix = prefix ++ s ∷ []; slept = asleep_below a h slept s }
      → now ++ jobs_along a h prefix slept rest ≡ whole → new ++ jobs_along a h prefix more later ≡ whole
  step_added slept more rest later s now new whole job next longer grown is so_far =
      ap₂ (λ xs ys. xs ++ jobs_along a h prefix ys later) grown longer
      ∙ append_assoc now (job ∷ []) (jobs_along a h prefix (slept ++ s ∷ []) later)
      ∙ ap (λ j. now ++ j ∷ jobs_along a h prefix (slept ++ s ∷ []) later) is
      ∙ ap (λ r. now ++ jobs_along a h prefix slept r) (sym next)
      ∙ so_far

  -- those of all were
  pub steps_added : (slept rest : List Step) (now whole : List Job) → length rest ≡ 0 → now ++ jobs_along a h prefix slept rest ≡ whole → now ≡ whole
  steps_added slept rest now whole none so_far =
      sym (append-nil now) ∙ ap (λ r. now ++ jobs_along a h prefix slept r) (sym (no_steps rest none)) ∙ so_far

-- ---- the node of a job

one_left : (n : ℕ) → suc n - n ≡ 1
one_left n = omega arith

-- the steps that are taken where one step more is
pub next_is : (a : Program) (job : Job) (h : History) → run a job.prefix ≡ Some h → next_jobs a job ≡ jobs_along a h job.prefix job.slept (awake_steps a h job.slept)
next_is a job h runs =
    ap (jobs_behind a (suc (length job.prefix) - length job.prefix) job) runs
    ∙ ap (λ n. jobs_along a h job.prefix job.slept (taken_steps a n h job.slept)) (one_left (length job.prefix))

pub none_next : (a : Program) (job : Job) → run a job.prefix ≡ None → next_jobs a job ≡ []
none_next a job none = ap (jobs_behind a (suc (length job.prefix) - length job.prefix) job) none

module _ (m : ModuleTree) (job : Job) (old new : Seen) (steps : List Step) (fresh : old ≡ new_world m) (is : steps ≡ job.prefix) where
  -- its schedule was taken
  pub schedule_runs : RunsTo (program_in old) old.history steps new.history → run (program_of m) job.prefix ≡ Some new.history
  schedule_runs runs = (λ i. run_from (program_in (sym fresh i)) (Some ((sym fresh i).history)) (sym is i)) ∙ runs

  same_program : new.program ≡ old.program → program_of m ≡ program_in new
  same_program same = sym (ap program_of (same ∙ ap (λ (w : Seen). w.program) fresh))

  pub is_reached : new.program ≡ old.program → RunsTo (program_in old) old.history steps new.history → new.spent ≡ false → IsReached new
  is_reached same runs lives = record {
    lives = lives;
    is_run = subst (λ (a : Program). IsRun a new.history) (same_program same) (runs_real (program_of m) job.prefix new.history (schedule_runs runs)).0;
  }

  -- so the jobs of its steps are those that are next
  pub steps_are_next : (prefix slept : List Step) (before after : List Job) → prefix ≡ job.prefix → slept ≡ job.slept → new.program ≡ old.program → RunsTo (program_in old) old.history steps new.history
      → after ≡ before ++ jobs_along (program_in new) new.history prefix slept (awake_steps (program_in new) new.history slept) → after ≡ before ++ next_jobs (program_of m) job
  steps_are_next prefix slept before after again asleep same runs added =
      added
      ∙ (λ i. before ++ jobs_along (sym (same_program same) i) new.history (again i) (asleep i) (awake_steps (sym (same_program same) i) new.history (asleep i)))
      ∙ ap (λ jobs. before ++ jobs) (sym (next_is (program_of m) job new.history (schedule_runs runs)))

  -- it was not
  pub stopped_has_none : (place : ℕ) (jobs : List Job) → StopsAt (program_in old) old.history steps place new.history → jobs ≡ jobs ++ next_jobs (program_of m) job
  stopped_has_none place jobs stops =
      let none : run (program_of m) job.prefix ≡ None = (λ i. run_from (program_in (sym fresh i)) (Some ((sym fresh i).history)) (sym is i)) ∙ stopped (program_in old) (Some old.history) steps (stops.before + 1) stops.ends in
      sym (append-nil jobs) ∙ ap (λ more. jobs ++ more) (sym (none_next (program_of m) job none))

pub on_ok : {T E : Type 0} {P Q : Type 0} (r : Result T E) → (P → Q) → OnOk r P → OnOk r Q
on_ok (Ok done) f p = f p
on_ok (Err fault) f p = tt

-- ---- the jobs of a depth, one after another

pub job_done : (a : Program) (jobs now new whole : List Job) (i : ℕ) (d job : Job) → i < length jobs → job ≡ get_or jobs i d → new ≡ now ++ next_jobs a job → now ++ next_of_all a (drop i jobs) ≡ whole → new ++ next_of_all a (drop (i + 1) jobs) ≡ whole
job_done a jobs now new whole i d job within at added so_far =
    ap (λ xs. xs ++ next_of_all a (drop (i + 1) jobs)) (added ∙ ap (λ j. now ++ next_jobs a j) at)
    ∙ append_assoc now (next_jobs a (get_or jobs i d)) (next_of_all a (drop (i + 1) jobs))
    ∙ ap (λ xs. now ++ xs) (sym (at_drop_more (next_of_all a) jobs i d within))
    ∙ so_far

pub jobs_done : (a : Program) (jobs now whole : List Job) (i : ℕ) → length jobs ≤ i → now ++ next_of_all a (drop i jobs) ≡ whole → now ≡ whole
jobs_done a jobs now whole i all so_far = sym (append-nil now) ∙ ap (λ xs. now ++ xs) (sym (at_drop_all (next_of_all a) jobs i all)) ∙ so_far

-- ---- depth by depth

pub one_deeper : (a : Program) (level : ℕ) (jobs next : List Job) → jobs ≡ jobs_at a level → next ≡ next_of_all a jobs → next ≡ jobs_at a (level + 1)
one_deeper a level jobs next at is = is ∙ ap (next_of_all a) at ∙ ap (jobs_at a) (sym (add-one level))

-- below no jobs there are no jobs
pub none_deeper : (a : Program) (level depth : ℕ) (jobs : List Job) → level ≤ depth → jobs ≡ jobs_at a level → length jobs ≡ 0 → jobs ≡ jobs_at a depth
none_deeper a level depth jobs within at none =
    no_jobs jobs none ∙ sym (later (depth - level) depth (omega (arith, within)))
  where
    no_jobs : (jobs : List Job) → length jobs ≡ 0 → jobs ≡ []
    no_jobs [] none = refl
    no_jobs (j ∷ jobs) none = absurd (omega (arith, none))

    later : (k n : ℕ) → n ≡ k + level → jobs_at a n ≡ []
    later zero n e = ap (jobs_at a) (let same : n ≡ level = omega (arith, e) in same) ∙ sym at ∙ no_jobs jobs none
    later (suc k) n e = ap (jobs_at a) (let same : n ≡ suc (k + level) = omega (arith, e) in same) ∙ ap (next_of_all a) (later k (k + level) refl)
