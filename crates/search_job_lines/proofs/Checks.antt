-- Whether the name of a job can be taken: its schedule in a new world, and what sleeps there.
use Rattle.std.proofs.Common.{◌≡◌, ◌<◌, ◌≤◌, ◌+◌, ◌-◌, ℕ, Bool, true, false, List, [], ◌∷◌, ◌++◌, length, Option, Some, None, inl, inr, refl, sym, ap, ◌∙◌, subst, arith, append_assoc, append-nil, length-append, Result, Ok, Err, IfErr, MatchOption}
use Rattle.std.specs.Prelude.{OnOk}
use Rattle.core_tree.specs.Syntax.{ModuleTree}
use Rattle.term_core.specs.declared.step.Step.{Step}
use Rattle.world_core.specs.Advanced.{RunsTo, StopsAt}
use Rattle.world_core.specs.Seen.{Seen, new_world}
use Rattle.world_core.specs.Seen as seen
use Rattle.world_model.specs.Asking.{program_of}
use Rattle.world_model.specs.Events.{History}
use Rattle.world_model.specs.Names.{IsAmong}
use Rattle.world_model.specs.Requests.{Program}
use Rattle.world_model.specs.Run.{enabled_steps, is_enabled, run, run_from}
use Rattle.tree_sleep.proofs.Listed.{listed}
use Rattle.tree_coverage.specs.Covers.{is_one_of}
use Rattle.tree_coverage.specs.Jobs.{Job}
use Rattle.tree_coverage.proofs.Lists.{among_append}
use Rattle.search_jobs.specs.Explorations.{ExplorationSeen, program_in}
use Rattle.search_jobs.specs.Reached.{IsJob}
use Rattle.search_job_lines.specs.Faults.{IsAwakeAt, IsFirstAwake, IsStoppedAt}
use Rattle.search_job_lines.specs.Reading.{AreEnabled}
use Rattle.search_job_lines.specs.declared.fault.JobFault.{JobFault}
use Rattle.search_job_lines.specs.declared.fault.JobFault.TheVariants as faults
use Rattle.search_job_lines.specs.inside.Parts.{IsNameFault, IsSleeperFault, IsTakenName}

-- ---- the steps that sleep, one after another

-- before this rest each step is among those that are enabled
pub record IsChecked (enabled steps rest : List Step) : Type 0 where
  pub before : List Step
  pub parts : steps ≡ before ++ rest
  pub all_listed : (s : Step) → IsAmong s before → is_one_of enabled s ≡ true

pub unchecked : (enabled steps : List Step) → IsChecked enabled steps steps
unchecked enabled steps = record { before = []; parts = refl; all_listed = λ s there. absurd there }

still_listed : (enabled before : List Step) (x : Step) → is_one_of enabled x ≡ true → ((s : Step) → IsAmong s before → is_one_of enabled s ≡ true) → (s : Step) → IsAmong s (before ++ x ∷ []) → is_one_of enabled s ≡ true
still_listed enabled before x is all s there = elim (among_append before (x ∷ []) s there) [
  | inl early ↦ all s early
  | inr last ↦ elim last [ inl same ↦ ap (is_one_of enabled) (sym same) ∙ is | inr nothing ↦ absurd nothing ]
]

pub one_checked : (enabled steps rest later : List Step) (x : Step) → rest ≡ x ∷ later → is_one_of enabled x ≡ true → IsChecked enabled steps rest → IsChecked enabled steps later
one_checked enabled steps rest later x next is c = record {
  before = c.before ++ x ∷ [];
  parts = c.parts ∙ ap (λ w. c.before ++ w) next ∙ sym (append_assoc c.before (x ∷ []) later);
  all_listed = still_listed enabled c.before x is c.all_listed;
}

pub fewer : (enabled steps rest : List Step) → IsChecked enabled steps rest → length rest ≤ length steps
fewer enabled steps rest c =
    let whole : length steps ≡ length c.before + length rest = ap length c.parts ∙ length-append c.before rest in
    omega (arith, whole)

no_steps : (rest : List Step) → length rest ≡ 0 → rest ≡ []
no_steps [] none = refl
no_steps (s ∷ rest) none = absurd (omega (arith, none))

module _ (a : Program) (h : History) (enabled steps rest : List Step) (are : enabled ≡ enabled_steps a h) (c : IsChecked enabled steps rest) where
  is_listed : (s : Step) (b : Bool) → is_one_of enabled s ≡ b → is_enabled a h s ≡ b
  is_listed s b e = sym (listed a h s) ∙ ap (λ all. is_one_of all s) (sym are) ∙ e

  -- each was
  pub all_enabled : length rest ≡ 0 → AreEnabled a h steps
  all_enabled none s there =
      let whole : steps ≡ c.before = c.parts ∙ ap (λ w. c.before ++ w) (no_steps rest none) ∙ append-nil c.before in
      is_listed s true (c.all_listed s (subst (IsAmong s) whole there))

  -- or this is the first that was not
  pub first_awake : (x : Step) (later : List Step) → rest ≡ x ∷ later → is_one_of enabled x ≡ false → IsFirstAwake a h steps (length steps - length rest + 1)
  first_awake x later next other =
      let whole : length steps ≡ length c.before + length rest = ap length c.parts ∙ length-append c.before rest in
      record {
        before = c.before;
        step = x;
        after = later;
        parts = c.parts ∙ ap (λ w. c.before ++ w) next;
        counted = omega (arith, whole);
        enabled = λ s there. is_listed s true (c.all_listed s there);
        refused = is_listed x false other;
      }

-- ---- the world of the schedule

-- a world of the job's node
pub record IsNode (e : ExplorationSeen) (name : Job) (w : Seen) : Type 0 where
  pub program : seen.program_in w ≡ program_in e
  pub short : length name.prefix ≤ e.depth
  pub reached : run (program_in e) name.prefix ≡ Some w.history

module _ (e : ExplorationSeen) (name : Job) (old new : Seen) (steps : List Step) (fresh : old ≡ new_world e.program) (is : steps ≡ name.prefix) (short : length name.prefix ≤ e.depth) where
  -- the schedule was taken
  pub is_node : new.program ≡ old.program → RunsTo (seen.program_in old) old.history steps new.history → IsNode e name new
  is_node same runs = record {
    program = ap program_of (same ∙ ap (λ (w : Seen). w.program) fresh);
    short = short;
    reached = (λ i. run_from (seen.program_in (sym fresh i)) (Some ((sym fresh i).history)) (sym is i)) ∙ runs;
  }

  -- or not
  pub is_stopped : (place : ℕ) → StopsAt (seen.program_in old) old.history steps place new.history → IsStoppedAt e place name
  is_stopped place stops = record {
    short = short;
    history = new.history;
    stops = subst (λ (w : Seen). StopsAt (seen.program_in w) w.history name.prefix place new.history) fresh (subst (λ s. StopsAt (seen.program_in old) old.history s place new.history) is stops);
  }

module _ (e : ExplorationSeen) (name : Job) (w : Seen) (node : IsNode e name w) (slept : List Step) (is : slept ≡ name.slept) where
  abbrev is_job : IsJob e name
  is_job = record { short = node.short; history = w.history; reached = node.reached }

  pub taken_if : (r : Result (Unit {0}) JobFault) → OnOk r (AreEnabled (seen.program_in w) w.history slept) → OnOk r (IsTakenName e name)
  taken_if (Ok done) all = record { is_job = is_job; asleep = λ s there. ap (λ (a : Program). is_enabled a w.history s) (sym node.program) ∙ all s (subst (IsAmong s) (sym is) there) }
  taken_if (Err fault) all = tt

  sleeper_fault : (fault : JobFault) → IsSleeperFault (seen.program_in w) w.history slept fault → IsNameFault e name fault
  sleeper_fault faults.NoBar f = f
  sleeper_fault (faults.BadStep at) f = f
  sleeper_fault (faults.BadSleeper at) f = f
  sleeper_fault faults.TooLong f = absurd f
  sleeper_fault (faults.NotEnabled place) f = absurd f
  sleeper_fault (faults.NotAsleep place) f = record {
    is_job = is_job;
    awake = subst (λ (a : Program). IsFirstAwake a w.history name.slept place) node.program (subst (λ s. IsFirstAwake (seen.program_in w) w.history s place) is f);
  }
  sleeper_fault faults.Memory f = f

  pub fault_if : (r : Result (Unit {0}) JobFault) → IfErr r (IsSleeperFault (seen.program_in w) w.history slept) → IfErr r (IsNameFault e name)
  fault_if (Ok done) f = tt
  fault_if (Err fault) f = sleeper_fault fault f
