-- Each job at a depth has a schedule that runs, and what sleeps after it is enabled there.
use Rattle.std.proofs.Common.{◌≡◌, inl, inr, ℕ, zero, suc, ◌-◌, ◌<◌, true, not, List, [], ◌∷◌, ◌++◌, length, Option, Some, None, is_some, refl, sym, ap, ◌∙◌, subst, arith}
use Rattle.std.proofs.lemmas.List.{length_push}
use Rattle.term_core.specs.declared.step.Step.{Step}
use Rattle.world_model.specs.Commuting.{Commutes}
use Rattle.world_model.specs.Events.{Event, History}
use Rattle.world_model.specs.Independence.{are_independent}
use Rattle.world_model.specs.Names.{IsAmong}
use Rattle.world_model.specs.Requests.{Program}
use Rattle.world_model.specs.Run.{next_event, is_enabled, enabled_steps, extended, run}
use Rattle.world_model.specs.Steps.{next_deed}
use Rattle.world_model.specs.World.{contents}
use Rattle.world_model.proofs.Histories.{independent_commute, step_is}
use Rattle.world_model.proofs.Opened.{listed_enabled}
use Rattle.tree_coverage.specs.Covers.{is_one_of}
use Rattle.tree_coverage.specs.Jobs.{Job, asleep_below, awake_steps, steps_left, root, jobs_along, jobs_behind, jobs_below}
use Rattle.tree_coverage.proofs.JobLaws.{one_more}
use Rattle.tree_coverage.proofs.Lists.{among_append, kept_passes}
use Rattle.tree_levels.specs.Levels.{next_jobs, next_of_all, jobs_at, JobsCanBeTaken}

-- a job at a depth: its schedule has so many steps and runs, and what sleeps after it is enabled there
pub record IsTaken (a : Program) (depth : ℕ) (job : Job) : Type 0 where
  pub history : History
  pub is_deep : length job.prefix ≡ depth
  pub runs : run a job.prefix ≡ Some history
  pub sleep : (s : Step) → IsAmong s job.slept → is_enabled a history s ≡ true

abbrev pub AreTaken : Program → ℕ → List Job → Type 0
AreTaken a depth jobs = (job : Job) → IsAmong job jobs → IsTaken a depth job

-- ---- of two independent steps each is enabled after the other

some_is : (e f : Event) → Some e ≡ Some f → e ≡ f
some_is e f is = cc

still_enabled : (a : Program) (h : History) (s t : Step) (e : Event) → are_independent a h s t ≡ true → next_event a h s ≡ Some e → is_enabled a (e ∷ h) t ≡ true
still_enabled a h s t e test next =
    let k = independent_commute a h s t test in
    let f : Event = k.1 in
    let c : Commutes a h k.0 f = k.4 in
    let same : k.0 ≡ e = some_is k.0 e (sym k.2 ∙ next) in
    let is : t ≡ f.step = step_is t (next_deed a (contents h) t) f k.3 in
    ap is_some (ap (λ g. next_event a (g ∷ h) t) (sym same) ∙ ap (next_event a (k.0 ∷ h)) is ∙ c.second_after_first)

-- ---- the jobs of the steps of a line

longer : (schedule : List Step) (s : Step) → length (schedule ++ s ∷ []) ≡ suc (length schedule)
longer schedule s = omega (arith, length_push schedule s)

module _ (a : Program) (h : History) (schedule : List Step) (now : run a schedule ≡ Some h) where
  abbrev child : List Step → Step → Job
  child slept s = record { prefix = schedule ++ s ∷ []; slept = asleep_below a h slept s }

  child_taken : (slept : List Step) (s : Step) (o : Option Event) → next_event a h s ≡ o → is_some o ≡ true → IsTaken a (suc (length schedule)) (child slept s)
  child_taken slept s None is enabled = absurd cc
  child_taken slept s (Some e) is enabled = record {
    history = e ∷ h;
    is_deep = longer schedule s;
    runs = one_more a schedule h s now ∙ ap (extended h) is;
    sleep = λ t there. still_enabled a h s t e (kept_passes (are_independent a h s) slept t there).0 is;
  }

  along_taken : (slept steps : List Step) → ((s : Step) → IsAmong s steps → is_enabled a h s ≡ true) → AreTaken a (suc (length schedule)) (jobs_along a h schedule slept steps)
  along_taken slept [] each job there = absurd there
  along_taken slept (s ∷ steps) each job (inl is) =
      subst (IsTaken a (suc (length schedule))) is (child_taken slept s (next_event a h s) refl (each s (inl refl)))
  along_taken slept (s ∷ steps) each job (inr there) = along_taken (slept ++ s ∷ []) steps (λ t more. each t (inr more)) job there

awake_enabled : (a : Program) (h : History) (slept : List Step) (s : Step) → IsAmong s (awake_steps a h slept) → is_enabled a h s ≡ true
awake_enabled a h slept s there = listed_enabled a h s (kept_passes (λ t. not (is_one_of slept t)) (enabled_steps a h) s there).1

-- ---- the jobs below a node, in a tree that is deeper

some_left : (n k depth : ℕ) → k ≡ depth → depth < n → n - k ≡ suc (n - suc depth)
some_left n k depth is higher = omega (arith, is, higher)

none_left : (n k : ℕ) → k ≡ n → n - k ≡ 0
none_left n k is = omega (arith, is)

one_left : (k : ℕ) → suc k - k ≡ 1
one_left k = omega arith

below_is : (a : Program) (n left : ℕ) (job : Job) (h : History) → run a job.prefix ≡ Some h → steps_left n job ≡ suc left → jobs_below a n job ≡ jobs_along a h job.prefix job.slept (awake_steps a h job.slept)
below_is a n left job h now is = λ i. jobs_behind a (is i) job (now i)

next_is : (a : Program) (job : Job) (h : History) → run a job.prefix ≡ Some h → next_jobs a job ≡ jobs_along a h job.prefix job.slept (awake_steps a h job.slept)
next_is a job h now = below_is a (suc (length job.prefix)) 0 job h now (one_left (length job.prefix))

-- these are its next jobs
pub below_next : (a : Program) (n depth : ℕ) (job : Job) → IsTaken a depth job → depth < n → jobs_below a n job ≡ next_jobs a job
below_next a n depth job t higher =
    below_is a n (n - suc depth) job t.history t.runs (some_left n (length job.prefix) depth t.is_deep higher) ∙ sym (next_is a job t.history t.runs)

-- at the depth of the tree there are no jobs below
pub below_none : (a : Program) (n : ℕ) (job : Job) → IsTaken a n job → jobs_below a n job ≡ []
below_none a n job t =
    let none : steps_left n job ≡ 0 = none_left n (length job.prefix) t.is_deep in
    λ i. jobs_behind a (none i) job (t.runs i)

-- ---- one step deeper

pub next_taken : (a : Program) (depth : ℕ) (job : Job) → IsTaken a depth job → AreTaken a (suc depth) (next_jobs a job)
next_taken a depth job t k there =
    let along : List Job = jobs_along a t.history job.prefix job.slept (awake_steps a t.history job.slept) in
    let below : IsAmong k along = subst (IsAmong k) (next_is a job t.history t.runs) there in
    subst (λ m. IsTaken a (suc m) k) t.is_deep (along_taken a t.history job.prefix t.runs job.slept (awake_steps a t.history job.slept) (awake_enabled a t.history job.slept) k below)

all_taken : (a : Program) (depth : ℕ) (jobs : List Job) → AreTaken a depth jobs → AreTaken a (suc depth) (next_of_all a jobs)
all_taken a depth [] each k there = absurd there
all_taken a depth (job ∷ jobs) each k there = elim (among_append (next_jobs a job) (next_of_all a jobs) k there) [
  | inl first ↦ next_taken a depth job (each job (inl refl)) k first
  | inr later ↦ all_taken a depth jobs (λ j more. each j (inr more)) k later
]

root_taken : (a : Program) → IsTaken a 0 root
root_taken a = record { history = []; is_deep = refl; runs = refl; sleep = λ s there. absurd there }

pub jobs_taken : (a : Program) (depth : ℕ) → AreTaken a depth (jobs_at a depth)
jobs_taken a zero job (inl is) = subst (IsTaken a 0) is (root_taken a)
jobs_taken a zero job (inr there) = absurd there
jobs_taken a (suc depth) job there = all_taken a depth (jobs_at a depth) (jobs_taken a depth) job there

pub can_be_taken : JobsCanBeTaken
can_be_taken a depth job there =
    let t : IsTaken a depth job = jobs_taken a depth job there in
    (t.is_deep, t.history, t.runs, t.sleep)
