-- Which jobs the nodes at one depth of a tree are, and that its nodes are those above that depth and those of these jobs.
use Rattle.std.specs.List.{filter}
use Rattle.std.specs.List.Sorted.{IsPermutation}
use Rattle.std.specs.Prelude.{◌≡◌, ◌≤◌, ◌==◌, ℕ, zero, suc, true, List, [], ◌∷◌, ◌++◌, map, length, Some}
use Rattle.term_core.specs.declared.step.Step.{Step}
use Rattle.world_model.specs.Events.{History}
use Rattle.world_model.specs.Names.{IsAmong}
use Rattle.world_model.specs.Requests.{Program}
use Rattle.world_model.specs.Run.{is_enabled, run}
use Rattle.tree_coverage.specs.Jobs.{Job, jobs_below, nodes_of_all, root, schedules_of}
use Rattle.tree_coverage.specs.Trees.{nodes}

-- the jobs of the steps that are taken at the node of a job, one step deeper
abbrev pub next_jobs : Program → Job → List Job
next_jobs a job = jobs_below a (suc (length job.prefix)) job

-- those below each of these jobs, one job after another
abbrev pub next_of_all : Program → List Job → List Job
next_of_all a [] = []
next_of_all a (job ∷ jobs) = next_jobs a job ++ next_of_all a jobs

-- the jobs of the nodes at this depth, in the order of the search
abbrev pub jobs_at : Program → ℕ → List Job
jobs_at a zero = root ∷ []
jobs_at a (suc d) = next_of_all a (jobs_at a d)

-- the schedules of jobs
abbrev pub prefixes : List Job → List (List Step)
prefixes = map (λ job. job.prefix)

-- ---- what they are

-- their schedules are those of the nodes at this depth, of each tree that is as deep, in its order
abbrev pub JobsAreNodes : Type 0
JobsAreNodes = (a : Program) (n d : ℕ) → d ≤ n → prefixes (jobs_at a d) ≡ filter (λ (s : List Step). length s == d) (nodes a n)

-- each has a schedule of so many steps that runs, and what sleeps after it is enabled there
abbrev pub JobsCanBeTaken : Type 0
JobsCanBeTaken = (a : Program) (d : ℕ) (job : Job) → IsAmong job (jobs_at a d) → (length job.prefix ≡ d) × (h : History) × (run a job.prefix ≡ Some h) × ((s : Step) → IsAmong s job.slept → is_enabled a h s ≡ true)

-- ---- the nodes above them, and below

-- the nodes of a tree are those of the tree to a depth, and those of the jobs one step deeper
abbrev pub NodesAreAboveAndBelow : Type 0
NodesAreAboveAndBelow = (a : Program) (n d : ℕ) → suc d ≤ n → IsPermutation (nodes a n) (nodes a d ++ schedules_of (nodes_of_all a n (jobs_at a (suc d))))

-- at no depth there is one job, and it has all nodes
abbrev pub AllNodesAreBelow : Type 0
AllNodesAreBelow = (a : Program) (n : ℕ) → nodes a n ≡ schedules_of (nodes_of_all a n (jobs_at a 0))
