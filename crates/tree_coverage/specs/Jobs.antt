-- Jobs: a schedule with what sleeps after it means its node and all nodes below; and how jobs are split.
use Rattle.std.specs.List.{filter}
use Rattle.std.specs.Prelude.{◌≡◌, ℕ, zero, suc, ◌-◌, List, [], ◌∷◌, ◌++◌, map, length, Option, Some, None}
use Rattle.term_core.specs.declared.step.Step.{Step}
use Rattle.world_model.specs.Events.{Event, History}
use Rattle.world_model.specs.Independence.{are_independent}
use Rattle.world_model.specs.Requests.{Program}
use Rattle.world_model.specs.Run.{next_event, run}
use Rattle.tree_sleep_sets.specs.Search.{awake}
use Rattle.tree_coverage.specs.Explored.{explored, choice}
use Rattle.tree_coverage.specs.Trees.{nodes}

-- a node: its schedule, and the steps that are taken there
pub record Node : Type 0 where
  pub schedule : List Step
  pub taken : List Step

-- a job: the schedule of its node, and the steps that sleep there
pub record Job : Type 0 where
  pub prefix : List Step
  pub slept : List Step

-- what sleeps below a step: of what slept or comes before it in its line, what is independent of it
abbrev pub asleep_below : Program → History → List Step → Step → List Step
asleep_below a h slept s = filter (are_independent a h s) slept

-- the steps that the search takes: the enabled ones that do not sleep, in their order
abbrev pub awake_steps : Program → History → List Step → List Step
awake_steps a = awake (explored a) (choice a)

-- with so many steps left; at the depth none is taken
abbrev pub taken_steps : Program → ℕ → History → List Step → List Step
taken_steps a zero h slept = []
taken_steps a (suc n) h slept = awake_steps a h slept

-- ---- the nodes of a job

-- all nodes from one on, each before those below it: by its history, its schedule, and what sleeps there
abbrev pub FromNode : Type 0
FromNode = History → List Step → List Step → List Node

abbrev pub nodes_after : (History → List Node) → History → Option Event → List Node
nodes_after below h None = []
nodes_after below h (Some e) = below (e ∷ h)

-- those below the steps of a line; each step sleeps for those after it
abbrev pub nodes_along : FromNode → Program → History → List Step → List Step → List Step → List Node
nodes_along below a h schedule slept [] = []
nodes_along below a h schedule slept (s ∷ steps) =
    nodes_after (λ g. below g (schedule ++ s ∷ []) (asleep_below a h slept s)) h (next_event a h s) ++ nodes_along below a h schedule (slept ++ s ∷ []) steps

abbrev pub node_at : Program → ℕ → History → List Step → List Step → Node
node_at a n h schedule slept = record { schedule = schedule; taken = taken_steps a n h slept }

-- with so many steps left
abbrev pub nodes_from : Program → ℕ → FromNode
nodes_from a zero h schedule slept = node_at a zero h schedule slept ∷ []
nodes_from a (suc n) h schedule slept =
    node_at a (suc n) h schedule slept ∷ nodes_along (nodes_from a n) a h schedule slept (awake_steps a h slept)

abbrev pub nodes_behind : Program → ℕ → Job → Option History → List Node
nodes_behind a n job None = []
nodes_behind a n job (Some h) = nodes_from a n h job.prefix job.slept

-- how many steps may follow those of a job
abbrev pub steps_left : ℕ → Job → ℕ
steps_left n job = n - length job.prefix

-- the nodes of a job in the tree of so many steps; none where its schedule does not run
abbrev pub nodes_of : Program → ℕ → Job → List Node
nodes_of a n job = nodes_behind a (steps_left n job) job (run a job.prefix)

abbrev pub root : Job
root = record { prefix = []; slept = [] }

abbrev pub schedules_of : List Node → List (List Step)
schedules_of = map (λ v. v.schedule)

-- how many nodes it has
abbrev pub job_node_count : Program → ℕ → Job → ℕ
job_node_count a n job = length (nodes_of a n job)

-- the nodes of the root are all nodes of the tree
abbrev pub RootHasAllNodes : Type 0
RootHasAllNodes = (a : Program) (n : ℕ) → schedules_of (nodes_of a n root) ≡ nodes a n

-- ---- how jobs are split

-- the node of a job
abbrev pub own_node : Program → ℕ → Job → Option History → List Node
own_node a n job None = []
own_node a n job (Some h) = node_at a n h job.prefix job.slept ∷ []

abbrev pub own_node_of : Program → ℕ → Job → List Node
own_node_of a n job = own_node a (steps_left n job) job (run a job.prefix)

-- the jobs of the steps that are taken there, each with what sleeps below it
abbrev pub jobs_along : Program → History → List Step → List Step → List Step → List Job
jobs_along a h schedule slept [] = []
jobs_along a h schedule slept (s ∷ steps) =
    record { prefix = schedule ++ s ∷ []; slept = asleep_below a h slept s } ∷ jobs_along a h schedule (slept ++ s ∷ []) steps

abbrev pub jobs_behind : Program → ℕ → Job → Option History → List Job
jobs_behind a n job None = []
jobs_behind a n job (Some h) = jobs_along a h job.prefix job.slept (taken_steps a n h job.slept)

abbrev pub jobs_below : Program → ℕ → Job → List Job
jobs_below a n job = jobs_behind a (steps_left n job) job (run a job.prefix)

-- the nodes that are visited where so many of the open jobs are opened, the first one first, and the jobs that are open then
abbrev pub visited : Program → ℕ → ℕ → List Job → List Node
visited a n zero jobs = []
visited a n (suc budget) [] = []
visited a n (suc budget) (job ∷ jobs) = own_node_of a n job ++ visited a n budget (jobs_below a n job ++ jobs)

abbrev pub still_open : Program → ℕ → ℕ → List Job → List Job
still_open a n zero jobs = jobs
still_open a n (suc budget) [] = []
still_open a n (suc budget) (job ∷ jobs) = still_open a n budget (jobs_below a n job ++ jobs)

-- the nodes of some jobs, one job after another
abbrev pub nodes_of_all : Program → ℕ → List Job → List Node
nodes_of_all a n [] = []
nodes_of_all a n (job ∷ jobs) = nodes_of a n job ++ nodes_of_all a n jobs

-- whatever the budget, the nodes of jobs are those that are visited, and then those of the jobs that are open
abbrev pub JobsHaveTheirNodes : Type 0
JobsHaveTheirNodes = (a : Program) (n budget : ℕ) (jobs : List Job) → nodes_of_all a n jobs ≡ visited a n budget jobs ++ nodes_of_all a n (still_open a n budget jobs)
