-- The jobs at a few depths of the trees of small modules, and what is above them and below.
use Rattle.std.specs.Prelude.{◌≡◌, ℕ, List, [], ◌∷◌}
use Rattle.core_tree.specs.Syntax.{ModuleTree}
use Rattle.term_core.specs.declared.step.Step.{Step}
use Rattle.world_model.specs.Asking.{program_of}
use Rattle.world_model.specs.ShownExamples.{plain}
use Rattle.tree_coverage.specs.CoverExamples.{two_end, one_key, one, d}
use Rattle.tree_coverage.specs.FindingExamples.{two_wait, both_wait, read_of_private}
use Rattle.tree_coverage.specs.JobExamples.{after_first, after_second}
use Rattle.tree_coverage.specs.Jobs.{Job, nodes_of_all, root, schedules_of}
use Rattle.tree_coverage.specs.Trees.{p, c, two_tables, private_read, HasTree}
use Rattle.tree_levels.specs.Levels.{jobs_at}
use Rattle.tree_levels.specs.LevelSums.{findings_of_jobs, node_count_of_jobs, cut_count_of_jobs}

-- the jobs of the nodes at this depth of the tree of a module are these
abbrev pub HasJobs : ModuleTree → ℕ → List Job → Type 0
HasJobs m depth jobs = jobs_at (program_of m) depth ≡ jobs

-- and their nodes in the tree of so many steps have these schedules
abbrev pub HasBelow : ModuleTree → ℕ → ℕ → List (List Step) → Type 0
HasBelow m n depth schedules = schedules_of (nodes_of_all (program_of m) n (jobs_at (program_of m) depth)) ≡ schedules

abbrev pub job : List Step → List Step → Job
job prefix slept = record { prefix = prefix; slept = slept }

-- ---- a process spawns another, and both end: in the second job the step sleeps that the first one began with

abbrev pub TwoEndBegin : Type 0
TwoEndBegin = HasJobs two_end 0 (root ∷ [])

abbrev pub TwoEndGoOn : Type 0
TwoEndGoOn = HasJobs two_end 2 (after_first ∷ after_second ∷ [])

-- where all that is enabled sleeps nothing is below, and where all have ended
abbrev pub TwoEndEnd : Type 0
TwoEndEnd = HasJobs two_end 3 (job (p ∷ p ∷ c ∷ []) [] ∷ [])

abbrev pub TwoEndHaveEnded : Type 0
TwoEndHaveEnded = HasJobs two_end 4 []

-- the nodes to three steps are the two above the jobs, and the three of them
abbrev pub TwoEndAbove : Type 0
TwoEndAbove = HasTree two_end 1 ([] ∷ one p ∷ [])

abbrev pub TwoEndBelow : Type 0
TwoEndBelow = HasBelow two_end 3 2 ((p ∷ p ∷ []) ∷ (p ∷ p ∷ c ∷ []) ∷ (p ∷ c ∷ []) ∷ [])

abbrev pub TwoEndAreFive : Type 0
TwoEndAreFive = HasTree two_end 3 ([] ∷ one p ∷ (p ∷ p ∷ []) ∷ (p ∷ p ∷ c ∷ []) ∷ (p ∷ c ∷ []) ∷ [])

-- ---- two processes make a table each and end: the search visits a node above the jobs after the first of them

abbrev pub TwoTablesGoOn : Type 0
TwoTablesGoOn = HasJobs two_tables 3 (job (p ∷ p ∷ p ∷ []) [] ∷ job (p ∷ p ∷ c ∷ []) (one p) ∷ job (p ∷ c ∷ c ∷ []) (one p) ∷ [])

abbrev pub TwoTablesAbove : Type 0
TwoTablesAbove = HasTree two_tables 2 ([] ∷ one p ∷ (p ∷ p ∷ []) ∷ (p ∷ c ∷ []) ∷ [])

abbrev pub TwoTablesBelow : Type 0
TwoTablesBelow = HasBelow two_tables 5 3 (
    (p ∷ p ∷ p ∷ [])
    ∷ (p ∷ p ∷ p ∷ c ∷ [])
    ∷ (p ∷ p ∷ p ∷ c ∷ c ∷ [])
    ∷ (p ∷ p ∷ c ∷ [])
    ∷ (p ∷ p ∷ c ∷ c ∷ [])
    ∷ (p ∷ c ∷ c ∷ [])
    ∷ [])

-- ---- two processes put one object into one table: what would sleep wakes up where a step is taken that depends on it

abbrev pub OneKeyGoesOn : Type 0
OneKeyGoesOn = HasJobs one_key 3 (job (p ∷ p ∷ p ∷ []) [] ∷ job (p ∷ p ∷ d ∷ []) [] ∷ [])

-- ---- what jobs show, and how many nodes they have

-- two processes that wait for ever: the deadlock is that of the one job after the first step
abbrev pub TwoWaitAreFound : Type 0
TwoWaitAreFound = findings_of_jobs plain (program_of two_wait) 1 (jobs_at (program_of two_wait) 1) ≡ record { errors = both_wait ∷ []; refusals = [] }

-- and of the job before it, which has that node too
abbrev pub TwoWaitAreFoundBelow : Type 0
TwoWaitAreFoundBelow = findings_of_jobs plain (program_of two_wait) 1 (jobs_at (program_of two_wait) 0) ≡ record { errors = both_wait ∷ []; refusals = [] }

-- a private table is read: the refusal is that of the second of two jobs
abbrev pub ReadIsFound : Type 0
ReadIsFound = findings_of_jobs plain (program_of private_read) 3 (jobs_at (program_of private_read) 3) ≡ record { errors = []; refusals = read_of_private ∷ [] }

-- to four steps the three jobs have five nodes, and the tree is cut at two of them
abbrev pub TwoTablesAreFive : Type 0
TwoTablesAreFive = node_count_of_jobs (program_of two_tables) 4 (jobs_at (program_of two_tables) 3) ≡ 5

abbrev pub TwoTablesAreCut : Type 0
TwoTablesAreCut = cut_count_of_jobs (program_of two_tables) 4 (jobs_at (program_of two_tables) 3) ≡ 2
