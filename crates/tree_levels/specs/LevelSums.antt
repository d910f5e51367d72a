-- What the nodes of jobs show and how many they are, job by job, and that a tree has what is above a depth and what these have.
use Rattle.std.specs.List.Sorted.{IsPermutation}
use Rattle.std.specs.Prelude.{◌≡◌, ◌≤◌, ◌+◌, ℕ, suc, List, [], ◌∷◌, length}
use Rattle.world_model.specs.Requests.{Program}
use Rattle.world_model.specs.Shown.{Flags}
use Rattle.tree_coverage.specs.Findings.{Findings, findings_among, findings_of}
use Rattle.tree_coverage.specs.Jobs.{Job, nodes_of, nodes_of_all, schedules_of}
use Rattle.tree_coverage.specs.Trees.{node_count}
use Rattle.tree_findings.specs.Merging.{merged_findings, nothing}
use Rattle.tree_cuts.specs.Cuts.{cut_count, cuts_of}
use Rattle.tree_levels.specs.Levels.{jobs_at}

-- ---- job by job

-- what the nodes of a job show
abbrev pub findings_of_job : Flags → Program → ℕ → Job → Findings
findings_of_job flags a n job = findings_among flags a (schedules_of (nodes_of a n job))

-- those of each of these jobs, merged
abbrev pub findings_of_jobs : Flags → Program → ℕ → List Job → Findings
findings_of_jobs flags a n [] = nothing
findings_of_jobs flags a n (job ∷ jobs) = merged_findings (findings_of_job flags a n job) (findings_of_jobs flags a n jobs)

-- how many nodes they have
abbrev pub node_count_of_jobs : Program → ℕ → List Job → ℕ
node_count_of_jobs a n [] = 0
node_count_of_jobs a n (job ∷ jobs) = length (nodes_of a n job) + node_count_of_jobs a n jobs

-- and at how many of these the tree is cut
abbrev pub cut_count_of_jobs : Program → ℕ → List Job → ℕ
cut_count_of_jobs a n [] = 0
cut_count_of_jobs a n (job ∷ jobs) = cut_count a n (schedules_of (nodes_of a n job)) + cut_count_of_jobs a n jobs

-- ---- all jobs together

-- that is what all their nodes together show
abbrev pub JobsShowWhatNodesShow : Type 0
JobsShowWhatNodesShow = (flags : Flags) (a : Program) (n : ℕ) (jobs : List Job) → findings_of_jobs flags a n jobs ≡ findings_among flags a (schedules_of (nodes_of_all a n jobs))

-- how many these are, and at how many the tree is cut
abbrev pub JobsCountTheirNodes : Type 0
JobsCountTheirNodes = (a : Program) (n : ℕ) (jobs : List Job) → (node_count_of_jobs a n jobs ≡ length (nodes_of_all a n jobs)) × (cut_count_of_jobs a n jobs ≡ cut_count a n (schedules_of (nodes_of_all a n jobs)))

-- in whatever order the jobs come
abbrev pub JobsShowInAnyOrder : Type 0
JobsShowInAnyOrder = (flags : Flags) (a : Program) (n : ℕ) (jobs others : List Job) → IsPermutation jobs others → findings_of_jobs flags a n jobs ≡ findings_of_jobs flags a n others

abbrev pub JobsCountInAnyOrder : Type 0
JobsCountInAnyOrder = (a : Program) (n : ℕ) (jobs others : List Job) → IsPermutation jobs others → (node_count_of_jobs a n jobs ≡ node_count_of_jobs a n others) × (cut_count_of_jobs a n jobs ≡ cut_count_of_jobs a n others)

-- ---- a tree, above a depth and below

-- what it shows is what the tree to a depth shows, and the jobs one step deeper
abbrev pub FindingsAreAboveAndBelow : Type 0
FindingsAreAboveAndBelow = (flags : Flags) (a : Program) (n d : ℕ) → suc d ≤ n → findings_of flags a n ≡ merged_findings (findings_of flags a d) (findings_of_jobs flags a n (jobs_at a (suc d)))

-- it has the nodes of that tree and of these jobs
abbrev pub CountsAreAboveAndBelow : Type 0
CountsAreAboveAndBelow = (a : Program) (n d : ℕ) → suc d ≤ n → node_count a n ≡ node_count a d + node_count_of_jobs a n (jobs_at a (suc d))

-- and it is cut only among the nodes of jobs at most as deep as it
abbrev pub CutsAreBelow : Type 0
CutsAreBelow = (a : Program) (n d : ℕ) → d ≤ n → cuts_of a n ≡ cut_count_of_jobs a n (jobs_at a d)

-- the one job at no depth has all that the tree has
abbrev pub AllFindingsAreBelow : Type 0
AllFindingsAreBelow = (flags : Flags) (a : Program) (n : ℕ) → findings_of flags a n ≡ findings_of_jobs flags a n (jobs_at a 0)

abbrev pub AllCountsAreBelow : Type 0
AllCountsAreBelow = (a : Program) (n : ℕ) → node_count a n ≡ node_count_of_jobs a n (jobs_at a 0)
