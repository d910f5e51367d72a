-- How the tree of a small module is split into jobs, and the cover that the search writes of it.
use Rattle.std.specs.Prelude.{◌≡◌, [], ◌∷◌}
use Rattle.world_model.specs.Asking.{program_of}
use Rattle.tree_coverage.specs.CoverExamples.{two_end, one}
use Rattle.tree_coverage.specs.Covers.{cover_of, lines_of}
use Rattle.tree_coverage.specs.Jobs.{Job, job_node_count, root, schedules_of, visited, still_open}
use Rattle.tree_coverage.specs.Trees.{p, c}

-- a process spawns another, and both end: to three steps that is five nodes
abbrev pub TwoEndHasFive : Type 0
TwoEndHasFive = job_node_count (program_of two_end) 3 root ≡ 5

-- the cover of all of them
abbrev pub TwoEndIsCovered : Type 0
TwoEndIsCovered = lines_of (cover_of (program_of two_end) 3 root) ≡ one p ∷ (p ∷ c ∷ []) ∷ one c ∷ [] ∷ [] ∷ []

-- after two nodes two jobs are left; in the second one the step sleeps that the first one began with
abbrev pub after_first : Job
after_first = record { prefix = p ∷ p ∷ []; slept = [] }

abbrev pub after_second : Job
after_second = record { prefix = p ∷ c ∷ []; slept = p ∷ [] }

abbrev pub TwoJobsAreLeft : Type 0
TwoJobsAreLeft = still_open (program_of two_end) 3 2 (root ∷ []) ≡ after_first ∷ after_second ∷ []

abbrev pub TwoNodesAreVisited : Type 0
TwoNodesAreVisited = schedules_of (visited (program_of two_end) 3 2 (root ∷ [])) ≡ [] ∷ one p ∷ []

-- these jobs have the other three nodes
abbrev pub FirstHasTwo : Type 0
FirstHasTwo = job_node_count (program_of two_end) 3 after_first ≡ 2

abbrev pub SecondHasOne : Type 0
SecondHasOne = job_node_count (program_of two_end) 3 after_second ≡ 1

-- the nodes below a node are visited before those beside it
abbrev pub DeeperIsVisitedFirst : Type 0
DeeperIsVisitedFirst = schedules_of (visited (program_of two_end) 3 4 (root ∷ [])) ≡ [] ∷ one p ∷ (p ∷ p ∷ []) ∷ (p ∷ p ∷ c ∷ []) ∷ []

-- a job goes no deeper than the tree: to two steps the first one has its own node alone
abbrev pub FirstEndsAtTheDepth : Type 0
FirstEndsAtTheDepth = job_node_count (program_of two_end) 2 after_first ≡ 1

-- and no step is taken at its depth
abbrev pub TwoStepsAreCovered : Type 0
TwoStepsAreCovered = lines_of (cover_of (program_of two_end) 2 root) ≡ one p ∷ (p ∷ c ∷ []) ∷ [] ∷ [] ∷ []
