-- Where a tree is cut at its depth, and what a tree says of all schedules that is cut nowhere.
use Rattle.std.specs.List.{filter}
use Rattle.std.specs.List.Sorted.{IsPermutation}
use Rattle.std.specs.Prelude.{◌≡◌, ◌≤◌, ◌↔◌, ◌==◌, ◌&&◌, ◌+◌, ℕ, Bool, true, false, not, List, [], ◌++◌, length, Option, Some, None}
use Rattle.term_core.specs.declared.step.Step.{Step}
use Rattle.world_model.specs.Events.{History}
use Rattle.world_model.specs.Requests.{Program}
use Rattle.world_model.specs.Run.{enabled_steps, run}
use Rattle.world_model.specs.Shown.{Identity, Flags, is_error, is_refusal}
use Rattle.tree_coverage.specs.Covers.{is_empty}
use Rattle.tree_coverage.specs.Findings.{IsFound, findings_of}
use Rattle.tree_coverage.specs.Jobs.{Job, nodes_of, nodes_of_all, root, schedules_of, still_open, visited}
use Rattle.tree_coverage.specs.Shown.{RunShows}
use Rattle.tree_coverage.specs.Trees.{nodes}

-- some step is enabled after a history
abbrev pub goes_on : Program → Option History → Bool
goes_on a None = false
goes_on a (Some h) = not (is_empty (enabled_steps a h))

-- the tree is cut at a schedule: it has as many steps as the depth, and some step is enabled after it, even one that sleeps there
abbrev pub is_cut : Program → ℕ → List Step → Bool
is_cut a n s = length s == n && goes_on a (run a s)

-- a node is cut by its history and by how many steps may follow: none may, and some step is enabled
abbrev pub NodesTellCuts : Type 0
NodesTellCuts = (a : Program) (n left : ℕ) (s : List Step) (h : History) → run a s ≡ Some h → length s + left ≡ n → is_cut a n s ≡ (left == 0 && goes_on a (Some h))

-- ---- how often it is cut

-- at how many of these schedules
abbrev pub cut_count : Program → ℕ → List (List Step) → ℕ
cut_count a n schedules = length (filter (is_cut a n) schedules)

-- at how many of its nodes
abbrev pub cuts_of : Program → ℕ → ℕ
cuts_of a n = cut_count a n (nodes a n)

-- at none
abbrev pub IsUncut : Program → ℕ → Type 0
IsUncut a n = cuts_of a n ≡ 0

-- these counts add up
abbrev pub CutsAddUp : Type 0
CutsAddUp = (a : Program) (n : ℕ) (ss ts : List (List Step)) → cut_count a n (ss ++ ts) ≡ cut_count a n ss + cut_count a n ts

-- and a tree is cut at no more schedules than it has
abbrev pub CutsAreSome : Type 0
CutsAreSome = (a : Program) (n : ℕ) (schedules : List (List Step)) → cut_count a n schedules ≤ length schedules

-- whatever the order of the schedules
abbrev pub CutsInAnyOrder : Type 0
CutsInAnyOrder = (a : Program) (n : ℕ) (ss ts : List (List Step)) → IsPermutation ss ts → cut_count a n ss ≡ cut_count a n ts

-- the cuts of a tree are those of the nodes of its root
abbrev pub RootHasAllCuts : Type 0
RootHasAllCuts = (a : Program) (n : ℕ) → cut_count a n (schedules_of (nodes_of a n root)) ≡ cuts_of a n

-- whatever the budget, the cuts of jobs are those of the nodes that are visited and those of the jobs that are open
abbrev pub JobsHaveTheirCuts : Type 0
JobsHaveTheirCuts = (a : Program) (n budget : ℕ) (jobs : List Job) → cut_count a n (schedules_of (nodes_of_all a n jobs)) ≡ cut_count a n (schedules_of (visited a n budget jobs)) + cut_count a n (schedules_of (nodes_of_all a n (still_open a n budget jobs)))

-- ---- a tree that is cut nowhere

-- it is one exactly where no schedule that runs has more steps than the tree is deep
abbrev pub CutsAreExact : Type 0
CutsAreExact = (a : Program) (n : ℕ) → IsUncut a n ↔ ((s : List Step) (h : History) → run a s ≡ Some h → length s ≤ n)

-- each deeper tree has the same nodes
abbrev pub UncutTreesAreWhole : Type 0
UncutTreesAreWhole = (a : Program) (n m : ℕ) → IsUncut a n → n ≤ m → nodes a m ≡ nodes a n

-- with the same steps taken there
abbrev pub UncutRootsAreWhole : Type 0
UncutRootsAreWhole = (a : Program) (n m : ℕ) → IsUncut a n → n ≤ m → nodes_of a m root ≡ nodes_of a n root

-- and the same findings
abbrev pub UncutFindingsAreWhole : Type 0
UncutFindingsAreWhole = (flags : Flags) (a : Program) (n m : ℕ) → IsUncut a n → n ≤ m → findings_of flags a m ≡ findings_of flags a n

-- some schedule shows it, of whatever length
abbrev pub IsEverShown : Program → Identity → Type 0
IsEverShown a i = (s : List Step) × RunShows a s i

-- an error is found exactly where some schedule shows it, of whatever length
abbrev pub UncutErrorsAreExact : Type 0
UncutErrorsAreExact = (flags : Flags) (a : Program) (n : ℕ) (i : Identity) → IsUncut a n → IsFound i (findings_of flags a n).errors ↔ ((is_error flags i ≡ true) × IsEverShown a i)

-- and a refusal
abbrev pub UncutRefusalsAreExact : Type 0
UncutRefusalsAreExact = (flags : Flags) (a : Program) (n : ℕ) (i : Identity) → IsUncut a n → IsFound i (findings_of flags a n).refusals ↔ ((is_refusal i ≡ true) × IsEverShown a i)

-- so where no error is found, no schedule shows one, of whatever length
abbrev pub UncutTreesShowNoError : Type 0
UncutTreesShowNoError = (flags : Flags) (a : Program) (n : ℕ) → IsUncut a n → (findings_of flags a n).errors ≡ [] → (s : List Step) (i : Identity) → RunShows a s i → is_error flags i ≡ false
