-- Covers: a tree written as lines, one for each node, and when such lines are good.
use Rattle.std.specs.List.{filter, list_all}
use Rattle.std.specs.Prelude.{◌≡◌, ◌≤◌, ℕ, zero, suc, Bool, true, false, ◌&&◌, not, if◌then◌else◌, List, [], ◌∷◌, ◌++◌, map, Option, Some, None, option_and_then, length}
use Rattle.term_core.specs.declared.step.Step.{Step}
use Rattle.world_model.specs.Events.{Event, History}
use Rattle.world_model.specs.Requests.{Program}
use Rattle.world_model.specs.Run.{next_event, is_enabled, enabled_steps}
use Rattle.world_model.specs.Shown.{Identity, shown}
use Rattle.tree_sleep_sets.specs.Search.{is_among}
use Rattle.tree_coverage.specs.Explored.{same_step}
use Rattle.tree_coverage.specs.Jobs.{Node, Job, asleep_below, nodes_of, root}
use Rattle.tree_coverage.specs.Shown.{RunShows, IsShown}

-- the steps that are taken at each node, in preorder
abbrev pub Lines : Type 0
Lines = List (List Step)

-- ---- one line

abbrev pub is_one_of : List Step → Step → Bool
is_one_of = is_among same_step

-- no step occurs twice
abbrev pub are_once : List Step → Bool
are_once [] = true
are_once (s ∷ steps) = not (is_one_of steps s) && are_once steps

abbrev pub is_empty : {X : Type 0} → List X → Bool
is_empty [] = true
is_empty (x ∷ xs) = false

-- the node shows nothing that counts as an error
abbrev pub is_clean : (Identity → Bool) → Program → History → Bool
is_clean counts a h = is_empty (filter counts (shown a h))

-- above the depth: enabled steps, each once, and each enabled step is taken or sleeps
abbrev pub is_good_line : (Identity → Bool) → Program → History → List Step → List Step → Bool
is_good_line counts a h slept line =
    is_clean counts a h && (are_once line && (list_all (is_enabled a h) line && list_all (is_one_of (slept ++ line)) (enabled_steps a h)))

-- at the depth no step is taken
abbrev pub is_good_end : (Identity → Bool) → Program → History → List Step → Bool
is_good_end counts a h line = is_clean counts a h && is_empty line

-- ---- all lines

-- how lines are used up from a node on: by its history, what sleeps there, and the lines from its own on
abbrev pub Below : Type 0
Below = History → List Step → Lines → Option Lines

-- a step that is not enabled has no node, and so no lines
abbrev pub left_by_next : Lines → (History → Option Lines) → History → Option Event → Option Lines
left_by_next lines below h None = Some lines
left_by_next lines below h (Some e) = below (e ∷ h)

-- what the node below one step leaves of the lines
abbrev pub left_by_step : Below → Program → History → List Step → Step → Lines → Option Lines
left_by_step below a h slept s lines = left_by_next lines (λ g. below g (asleep_below a h slept s) lines) h (next_event a h s)

-- what the nodes below the steps of a line leave, one after another; each step sleeps for those after it
abbrev pub left_by_steps : Below → Program → History → List Step → List Step → Lines → Option Lines
left_by_steps below a h slept [] lines = Some lines
left_by_steps below a h slept (s ∷ steps) lines =
    option_and_then (left_by_steps below a h (slept ++ s ∷ []) steps) (left_by_step below a h slept s lines)

abbrev pub left_if : Bool → Option Lines → Option Lines
left_if good left = if good then left else None

-- what is left after the lines of a node and of all nodes below it; none where these are not good
abbrev pub left_over : (Identity → Bool) → Program → ℕ → History → List Step → Lines → Option Lines
left_over counts a zero h slept [] = None
left_over counts a zero h slept (line ∷ lines) = left_if (is_good_end counts a h line) (Some lines)
left_over counts a (suc n) h slept [] = None
left_over counts a (suc n) h slept (line ∷ lines) =
    left_if (is_good_line counts a h slept line) (left_by_steps (left_over counts a n) a h slept line lines)

-- the lines of the root and of all below it are good, and no line is left over
abbrev pub IsGoodCover : (Identity → Bool) → Program → ℕ → Lines → Type 0
IsGoodCover counts a n lines = left_over counts a n [] [] lines ≡ Some []

-- ---- what a good cover says

-- no schedule of at most so many steps shows an error, whoever wrote the lines
abbrev pub CoversShowNoError : Type 0
CoversShowNoError = (counts : Identity → Bool) (a : Program) (n : ℕ) (lines : Lines) → IsGoodCover counts a n lines → (s : List Step) (i : Identity) → length s ≤ n → RunShows a s i → counts i ≡ false

-- ---- the cover that the search writes

-- the cover of a job: its nodes, each with the steps that are taken there
abbrev pub cover_of : Program → ℕ → Job → List Node
cover_of a n job = nodes_of a n job

abbrev pub lines_of : List Node → Lines
lines_of = map (λ v. v.taken)

-- no schedule of at most so many steps shows anything that counts as an error
abbrev pub ShowsNothing : (Identity → Bool) → Program → ℕ → Type 0
ShowsNothing counts a n = (i : Identity) → counts i ≡ true → IsShown a n i → ⊥

-- where no schedule shows an error, the tree's own lines are a good cover
abbrev pub OwnCoversAreGood : Type 0
OwnCoversAreGood = (counts : Identity → Bool) (a : Program) (n : ℕ) → ShowsNothing counts a n → IsGoodCover counts a n (lines_of (cover_of a n root))
