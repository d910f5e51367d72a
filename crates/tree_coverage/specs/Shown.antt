-- What the nodes of the tree show.
use Rattle.std.specs.Prelude.{◌≡◌, ◌≤◌, ◌↔◌, ℕ, List, [], ◌∷◌, codes, length, Option, Some, None}
use Rattle.term_core.specs.declared.step.Step.{Step}
use Rattle.core_tree.specs.Syntax.{ModuleTree}
use Rattle.core_calls.specs.declared.call.CallKind.TheVariants as kinds
use Rattle.world_model.specs.Asking.{program_of}
use Rattle.world_model.specs.Events.{History}
use Rattle.world_model.specs.ExampleRuns.{P, P_2, t, a_1, error_of}
use Rattle.world_model.specs.Requests.{Program}
use Rattle.world_model.specs.Run.{run}
use Rattle.world_model.specs.Shown.{Identity, End, RefusedCall, shown, Shows}
use Rattle.world_model.specs.TableExamples.{stranger}
use Rattle.world_model.specs.declared.rule.Rule.{Rule}
use Rattle.world_model.specs.declared.rule.Rule.TheVariants.{ProtectedWrite, NoTable}
use Rattle.term_core.specs.declared.step.Step.TheVariants.{Turn}
use Rattle.world_model.specs.Names.{Pid, IsAmong}
use Rattle.tree_coverage.specs.Trees.{nodes, p}

-- a schedule runs, and its history shows the identity
abbrev pub RunShows : Program → List Step → Identity → Type 0
RunShows a s i = (h : History) × (run a s ≡ Some h) × Shows a h i

-- some schedule of at most so many steps shows it
abbrev pub IsShown : Program → ℕ → Identity → Type 0
IsShown a n i = (s : List Step) × (length s ≤ n) × RunShows a s i

-- some schedule of the list shows it
abbrev pub IsShownByOne : Program → List (List Step) → Identity → Type 0
IsShownByOne a schedules i = (s : List Step) × IsAmong s schedules × RunShows a s i

-- some schedule of at most so many steps shows an identity exactly where that of some node does
abbrev pub NodesShowTheSame : Type 0
NodesShowTheSame = (a : Program) (n : ℕ) (i : Identity) → IsShown a n i ↔ IsShownByOne a (nodes a n) i

-- ---- what the tree of a small module shows

-- what a schedule shows, if it runs
abbrev pub shown_after : Program → Option History → List Identity
shown_after a None = []
shown_after a (Some h) = shown a h

-- the schedule is listed where it shows something
abbrev pub told_if_any : List Step → List Identity → List (List Step × List Identity) → List (List Step × List Identity)
told_if_any s [] rest = rest
told_if_any s (i ∷ is) rest = (s, i ∷ is) ∷ rest

abbrev pub told_of : Program → List (List Step) → List (List Step × List Identity)
told_of a [] = []
told_of a (s ∷ schedules) = told_if_any s (shown_after a (run a s)) (told_of a schedules)

-- these nodes of the tree show something, and this
abbrev pub TreeShows : ModuleTree → ℕ → List (List Step × List Identity) → Type 0
TreeShows m n told = told_of (program_of m) (nodes (program_of m) n) ≡ told

abbrev pub c_2 : Step
c_2 = Turn P_2

abbrev pub refused_by : Rule → Option Pid → Identity
refused_by rule owner = RefusedCall P_2 1 kinds.Insert (t ∷ a_1 ∷ []) rule owner

abbrev pub ended : Identity
ended = End P_2 (error_of (codes "badarg"))

-- the call of the stranger is refused while the owner lives, and after its end, each by its rule; then it ends with badarg
abbrev pub StrangerShows : Type 0
StrangerShows = TreeShows stranger 5 (
    (p ∷ p ∷ p ∷ c_2 ∷ [], refused_by NoTable None ∷ [])
    ∷ (p ∷ p ∷ p ∷ c_2 ∷ c_2 ∷ [], ended ∷ [])
    ∷ (p ∷ p ∷ c_2 ∷ [], refused_by ProtectedWrite (Some P) ∷ [])
    ∷ (p ∷ p ∷ c_2 ∷ p ∷ c_2 ∷ [], ended ∷ [])
    ∷ (p ∷ p ∷ c_2 ∷ c_2 ∷ [], ended ∷ [])
    ∷ [])
