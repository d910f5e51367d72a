-- What a search by states results in, of all schedules that deliver signals at any time, or of those that deliver them at once.
use Rattle.std.specs.Prelude.{◌≡◌, ◌≤◌, ◌<◌, ℕ, zero, suc, true, List, [], Some, length}
use Rattle.core_tree.specs.Syntax.{ModuleTree}
use Rattle.search_levels.specs.declared.search.Bounds.{Bounds}
use Rattle.search_levels.specs.declared.search.Searched.{Searched}
use Rattle.term_core.specs.declared.step.Step.{Step}
use Rattle.tree_coverage.specs.Findings.{Findings, IsFound, findings_among}
use Rattle.tree_findings.specs.declared.outcome.Outcome.{Outcome}
use Rattle.tree_findings.specs.declared.outcome.Outcome.TheVariants.{Complete, Incomplete}
use Rattle.tree_schedules.specs.Deliveries.{DeliversBy}
use Rattle.tree_schedules.specs.Schedules.{IsShownBy, findings_of_all}
use Rattle.tree_schedules.specs.StandIns.{AreRuns}
use Rattle.tree_schedules.specs.declared.delivery.Delivery.{Delivery}
use Rattle.world_identities.specs.Identities.{flags_in}
use Rattle.world_model.specs.Asking.{program_of}
use Rattle.world_model.specs.Events.{History}
use Rattle.world_model.specs.Requests.{Program}
use Rattle.world_model.specs.Run.{run}
use Rattle.world_model.specs.Shown.{Flags, Identity, is_error, is_refusal, shown}

-- no schedule that delivers signals so and runs has more steps than this
abbrev pub IsLongest : Delivery → Program → ℕ → Type 0
IsLongest d a n = (s : List Step) (h : History) → DeliversBy d a s → run a s ≡ Some h → length s ≤ n

-- some schedule that delivers signals so and runs has more steps than this
abbrev pub IsLonger : Delivery → Program → ℕ → Type 0
IsLonger d a n = (s : List Step) × (n < length s) × DeliversBy d a s × (h : History) × (run a s ≡ Some h)

-- where none is cut off no schedule is longer, and else one is
abbrev pub TellsReach : Delivery → Program → ℕ → ℕ → Type 0
TellsReach d a n zero = IsLongest d a n
TellsReach d a n (suc cut) = IsLonger d a n

-- this is what some schedules of at most so many steps show that deliver signals so
pub record AreOfSome (flags : Flags) (d : Delivery) (a : Program) (n : ℕ) (findings : Findings) : Type 0 where
  pub visited : List (List Step)
  pub runs : AreRuns d a n visited
  pub found : findings ≡ findings_among flags a visited

-- what a schedule of at most so many steps shows that delivers signals so is found
pub record FindsTo (flags : Flags) (d : Delivery) (a : Program) (n : ℕ) (findings : Findings) : Type 0 where
  pub errors : (i : Identity) → is_error flags i ≡ true → IsShownBy d a n i → IsFound i findings.errors
  pub refusals : (i : Identity) → is_refusal i ≡ true → IsShownBy d a n i → IsFound i findings.refusals

-- of the schedules that deliver signals so. Complete: what all of them to the depth show, each identity with the least one that shows it, whether one is longer, and no more states than the limit. Stopped: what some of them show, and all that those of at most so many steps show
abbrev pub IsOutcomeOfAll : Flags → Delivery → Program → (depth limit whole_to : ℕ) → Outcome → Type 0
IsOutcomeOfAll flags d a depth limit whole_to (Complete findings extent) =
    (findings ≡ findings_of_all flags d a depth) × TellsReach d a depth extent.cut × (extent.nodes ≤ limit) × (whole_to ≡ depth)
IsOutcomeOfAll flags d a depth limit whole_to (Incomplete cause findings) = AreOfSome flags d a depth findings × FindsTo flags d a whole_to findings × (whole_to ≤ depth)

-- so it is with what a search results in
abbrev pub IsSearched : Flags → Delivery → Program → (depth limit : ℕ) → Searched → Type 0
IsSearched flags d a depth limit searched = IsOutcomeOfAll flags d a depth limit searched.whole_to searched.outcome

-- so it is where this was kept of the world before anything happened, and this is shown there
abbrev pub IsSearchFrom : (List ℕ → ModuleTree → History → Type 0) → ModuleTree → Bounds → List ℕ → List Identity → Searched → Type 0
IsSearchFrom Agrees m bounds first told searched =
    Agrees first m [] → told ≡ shown (program_of m) [] → IsSearched (flags_in bounds.flags) bounds.delivery (program_of m) bounds.depth bounds.states searched
