-- The steps of a node that are taken.
use Rattle.std.proofs.Common.{◌≡◌, List, filter, not}
use Rattle.world_model.specs.Events.{History}
use Rattle.world_model.specs.Requests.{Program}
use Rattle.world_model.specs.Run.{enabled_steps}
use Rattle.tree_coverage.specs.Explored.{same_step}
use Rattle.tree_coverage.specs.Jobs.{awake_steps}
use Rattle.tree_sleep_sets.specs.Search.{is_among}
use Rattle.search_agenda.specs.Plans.{Shared, steps_in}

-- the enabled steps that do not sleep are those that are taken
pub awake_given : (a : Program) (h : History) (given slept : List Shared) → given ≡ slept → filter (λ s. not (is_among same_step (steps_in given) s)) (enabled_steps a h) ≡ awake_steps a h (steps_in slept)
awake_given a h given slept same = λ i. filter (λ s. not (is_among same_step (steps_in (same i)) s)) (enabled_steps a h)
