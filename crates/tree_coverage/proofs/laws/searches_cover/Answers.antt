use Rattle.std.specs.Prelude.{[]}
use Rattle.tree_sleep_sets.specs.Search.{search}
use Rattle.tree_sleep_sets.proofs.Searching.{searched}
use Rattle.tree_sleep_sets.proofs.Showing.{covers_schedules, covers_signs}
use Rattle.tree_coverage.specs.Explored.{explored, choice, signs}
use Rattle.tree_coverage.proofs.Instance.{laws, choice_laws, sign_laws}
use Rattle.tree_coverage.proofs.laws.searches_cover.Goals as goal

pub returns-clause-schedules : goal.returns-clause-schedules
returns-clause-schedules c = λ a n.
    covers_schedules (explored a) (search (explored a) (choice a)) (laws a) n tt [] tt (searched (explored a) (choice a) (laws a) (choice_laws a) n tt [] tt _)

pub returns-clause-signs : goal.returns-clause-signs
returns-clause-signs c = λ a n.
    covers_signs (explored a) (search (explored a) (choice a)) (laws a) (signs a) (sign_laws a) n tt [] tt (searched (explored a) (choice a) (laws a) (choice_laws a) n tt [] tt _)
