use Rattle.tree_sleep_sets.specs.Search.{search}
use Rattle.tree_sleep_sets.specs.Toy.{stones, players, signs}
use Rattle.tree_sleep_sets.proofs.Searching.{searched}
use Rattle.tree_sleep_sets.proofs.Showing.{covers_schedules, covers_signs}
use Rattle.tree_sleep_sets.proofs.ToyLaws.{toy_laws, toy_signs, toy_choice}
use Rattle.tree_sleep_sets.proofs.toy.searches_cover.Goals as goal

pub returns-clause-schedules : goal.returns-clause-schedules
returns-clause-schedules c = λ bag n w.
    covers_schedules (stones bag) (search (stones bag) (players bag)) (toy_laws bag) n tt w tt (searched (stones bag) (players bag) (toy_laws bag) (toy_choice bag) n tt w tt _)

pub returns-clause-signs : goal.returns-clause-signs
returns-clause-signs c = λ bag n w.
    covers_signs (stones bag) (search (stones bag) (players bag)) (toy_laws bag) (signs bag) (toy_signs bag) n tt w tt (searched (stones bag) (players bag) (toy_laws bag) (toy_choice bag) n tt w tt _)
