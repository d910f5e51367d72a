use Rattle.tree_sleep_sets.specs.Certificate.{written}
use Rattle.tree_sleep_sets.specs.Toy.{stones, players, signs}
use Rattle.tree_sleep_sets.proofs.Searching.{tested}
use Rattle.tree_sleep_sets.proofs.Showing.{covers_schedules, covers_signs}
use Rattle.tree_sleep_sets.proofs.ToyLaws.{toy_laws, toy_signs, toy_choice}
use Rattle.tree_sleep_sets.proofs.toy.tested_trees_cover.Goals as goal

pub returns-clause-schedules : goal.returns-clause-schedules
returns-clause-schedules c = λ bag n t w e.
    covers_schedules (stones bag) (written (stones bag)) (toy_laws bag) n t w tt (tested (stones bag) (players bag) (written (stones bag)) (toy_choice bag) (toy_laws bag) n t w tt _ e)

pub returns-clause-signs : goal.returns-clause-signs
returns-clause-signs c = λ bag n t w e.
    covers_signs (stones bag) (written (stones bag)) (toy_laws bag) (signs bag) (toy_signs bag) n t w tt (tested (stones bag) (players bag) (written (stones bag)) (toy_choice bag) (toy_laws bag) n t w tt _ e)
