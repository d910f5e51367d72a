-- The names of nodes.
use Rattle.std.specs.Prelude.{◌≡◌, ◌≤◌, Some, length}
use Rattle.world_model.specs.Events.{History}
use Rattle.world_model.specs.Run.{run}
use Rattle.tree_coverage.specs.Jobs.{Job}
use Rattle.search_jobs.specs.Explorations.{ExplorationSeen, program_in}

-- the name is one of a node
pub record IsJob (e : ExplorationSeen) (name : Job) : Type 0 where
  pub short : length name.prefix ≤ e.depth
  pub history : History
  pub reached : run (program_in e) name.prefix ≡ Some history
