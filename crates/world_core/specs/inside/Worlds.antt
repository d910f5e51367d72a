-- Records that are what a history leaves.
use Rattle.core_tree.specs.Syntax.{ModuleTree}
use Rattle.world_model.specs.Asking.{program_of}
use Rattle.world_model.specs.Events.{History}
use Rattle.world_model.specs.Run.{IsRun}
use Rattle.world_model.specs.World.{contents}
use Rattle.world_records.specs.Records.{Agrees}
use Rattle.world_records.specs.declared.records.Records.{Records}

-- the records are what a history leaves, and the history is a run
pub record IsWorld (m : ModuleTree) (h : History) (records : Records) : Type 0 where
  pub agrees : Agrees m records (contents h)
  pub is_run : IsRun (program_of m) h
