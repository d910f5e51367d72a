use Rattle.world_model.proofs.BondLaws.{linked_told, watched_told, guarded_told, holder_told}
use Rattle.world_model.proofs.HolderLaws.{holders_are_all}
use Rattle.world_model.proofs.laws.processes.bonds_are_told.Goals as goal

pub returns-clause-linked : goal.returns-clause-linked
returns-clause-linked c = linked_told

pub returns-clause-watched : goal.returns-clause-watched
returns-clause-watched c = watched_told

pub returns-clause-guarded : goal.returns-clause-guarded
returns-clause-guarded c = guarded_told

pub returns-clause-holder : goal.returns-clause-holder
returns-clause-holder c = holder_told

pub returns-clause-holders : goal.returns-clause-holders
returns-clause-holders c = holders_are_all
