use Rattle.world_model.proofs.Borne.{holder_told_in_runs}
use Rattle.world_model.proofs.OwnerHistory.{owner_told}
use Rattle.world_model.proofs.laws.runs.owners_are_told.Goals as goal

pub returns-clause-owner : goal.returns-clause-owner
returns-clause-owner c = owner_told

pub returns-clause-holder : goal.returns-clause-holder
returns-clause-holder c = holder_told_in_runs
