use Rattle.world_model.proofs.FoundLaws.{found_told}
use Rattle.world_model.proofs.Named.{tables_found, found_are_there}
use Rattle.world_model.proofs.laws.tables.finding_is_told.Goals as goal

pub returns-clause-all : goal.returns-clause-all
returns-clause-all c = tables_found

pub returns-clause-only : goal.returns-clause-only
returns-clause-only c = found_are_there

pub returns-clause-told : goal.returns-clause-told
returns-clause-told c = found_told
