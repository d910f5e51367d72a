use Rattle.world_model.proofs.Owned.{owners_live}
use Rattle.world_model.proofs.laws.runs.tables_have_owners.Goals as goal

pub returns : goal.returns
returns c = owners_live
