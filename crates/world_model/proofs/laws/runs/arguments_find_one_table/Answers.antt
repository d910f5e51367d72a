use Rattle.world_model.proofs.Named.{names_mean_theirs, finds_one}
use Rattle.world_model.proofs.laws.runs.arguments_find_one_table.Goals as goal

pub returns-clause-names : goal.returns-clause-names
returns-clause-names c = names_mean_theirs

pub returns-clause-one : goal.returns-clause-one
returns-clause-one c = finds_one
