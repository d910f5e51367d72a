use Rattle.world_model.proofs.AllRows.{are_rows, are_by_key, are_walked}
use Rattle.world_model.proofs.laws.tables.rows_are_by_key.Goals as goal

pub returns-clause-rows : goal.returns-clause-rows
returns-clause-rows c = are_rows

pub returns-clause-settled : goal.returns-clause-settled
returns-clause-settled c = are_by_key

pub returns-clause-walked : goal.returns-clause-walked
returns-clause-walked c = are_walked
