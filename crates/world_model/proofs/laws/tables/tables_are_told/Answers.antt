use Rattle.world_model.proofs.TableHistory.{table_told, rows_told}
use Rattle.world_model.proofs.laws.tables.tables_are_told.Goals as goal

pub returns-clause-table : goal.returns-clause-table
returns-clause-table c = table_told

pub returns-clause-rows : goal.returns-clause-rows
returns-clause-rows c = rows_told
