use Rattle.world_model.proofs.RowsWritten.{leaves_rows, keeps_the_last}
use Rattle.world_model.proofs.laws.tables.calls_leave_rows.Goals as goal

pub returns-clause-rows : goal.returns-clause-rows
returns-clause-rows c = leaves_rows

pub returns-clause-sets : goal.returns-clause-sets
returns-clause-sets c = keeps_the_last
