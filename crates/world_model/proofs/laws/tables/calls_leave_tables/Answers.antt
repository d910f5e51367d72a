use Rattle.world_model.proofs.OwnerLaws.{leaves_table, makes_table}
use Rattle.world_model.proofs.laws.tables.calls_leave_tables.Goals as goal

pub returns-clause-table : goal.returns-clause-table
returns-clause-table c = leaves_table

pub returns-clause-made : goal.returns-clause-made
returns-clause-made c = makes_table
