use Rattle.world_model.proofs.OwnerLaws.{passes_tables, passes_rows}
use Rattle.world_model.proofs.laws.tables.ends_pass_tables.Goals as goal

pub returns-clause-tables : goal.returns-clause-tables
returns-clause-tables c = passes_tables

pub returns-clause-rows : goal.returns-clause-rows
returns-clause-rows c = passes_rows
