use Rattle.world_model.proofs.RowsWritten.{writes_rows}
use Rattle.world_model.proofs.laws.tables.calls_write_their_rows.Goals as goal

pub returns : goal.returns
returns c = writes_rows
