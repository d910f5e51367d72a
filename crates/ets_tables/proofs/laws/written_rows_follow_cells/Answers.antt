use Rattle.ets_tables.proofs.WrittenRows.{are_written}
use Rattle.ets_tables.proofs.laws.written_rows_follow_cells.Goals as goal

pub returns : goal.returns
returns c = are_written
