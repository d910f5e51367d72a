use Rattle.ets_store.proofs.CellWrites.{are_stored, are_removed, are_written, are_wiped, are_present}
use Rattle.ets_store.proofs.laws.rows_follow_cells.Goals as goal

pub returns-clause-stored : goal.returns-clause-stored
returns-clause-stored c = are_stored

pub returns-clause-removed : goal.returns-clause-removed
returns-clause-removed c = are_removed

pub returns-clause-written : goal.returns-clause-written
returns-clause-written c = are_written

pub returns-clause-wiped : goal.returns-clause-wiped
returns-clause-wiped c = are_wiped

pub returns-clause-present : goal.returns-clause-present
returns-clause-present c = are_present
