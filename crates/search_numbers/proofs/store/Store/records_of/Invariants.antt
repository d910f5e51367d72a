use Rattle.search_numbers.specs.Rows.{numbers_in}
use Rattle.search_numbers.specs.Stored.{HasSoFar}
use Rattle.search_numbers.proofs.store.Store.records_of.Given as goal

abbrev pub invariant-loop-column : goal.invariant-loop-column
invariant-loop-column l = HasSoFar l.self (numbers_in l.row) l.column l.records
