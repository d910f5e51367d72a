use Rattle.search_numbers.specs.Rows.{numbers_in}
use Rattle.search_numbers.proofs.Keeping.{all_taken}
use Rattle.std.proofs.Common.{◌≡◌, arith, length}
use Rattle.search_numbers.proofs.store.Store.records_of.Goals as goal

pub returns : goal.returns
returns c = record {
  agrees =
      let end : c.loop-column.column ≡ length c.args.self.now.places.items = omega arith in
      all_taken c.args.self.now (numbers_in c.args.row.now) c.loop-column.column c.loop-column.records end c.loop-column.invariant;
}
