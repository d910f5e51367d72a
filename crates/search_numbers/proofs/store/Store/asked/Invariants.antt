use Rattle.std.proofs.Common.{map}
use Rattle.std.specs.Map.Iter.{deref_pair}
use Rattle.search_numbers.specs.Rows.{numbers_in}
use Rattle.search_numbers.specs.Stored.{EachBegins}
use Rattle.search_numbers.proofs.Asking.{ArePicked}
use Rattle.search_numbers.proofs.store.Store.asked.Given as goal

-- of the steps so far the columns are asked of all that are not idle
abbrev pub invariant-loop-column : goal.invariant-loop-column
invariant-loop-column l = EachBegins l.self.places.items (map deref_pair l.yielded) → ArePicked l.self.places.items (numbers_in l.row) (map deref_pair l.yielded) l.asked.items
