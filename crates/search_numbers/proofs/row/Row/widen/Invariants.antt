use Rattle.std.proofs.Common.{◌≡◌, ℕ, length}
use Rattle.search_numbers.specs.Rows.{numbers_in}
use Rattle.search_numbers.proofs.row.Row.widen.Given as goal

abbrev pub invariant-loop : goal.invariant-loop
invariant-loop l = record {
  same : (c : ℕ) → numbers_in l.self.numbers.items c ≡ numbers_in l.fn.self.numbers.items c;
  wide : length l.self.numbers.items ≡ l.counter;
}
