use Rattle.std.proofs.Common.{◌≡◌, ℕ}
use Rattle.search_numbers.specs.Rows.{numbers_in}
use Rattle.search_numbers.proofs.row.Row.trim.Given as goal

abbrev pub invariant-loop : goal.invariant-loop
invariant-loop l = (c : ℕ) → numbers_in l.self.numbers.items c ≡ numbers_in l.fn.self.numbers.items c
