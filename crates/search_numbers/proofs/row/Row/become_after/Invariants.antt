use Rattle.std.proofs.Common.{◌≡◌, ℕ, drop}
use Rattle.search_numbers.specs.Rows.{numbers_in, written}
use Rattle.search_numbers.proofs.row.Row.become_after.Given as goal

abbrev pub invariant-loop-touch : goal.invariant-loop-touch
invariant-loop-touch l = (c : ℕ) → written (drop l.touch-index l.touches) (numbers_in l.self.numbers.items) c ≡ written l.touches (numbers_in l.row) c
