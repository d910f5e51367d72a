use Rattle.std.proofs.Common.{◌≡◌, ◌+◌, vec_len}
use Rattle.std.specs.Prelude.{sum}
use Rattle.search_pool.proofs.state.seats_of.Given as goal

abbrev pub invariant-loop-i : goal.invariant-loop-i
invariant-loop-i g l = record {
  left : l.left.parts + l._i ≡ l.workers;
  nothing : l.left.amount ≡ 0;
  made : vec_len l.seats ≡ l._i;
  summed : sum l.seats.items ≡ 0;
}
