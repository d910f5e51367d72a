use Rattle.std.proofs.Common.{◌≡◌, false}
use Rattle.test_support.proofs.write_named.Given as goal

-- the sink has not failed
abbrev pub invariant-loop-argument : goal.invariant-loop-argument
invariant-loop-argument l = l.sink.has_failed ≡ false
