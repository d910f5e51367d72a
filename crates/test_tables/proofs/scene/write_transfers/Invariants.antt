use Rattle.std.proofs.Common.{◌≡◌, false}
use Rattle.test_tables.proofs.scene.write_transfers.Given as goal

-- the sink has not failed
abbrev pub invariant-loop-transfer : goal.invariant-loop-transfer
invariant-loop-transfer l = l.sink.has_failed ≡ false
