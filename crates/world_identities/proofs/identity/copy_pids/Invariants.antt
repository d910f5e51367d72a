use Rattle.std.proofs.Common.{◌≡◌, take}
use Rattle.world_identities.proofs.identity.copy_pids.Given as goal

abbrev pub invariant-loop-pid : goal.invariant-loop-pid
invariant-loop-pid l = l.copied.items ≡ take l.pid-index l.pids
