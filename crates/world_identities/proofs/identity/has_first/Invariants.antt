use Rattle.std.proofs.Common.{◌≡◌, drop}
use Rattle.world_model.specs.Shown.{has_first}
use Rattle.world_identities.proofs.identity.has_first.Given as goal

-- none so far is the first process
abbrev pub invariant-loop-pid : goal.invariant-loop-pid
invariant-loop-pid l = has_first l.pids ≡ has_first (drop l.pid-index l.pids)
