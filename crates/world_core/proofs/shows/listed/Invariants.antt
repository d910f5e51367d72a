use Rattle.std.proofs.Common.{◌≡◌, map}
use Rattle.world_core.proofs.shows.listed.Given as goal

-- the processes so far
abbrev pub invariant-loop-pid : goal.invariant-loop-pid
invariant-loop-pid l = l.listed.items ≡ map (λ x. x.now) l.yielded
