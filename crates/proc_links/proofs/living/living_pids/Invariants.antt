use Rattle.std.proofs.Common.{◌≡◌, map}
use Rattle.std.specs.List.{filter}
use Rattle.proc_links.proofs.living.living_pids.Given as goal

abbrev pub invariant-loop-pid : goal.invariant-loop-pid
invariant-loop-pid g l = l.told.items ≡ filter (g.L.Living.lives l.living) (map (λ x. x.now) l.yielded)
