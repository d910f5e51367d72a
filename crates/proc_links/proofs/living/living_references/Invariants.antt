use Rattle.std.proofs.Common.{◌≡◌, map}
use Rattle.std.specs.List.{filter}
use Rattle.proc_links.proofs.living.living_references.Given as goal

abbrev pub invariant-loop-reference : goal.invariant-loop-reference
invariant-loop-reference g l = l.told.items ≡ filter (λ id. g.L.Living.lives l.living id.0) (map (λ x. x.now) l.yielded)
