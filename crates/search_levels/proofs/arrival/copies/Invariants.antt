use Rattle.std.proofs.Common.{◌≡◌, map, take}
use Rattle.world_identities.specs.Identities.{identity_in}
use Rattle.search_levels.proofs.arrival.copies.Given as goal

abbrev pub invariant-loop-identity : goal.invariant-loop-identity
invariant-loop-identity l = map identity_in l.copied.items ≡ map identity_in (take l.identity-index l.shown)
