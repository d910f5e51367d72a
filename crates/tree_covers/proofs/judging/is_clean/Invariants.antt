use Rattle.std.proofs.Common.{◌≡◌, drop, filter, map}
use Rattle.tree_coverage.specs.Covers.{is_empty}
use Rattle.tree_excuses.specs.Excuses.{counts, excuses_in}
use Rattle.world_identities.specs.Identities.{flags_in, identity_in}
use Rattle.tree_covers.proofs.judging.is_clean.Given as goal

-- none so far counts as an error
abbrev pub invariant-loop-identity : goal.invariant-loop-identity
invariant-loop-identity l =
    is_empty (filter (counts (flags_in l.flags) (excuses_in l.excuses)) (map identity_in l.identities)) ≡ is_empty (filter (counts (flags_in l.flags) (excuses_in l.excuses)) (map identity_in (drop l.identity-index l.identities)))
