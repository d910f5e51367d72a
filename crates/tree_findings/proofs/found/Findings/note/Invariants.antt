use Rattle.std.proofs.Common.{◌≡◌, map, drop}
use Rattle.world_identities.specs.Identities.{identity_in}
use Rattle.world_identities.specs.Identities.{flags_in}
use Rattle.tree_findings.specs.Merging.{with_shown, merged_findings}
use Rattle.tree_findings.proofs.found.Findings.note.Given as goal

abbrev pub invariant-loop-identity : goal.invariant-loop-identity
invariant-loop-identity l =
    with_shown (flags_in l.fn.flags) l.schedule (map identity_in (drop l.identity-index l.identities)) (merged_findings l.fn.self l.new) ≡ with_shown (flags_in l.fn.flags) l.schedule (map identity_in l.identities) l.fn.self
