-- What is found, as it is stored, in the words of the tree.
use Rattle.tree_coverage.specs.Findings as coverage
use Rattle.world_identities.specs.Identities.{identity_in}
use Rattle.tree_findings.specs.declared.finding.Finding.{Finding}

-- an identity, and a schedule that shows it
abbrev pub finding_in : Finding → coverage.Finding
finding_in f = record { identity = identity_in f.identity; schedule = f.schedule.items }
