use Rattle.std.proofs.Common.{◌≡◌, map, take}
use Rattle.tree_findings.specs.Found.{finding_in}
use Rattle.tree_findings.proofs.list.copy_all.Given as goal

abbrev pub invariant-loop-finding : goal.invariant-loop-finding
invariant-loop-finding l = map finding_in l.copied.items ≡ map finding_in (take l.finding-index l.items)
