use Rattle.std.proofs.Common.{◌≡◌, ◌+◌, ◌≤◌, drop, length, map}
use Rattle.tree_findings.specs.Found.{finding_in}
use Rattle.tree_excuses.specs.Excuses.{excuses_in, those_that}
use Rattle.tree_excuses.proofs.excuses.Excuses.count.Given as goal

-- those so far are counted
abbrev pub invariant-loop-finding : goal.invariant-loop-finding
invariant-loop-finding l =
    (length (those_that (excuses_in l.self) l.standing l.errors) ≡ l.count + length (those_that (excuses_in l.self) l.standing (map finding_in (drop l.finding-index l.finding-items)))) × (l.count ≤ l.finding-index)
