use Rattle.std.proofs.Common.{length}
use Rattle.tree_excuses.specs.Excuses.{excuses_in}
use Rattle.world_identities.specs.Identities.{flags_in}
use Rattle.report_reader.proofs.Listing.{IsReadSoFar}
use Rattle.report_reader.proofs.lists.read_findings.Given as goal

abbrev pub invariant-findings : goal.invariant-findings
invariant-findings l = IsReadSoFar l.fn.kind (flags_in l.fn.flags) (excuses_in l.fn.excuses) l.fn.text l.found l.rest

abbrev pub decreases-findings : goal.decreases-findings
decreases-findings l = length l.rest
