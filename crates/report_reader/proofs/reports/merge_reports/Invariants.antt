use Rattle.std.proofs.Common.{length}
use Rattle.tree_excuses.specs.Excuses.{excuses_in}
use Rattle.world_identities.specs.Identities.{flags_in}
use Rattle.report_reader.proofs.ReportsLaws.{AreReadSoFar}
use Rattle.report_reader.proofs.reports.merge_reports.Given as goal

abbrev pub invariant-reports : goal.invariant-reports
invariant-reports l = AreReadSoFar l.fn.above l.fn.depth (flags_in l.fn.flags) (excuses_in l.fn.excuses) l.fn.text l.whole l.rest

abbrev pub decreases-reports : goal.decreases-reports
decreases-reports l = length l.rest
