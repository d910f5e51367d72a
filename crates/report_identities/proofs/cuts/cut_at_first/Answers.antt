use Rattle.std.proofs.Common.{rules}
use Rattle.report_identities.proofs.Marks.{cut_first, no_first}
use Rattle.report_identities.proofs.cuts.cut_at_first.Goals as goal

pub returns-in_default : goal.returns-in_default
returns-in_default c = no_first c.args.mark c.args.bytes.now c.split_before.result.1.now c.split_before.ensures.rest (search rules)

pub returns : goal.returns
returns c =
    cut_first c.args.mark c.args.bytes.now c.split_before.result.0.now c.split_before.result.1.now c.in-Some.behind.now c.in-Some._mark.now c.split_before.ensures.before c.split_before.ensures.rest c.in-Some.ensures.cases.0
