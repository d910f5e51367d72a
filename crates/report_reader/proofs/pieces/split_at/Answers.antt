use Rattle.std.proofs.Common.{rules}
use Rattle.report_reader.proofs.Cuts.{cut_at, no_cut}
use Rattle.report_reader.proofs.pieces.split_at.Goals as goal

pub returns-in_default : goal.returns-in_default
returns-in_default c = no_cut c.args.mark c.args.text.now c.split_before.result.1.now c.split_before.ensures.rest (search rules)

pub returns : goal.returns
returns c = cut_at c.args.mark c.args.text.now c.split_before.result.0.now c.split_before.result.1.now c.in-Some.behind.now c.in-Some._mark.now c.split_before.ensures.front c.split_before.ensures.rest c.in-Some.ensures.cases.0
