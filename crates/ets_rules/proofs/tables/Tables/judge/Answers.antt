use Rattle.ets_rules.proofs.Finding.{found_by}
use Rattle.ets_rules.proofs.tables.Tables.judge.Goals as goal

pub returns : goal.returns
returns c = λ v hold alive. c.judge_found.ensures v (found_by c.args.self.now v _ _ hold (c.find.ensures.found v hold) c.find.ensures.held) alive
