use Rattle.ets_rules.proofs.Planning.{hold_copied}
use Rattle.ets_rules.proofs.tables.Tables.change_all.Goals as goal

pub returns-clause-ok : goal.returns-clause-ok
returns-clause-ok c = λ v hold can. c.in_ok-change_each.ensures v (hold_copied c.args.self.now c.in_ok-changed.changed v c.in_ok-changed.ensures hold) can
