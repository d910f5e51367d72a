use Rattle.std.proofs.Common.{◌∙◌, ap}
use Rattle.ets_rules.specs.Changes.{all_changes_of_tables}
use Rattle.ets_rules.proofs.Adding.{one_change}
use Rattle.ets_rules.proofs.changes.Changes.add.Goals as goal

pub returns : goal.returns
returns c = record { more = ap all_changes_of_tables c.in_ok-push.ensures.items ∙ one_change c.args.self.now.list.items c.args.change }
