use Rattle.std.proofs.Common.{◌∙◌}
use Rattle.ets_store.proofs.Walking.{first_taken, none_taken, after_is}
use Rattle.ets_store.proofs.row_map.RowMap.after.Goals as goal

pub returns-in-Some : goal.returns-in-Some
returns-in-Some c = first_taken c.range-above.result c.next.new.self c.in-Some.next.now c.in-Some.field-0-1.now c.in-Some.ensures.steps ∙ after_is c.args.key.now c.self.inside.entries.entries c.range-above.result c.args.self.now c.self.invariant.0 c.self.view_is (c.range-above.ensures.between tt)

pub returns-in-None : goal.returns-in-None
returns-in-None c = none_taken c.range-above.result c.in-None.ensures.steps.0 ∙ after_is c.args.key.now c.self.inside.entries.entries c.range-above.result c.args.self.now c.self.invariant.0 c.self.view_is (c.range-above.ensures.between tt)
