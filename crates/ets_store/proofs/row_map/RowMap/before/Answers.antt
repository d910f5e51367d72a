use Rattle.std.proofs.Common.{◌∙◌}
use Rattle.ets_store.proofs.Walking.{last_taken, none_taken_last, before_is}
use Rattle.ets_store.proofs.row_map.RowMap.before.Goals as goal

pub returns-in-Some : goal.returns-in-Some
returns-in-Some c = last_taken c.range-below.result c.next_back.new.self c.in-Some.previous.now c.in-Some.field-0-1.now c.in-Some.ensures.steps ∙ before_is c.args.key.now c.self.inside.entries.entries c.range-below.result c.args.self.now c.self.invariant.0 c.self.view_is (c.range-below.ensures.between tt)

pub returns-in-None : goal.returns-in-None
returns-in-None c = none_taken_last c.range-below.result c.in-None.ensures.steps.0 ∙ before_is c.args.key.now c.self.inside.entries.entries c.range-below.result c.args.self.now c.self.invariant.0 c.self.view_is (c.range-below.ensures.between tt)
