use Rattle.std.proofs.Common.{◌∙◌}
use Rattle.ets_store.proofs.Walking.{first_taken, none_taken, first_is}
use Rattle.ets_store.proofs.row_map.RowMap.first.Goals as goal

pub returns-in-Some : goal.returns-in-Some
returns-in-Some c = first_taken c.iter-entries.result c.next.new.self c.in-Some.key.now c.in-Some.field-0-1.now c.in-Some.ensures.steps ∙ first_is c.self.inside.entries.entries c.iter-entries.result c.args.self.now c.self.invariant.0 c.self.view_is c.iter-entries.ensures.rest

pub returns-in-None : goal.returns-in-None
returns-in-None c = none_taken c.iter-entries.result c.in-None.ensures.steps.0 ∙ first_is c.self.inside.entries.entries c.iter-entries.result c.args.self.now c.self.invariant.0 c.self.view_is c.iter-entries.ensures.rest
