use Rattle.std.proofs.Common.{◌∙◌}
use Rattle.ets_store.proofs.Walking.{last_taken, none_taken_last, last_is}
use Rattle.ets_store.proofs.row_map.RowMap.last.Goals as goal

pub returns-in-Some : goal.returns-in-Some
returns-in-Some c = last_taken c.iter-entries.result c.next_back.new.self c.in-Some.key.now c.in-Some.field-0-1.now c.in-Some.ensures.steps ∙ last_is c.self.inside.entries.entries c.iter-entries.result c.args.self.now c.self.invariant.0 c.self.view_is c.iter-entries.ensures.rest

pub returns-in-None : goal.returns-in-None
returns-in-None c = none_taken_last c.iter-entries.result c.in-None.ensures.steps.0 ∙ last_is c.self.inside.entries.entries c.iter-entries.result c.args.self.now c.self.invariant.0 c.self.view_is c.iter-entries.ensures.rest
