use Rattle.std.proofs.Common.{◌∙◌}
use Rattle.ets_store.proofs.Maps.{leaves_clone}
use Rattle.ets_store.proofs.row_map.RowMapClone.clone.Goals as goal

pub invariant_of-result : goal.invariant_of-result
invariant_of-result c = (leaves_clone c.self.inside.entries.entries c.in_ok-clone.field-0.entries c.in_ok-clone.ensures.cases c.self.invariant).0

pub returns : goal.returns
returns c = record { cases = (leaves_clone c.self.inside.entries.entries c.in_ok-clone.field-0.entries c.in_ok-clone.ensures.cases c.self.invariant).1 ∙ c.self.view_is }
