use Rattle.ets_store.proofs.Maps.{leaves_empty}
use Rattle.ets_store.proofs.row_map.RowMap.new.Goals as goal

pub invariant_of-result : goal.invariant_of-result
invariant_of-result c = (leaves_empty c.new.result.entries c.new.ensures.empty).0

pub returns : goal.returns
returns c = (leaves_empty c.new.result.entries c.new.ensures.empty).1
