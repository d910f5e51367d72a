use Rattle.std.proofs.Common.{◌≡◌, ◌+◌, ◌-◌, ◌^◌, ◌≤◌, min, length}
use Rattle.world_model.specs.Rows.{all_objects}
use Rattle.ets_store.proofs.Listing.{objects_in}
use Rattle.ets_store.proofs.row_map.RowMap.size.Given as goal

abbrev pub invariant-loop-key : goal.invariant-loop-key
invariant-loop-key l = record {
  bound : l.count ≤ 2 ^ 64 - 1;
  counts : min (l.count + length (objects_in l._key-iterator)) (2 ^ 64 - 1) ≡ min (length (all_objects l.self)) (2 ^ 64 - 1);
}
