use Rattle.std.proofs.Common.{length, arith}
use Rattle.world_model.specs.Rows.{all_objects}
use Rattle.ets_store.proofs.Listing.{all_shown, counted_first, counted_last}
use Rattle.ets_store.proofs.row_map.RowMap.size.Goals as goal

pub loop-key-init : goal.loop-key-init
loop-key-init c = record { bound = omega arith; counts = counted_first c.into_iter-key-iterator.result (all_objects c.args.self.now) (all_shown c.self.inside.entries.entries c.into_iter-key-iterator.result c.args.self.now c.self.invariant.0 c.self.view_is c.into_iter-key-iterator.ensures.into_iter_gives.0) }

pub returns : goal.returns
returns c = counted_last c.loop-key.count (length (all_objects c.args.self.now)) c.loop-key._key-iterator c.in-None.ensures.steps.0 c.loop-key.invariant.bound c.loop-key.invariant.counts
