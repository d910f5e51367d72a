use Rattle.std.proofs.Common.{rules, of_calls}
use Rattle.std.proofs.lemmas.Fn.{always_returns_same}
use Rattle.world_model.specs.Names.{Pid}
use Rattle.proc_signals.specs.Channels.{order_of_pairs}
use Rattle.proc_signals.proofs.Halves.{is_earlier, parted, before_place, behind_place, told}
use Rattle.proc_signals.proofs.Places.{pairs_total}
use Rattle.proc_signals.proofs.senders.room_of.Goals as goal

pub returns : goal.returns
returns c =
    let channels = c.args.channels.now in
    let pair : Pid × Pid = (c.args.from.now, c.args.to.now) in
    let point = c.partition_point.ensures.partitioned (is_earlier order_of_pairs channels pair) (always_returns_same _ _ _ (λ a r f k. search (rules, of_calls, told)))
    (parted order_of_pairs channels pair pairs_total c.requires) in
    record {
      within = c.partition_point.ensures.bound;
      before = before_place order_of_pairs channels pair c.partition_point.result point;
      behind = behind_place order_of_pairs channels pair c.partition_point.result point;
    }
