use Rattle.std.proofs.Common.{ap, is_ok}
use Rattle.std.specs.BTreeMap.{is_at}
use Rattle.term_core.specs.StepOrder.{order_of_reference_ids}
use Rattle.world_model.specs.Changes.{without_first}
use Rattle.world_model.specs.Names.{same_ref, ref_of}
use Rattle.proc_groups.proofs.Referring.{refs_without}
use Rattle.ets_tables.proofs.Shelving.{owned_at, same_groups}
use Rattle.ets_tables.proofs.shelves.Shelves.lose.Goals as goal

pub returns-clause-ok : goal.returns-clause-ok
returns-clause-ok c =
    owned_at c.args.self.now c.in_ok-groups.groups.now c.remove.new.self _ c.args.pid.now (without_first (is_at (order_of_reference_ids c.args.id.now))) (without_first (same_ref (ref_of c.args.id.now)))
    (refs_without c.args.id.now) (same_groups _ _ c.in_ok-groups.ensures.value) c.remove.ensures (c.make_mut.follows.holds c.remove.new.self (ap is_ok c.in_ok-groups.was))
