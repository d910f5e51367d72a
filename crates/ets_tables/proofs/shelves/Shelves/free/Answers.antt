use Rattle.std.proofs.Common.{None, ap, is_ok}
use Rattle.ets_tables.proofs.Shelving.{meant_at, same_names}
use Rattle.ets_tables.proofs.shelves.Shelves.free.Goals as goal

pub returns-clause-ok : goal.returns-clause-ok
returns-clause-ok c =
    meant_at c.args.self.now c.in_ok-named.named.now c.remove.new.self _ c.args.name.now None (same_names _ _ c.in_ok-named.ensures.value) c.remove.ensures
    (c.make_mut.follows.holds c.remove.new.self (ap is_ok c.in_ok-named.was))
