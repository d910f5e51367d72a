use Rattle.std.proofs.Common.{[], ap, is_ok, refl}
use Rattle.ets_tables.proofs.Shelving.{owned_at, same_groups}
use Rattle.ets_tables.proofs.shelves.Shelves.empty.Goals as goal

pub returns-clause-ok : goal.returns-clause-ok
returns-clause-ok c =
    owned_at c.args.self.now c.in_ok-groups.groups.now c.clear.new.self _ c.args.pid.now (λ _. []) (λ _. []) (λ _. refl)
    (same_groups _ _ c.in_ok-groups.ensures.value) c.clear.ensures (c.make_mut.follows.holds c.clear.new.self (ap is_ok c.in_ok-groups.was))
