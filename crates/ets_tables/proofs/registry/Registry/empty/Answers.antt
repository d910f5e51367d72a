use Rattle.std.proofs.Common.{ap, sym, subst, is_ok}
use Rattle.world_model.specs.Changes.{changed, OwnedCleared}
use Rattle.proc_groups.proofs.Grouping.{on_err}
use Rattle.ets_tables.specs.Shelves.{AreShelved, AreSame}
use Rattle.ets_tables.proofs.Following.{still, same_then, same_shelves, empties}
use Rattle.ets_tables.proofs.registry.Registry.empty.Goals as goal

pub returns-in_err-empty-clause-err : goal.returns-in_err-empty-clause-err
returns-in_err-empty-clause-err c =
    let old = c.args.self.now.shelves.value in
    let lent = c.in_ok-shelves.shelves.now in
    on_err c.from_residual-in_err-empty.result
    (subst (λ s. AreSame old s) (sym (c.make_mut.follows.holds c.empty.new.self (ap is_ok c.in_ok-shelves.was)))
    (same_then old lent c.empty.new.self (same_shelves old lent c.in_ok-shelves.ensures.value) c.in_err-empty.ensures.err))

pub returns-clause-ok : goal.returns-clause-ok
returns-clause-ok c =
    let old = c.args.self.now.shelves.value in
    let lent = c.in_ok-shelves.shelves.now in
    let same = same_shelves old lent c.in_ok-shelves.ensures.value in
    λ v told. subst (λ s. AreShelved s (changed (OwnedCleared c.args.pid.now) v)) (sym (c.make_mut.follows.holds c.empty.new.self (ap is_ok c.in_ok-shelves.was)))
    (empties lent c.empty.new.self c.args.pid.now v c.in_ok-empty.ensures.ok (still old lent v same told))
