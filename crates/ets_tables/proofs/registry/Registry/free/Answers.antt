use Rattle.std.proofs.Common.{ap, sym, subst, is_ok}
use Rattle.world_model.specs.Changes.{changed, TableNameCleared}
use Rattle.proc_groups.proofs.Grouping.{on_err}
use Rattle.ets_tables.specs.Shelves.{AreShelved, AreSame}
use Rattle.ets_tables.proofs.Following.{still, same_then, same_shelves, frees}
use Rattle.ets_tables.proofs.registry.Registry.free.Goals as goal

pub returns-in_err-free-clause-err : goal.returns-in_err-free-clause-err
returns-in_err-free-clause-err c =
    let old = c.args.self.now.shelves.value in
    let lent = c.in_ok-shelves.shelves.now in
    on_err c.from_residual-in_err-free.result
    (subst (λ s. AreSame old s) (sym (c.make_mut.follows.holds c.free.new.self (ap is_ok c.in_ok-shelves.was)))
    (same_then old lent c.free.new.self (same_shelves old lent c.in_ok-shelves.ensures.value) c.in_err-free.ensures.err))

pub returns-clause-ok : goal.returns-clause-ok
returns-clause-ok c =
    let old = c.args.self.now.shelves.value in
    let lent = c.in_ok-shelves.shelves.now in
    let same = same_shelves old lent c.in_ok-shelves.ensures.value in
    λ v told. subst (λ s. AreShelved s (changed (TableNameCleared c.args.name.now) v)) (sym (c.make_mut.follows.holds c.free.new.self (ap is_ok c.in_ok-shelves.was)))
    (frees lent c.free.new.self c.args.name.now v c.in_ok-free.ensures.ok (still old lent v same told))
