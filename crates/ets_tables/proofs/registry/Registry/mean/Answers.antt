use Rattle.std.proofs.Common.{ap, sym, subst, is_ok}
use Rattle.world_model.specs.Changes.{changed, TableNameSet}
use Rattle.proc_groups.proofs.Grouping.{on_err}
use Rattle.world_model.specs.Names.{ref_of}
use Rattle.ets_tables.specs.Shelves.{AreShelved, AreSame}
use Rattle.ets_tables.proofs.Following.{still, same_then, same_shelves, means}
use Rattle.ets_tables.proofs.registry.Registry.mean.Goals as goal

pub returns-in_err-mean-clause-err : goal.returns-in_err-mean-clause-err
returns-in_err-mean-clause-err c =
    let old = c.args.self.now.shelves.value in
    let lent = c.in_ok-shelves.shelves.now in
    on_err c.from_residual-in_err-mean.result
    (subst (λ s. AreSame old s) (sym (c.make_mut.follows.holds c.mean.new.self (ap is_ok c.in_ok-shelves.was)))
    (same_then old lent c.mean.new.self (same_shelves old lent c.in_ok-shelves.ensures.value) c.in_err-mean.ensures.err))

pub returns-clause-ok : goal.returns-clause-ok
returns-clause-ok c =
    let t = ref_of c.args.id.now in
    let old = c.args.self.now.shelves.value in
    let lent = c.in_ok-shelves.shelves.now in
    let same = same_shelves old lent c.in_ok-shelves.ensures.value in
    λ v told. subst (λ s. AreShelved s (changed (TableNameSet c.args.name.now t) v)) (sym (c.make_mut.follows.holds c.mean.new.self (ap is_ok c.in_ok-shelves.was)))
    (means lent c.mean.new.self c.args.name.now t v c.in_ok-mean.ensures.ok (still old lent v same told))
