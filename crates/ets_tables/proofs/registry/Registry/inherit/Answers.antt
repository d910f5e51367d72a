use Rattle.std.proofs.Common.{ap, sym, subst, is_ok}
use Rattle.world_model.specs.Changes.{changed, HeirSet}
use Rattle.ets_store.specs.Tables.{heir_in}
use Rattle.proc_groups.proofs.Grouping.{on_err}
use Rattle.world_model.specs.Names.{ref_of}
use Rattle.ets_tables.specs.Shelves.{AreShelved, AreSame}
use Rattle.ets_tables.proofs.Following.{still, same_then, same_shelves, inherits}
use Rattle.ets_tables.proofs.registry.Registry.inherit.Goals as goal

pub returns-in_err-inherit-clause-err : goal.returns-in_err-inherit-clause-err
returns-in_err-inherit-clause-err c =
    let old = c.args.self.now.shelves.value in
    let lent = c.in_ok-shelves.shelves.now in
    on_err c.from_residual-in_err-inherit.result
    (subst (λ s. AreSame old s) (sym (c.make_mut.follows.holds c.inherit.new.self (ap is_ok c.in_ok-shelves.was)))
    (same_then old lent c.inherit.new.self (same_shelves old lent c.in_ok-shelves.ensures.value) c.in_err-inherit.ensures.err))

pub returns-clause-ok : goal.returns-clause-ok
returns-clause-ok c =
    let t = ref_of c.args.id.now in
    let old = c.args.self.now.shelves.value in
    let lent = c.in_ok-shelves.shelves.now in
    let same = same_shelves old lent c.in_ok-shelves.ensures.value in
    λ v told. subst (λ s. AreShelved s (changed (HeirSet t (heir_in c.args.heir)) v)) (sym (c.make_mut.follows.holds c.inherit.new.self (ap is_ok c.in_ok-shelves.was)))
    (inherits lent c.inherit.new.self t (heir_in c.args.heir) v c.in_ok-inherit.ensures.ok (still old lent v same told))
