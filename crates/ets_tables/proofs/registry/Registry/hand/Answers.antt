use Rattle.std.proofs.Common.{ap, sym, subst, is_ok}
use Rattle.world_model.specs.Changes.{changed, OwnerSet}
use Rattle.proc_groups.proofs.Grouping.{on_err}
use Rattle.world_model.specs.Names.{ref_of}
use Rattle.ets_tables.specs.Shelves.{AreShelved, AreSame}
use Rattle.ets_tables.proofs.Following.{still, same_then, same_shelves, passes}
use Rattle.ets_tables.proofs.registry.Registry.hand.Goals as goal

pub returns-in_err-pass-clause-err : goal.returns-in_err-pass-clause-err
returns-in_err-pass-clause-err c =
    let old = c.args.self.now.shelves.value in
    let lent = c.in_ok-shelves.shelves.now in
    on_err c.from_residual-in_err-pass.result
    (subst (λ s. AreSame old s) (sym (c.make_mut.follows.holds c.pass.new.self (ap is_ok c.in_ok-shelves.was)))
    (same_then old lent c.pass.new.self (same_shelves old lent c.in_ok-shelves.ensures.value) c.in_err-pass.ensures.err))

pub returns-clause-ok : goal.returns-clause-ok
returns-clause-ok c =
    let t = ref_of c.args.id.now in
    let old = c.args.self.now.shelves.value in
    let lent = c.in_ok-shelves.shelves.now in
    let same = same_shelves old lent c.in_ok-shelves.ensures.value in
    λ v told. subst (λ s. AreShelved s (changed (OwnerSet t c.args.owner.now) v)) (sym (c.make_mut.follows.holds c.pass.new.self (ap is_ok c.in_ok-shelves.was)))
    (passes lent c.pass.new.self t c.args.owner.now v c.in_ok-pass.ensures.ok (still old lent v same told))
