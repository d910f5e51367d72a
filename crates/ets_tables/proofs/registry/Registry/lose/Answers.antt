use Rattle.std.proofs.Common.{ap, sym, subst, is_ok}
use Rattle.world_model.specs.Changes.{changed, OwnedRemoved}
use Rattle.world_model.specs.Names.{ref_of}
use Rattle.proc_groups.proofs.Grouping.{on_err}
use Rattle.ets_tables.specs.Shelves.{AreShelved, AreSame}
use Rattle.ets_tables.proofs.Following.{still, same_then, same_shelves, loses}
use Rattle.ets_tables.proofs.registry.Registry.lose.Goals as goal

pub returns-in_err-lose-clause-err : goal.returns-in_err-lose-clause-err
returns-in_err-lose-clause-err c =
    let old = c.args.self.now.shelves.value in
    let lent = c.in_ok-shelves.shelves.now in
    on_err c.from_residual-in_err-lose.result
    (subst (λ s. AreSame old s) (sym (c.make_mut.follows.holds c.lose.new.self (ap is_ok c.in_ok-shelves.was)))
    (same_then old lent c.lose.new.self (same_shelves old lent c.in_ok-shelves.ensures.value) c.in_err-lose.ensures.err))

pub returns-clause-ok : goal.returns-clause-ok
returns-clause-ok c =
    let t = ref_of c.args.id.now in
    let old = c.args.self.now.shelves.value in
    let lent = c.in_ok-shelves.shelves.now in
    let same = same_shelves old lent c.in_ok-shelves.ensures.value in
    λ v told. subst (λ s. AreShelved s (changed (OwnedRemoved c.args.pid.now t) v)) (sym (c.make_mut.follows.holds c.lose.new.self (ap is_ok c.in_ok-shelves.was)))
    (loses lent c.lose.new.self c.args.pid.now t v c.in_ok-lose.ensures.ok (still old lent v same told))
