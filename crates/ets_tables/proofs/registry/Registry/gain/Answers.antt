use Rattle.std.proofs.Common.{ap, sym, subst, is_ok}
use Rattle.world_model.specs.Changes.{changed, OwnedAdded}
use Rattle.proc_groups.proofs.Grouping.{on_err}
use Rattle.world_model.specs.Names.{ref_of}
use Rattle.ets_tables.specs.Shelves.{AreShelved, AreSame}
use Rattle.ets_tables.proofs.Following.{still, same_then, same_shelves, gains}
use Rattle.ets_tables.proofs.registry.Registry.gain.Goals as goal

pub returns-in_err-gain-clause-err : goal.returns-in_err-gain-clause-err
returns-in_err-gain-clause-err c =
    let old = c.args.self.now.shelves.value in
    let lent = c.in_ok-shelves.shelves.now in
    on_err c.from_residual-in_err-gain.result
    (subst (λ s. AreSame old s) (sym (c.make_mut.follows.holds c.gain.new.self (ap is_ok c.in_ok-shelves.was)))
    (same_then old lent c.gain.new.self (same_shelves old lent c.in_ok-shelves.ensures.value) c.in_err-gain.ensures.err))

pub returns-clause-ok : goal.returns-clause-ok
returns-clause-ok c =
    let t = ref_of c.args.id.now in
    let old = c.args.self.now.shelves.value in
    let lent = c.in_ok-shelves.shelves.now in
    let same = same_shelves old lent c.in_ok-shelves.ensures.value in
    λ v told. subst (λ s. AreShelved s (changed (OwnedAdded c.args.pid.now t) v)) (sym (c.make_mut.follows.holds c.gain.new.self (ap is_ok c.in_ok-shelves.was)))
    (gains lent c.gain.new.self c.args.pid.now t v c.in_ok-gain.ensures.ok (still old lent v same told))
