use Rattle.std.proofs.Common.{◌∙◌, ap, sym, subst, is_ok}
use Rattle.world_model.specs.Changes.{changed, TableSet}
use Rattle.ets_store.specs.Tables.{settings_in}
use Rattle.proc_groups.proofs.Grouping.{on_err}
use Rattle.world_model.specs.Names.{ref_of}
use Rattle.ets_tables.specs.Shelves.{AreShelved, AreSame}
use Rattle.ets_tables.proofs.Following.{still, same_then, same_shelves, makes, none_shelved}
use Rattle.ets_tables.proofs.registry.Registry.put.Goals as goal

pub returns-in_err-put-clause-err : goal.returns-in_err-put-clause-err
returns-in_err-put-clause-err c =
    let old = c.args.self.now.shelves.value in
    let lent = c.in_ok-shelves.shelves.now in
    on_err c.from_residual-in_err-put.result
    (subst (λ s. AreSame old s) (sym (c.make_mut.follows.holds c.put.new.self (ap is_ok c.in_ok-shelves.was)))
    (same_then old lent c.put.new.self (same_shelves old lent c.in_ok-shelves.ensures.value) c.in_err-put.ensures.err))

pub returns-clause-ok : goal.returns-clause-ok
returns-clause-ok c =
    let t = ref_of c.args.id.now in
    let old = c.args.self.now.shelves.value in
    let lent = c.in_ok-shelves.shelves.now in
    let same = same_shelves old lent c.in_ok-shelves.ensures.value in
    λ v none new told. subst (λ s. AreShelved s (changed (TableSet t (settings_in c.args.table)) v)) (sym (c.make_mut.follows.holds c.put.new.self (ap is_ok c.in_ok-shelves.was)))
    (makes lent c.put.new.self t (settings_in c.args.table) c.args.table.rows.rows v (none_shelved lent t v none (still old lent v same told) ∙ sym new) c.in_ok-put.ensures.ok (still old lent v same told))
