use Rattle.std.proofs.Common.{◌∙◌, ap, is_ok, sym}
use Rattle.world_model.specs.Names.{ref_of}
use Rattle.ets_store.specs.Tables.{settings_in}
use Rattle.ets_rules.proofs.RowsWritten.{none_wiped, not_held, wipe_holds}
use Rattle.ets_rules.proofs.tables.Tables.wipe.Goals as goal

pub returns-then-is_none : goal.returns-then-is_none
returns-then-is_none c = λ v hold. none_wiped c.args.self.now v (ref_of c.args.id.now) (not_held c.get.result _ c.if-is_none.ensures c.get.ensures) hold

pub returns : goal.returns
returns c = λ v hold.
    let t = ref_of c.args.id.now in
    let lent = c.in_ok-table.table.now in
    let left = record lent { rows = c.clear.new.self } in
    wipe_holds c.args.self.now (record { registry = c.table_mut.follows.lender left }) v t (settings_in lent) lent c.clear.new.self c.in_ok-clear.ensures.ok c.in_ok-table.ensures.table
    (c.table_mut.follows.holds left (ap is_ok c.in_ok-table.was)) (sym (c.in_ok-table.ensures.table ∙ hold.are.tables t)) hold
