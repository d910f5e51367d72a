use Rattle.std.proofs.Common.{ap, is_ok}
use Rattle.world_model.specs.Names.{ref_of}
use Rattle.term_core.specs.Term.{meaning_of}
use Rattle.world_model.specs.Rows.{Clears}
use Rattle.ets_rules.proofs.RowsWritten.{none_there, not_held, write_holds}
use Rattle.ets_rules.proofs.tables.Tables.delete_key.Goals as goal

pub returns-then-is_none : goal.returns-then-is_none
returns-then-is_none c = λ v settings there hold. none_there c.args.self.now v (ref_of c.args.id.now) settings (not_held c.get.result _ c.if-is_none.ensures c.get.ensures) there hold

pub returns : goal.returns
returns c = λ v settings there hold.
    let t = ref_of c.args.id.now in
    let key = meaning_of c.args.key.now in
    let lent = c.in_ok-table.table.now in
    let left = record lent { rows = c.delete_key.new.self } in
    write_holds c.args.self.now (record { registry = c.table_mut.follows.lender left }) v t key (Clears) settings lent c.delete_key.new.self c.in_ok-delete_key.ensures.ok c.in_ok-table.ensures.table c.in_ok-table.ensures.rows
    (c.table_mut.follows.holds left (ap is_ok c.in_ok-table.was)) there hold
