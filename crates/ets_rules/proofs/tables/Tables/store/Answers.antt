use Rattle.std.proofs.Common.{ap, is_ok, subst}
use Rattle.world_model.specs.Names.{ref_of}
use Rattle.term_core.specs.Term.{meaning_of}
use Rattle.world_model.specs.Changes.{changed, RowWritten}
use Rattle.world_model.specs.Tables as tables
use Rattle.world_model.specs.Rows.{Stores}
use Rattle.ets_rules.specs.Tables.{Hold}
use Rattle.ets_rules.specs.declared.tables.Tables.{Tables}
use Rattle.ets_rules.proofs.RowsWritten.{none_there, not_held, write_holds, lent_settings}
use Rattle.ets_rules.proofs.tables.Tables.store.Goals as goal

pub returns-then-is_none : goal.returns-then-is_none
returns-then-is_none c = λ v settings there hold. none_there c.args.self.now v (ref_of c.args.id.now) settings (not_held c.get.result _ c.if-is_none.ensures c.get.ensures) there hold

pub returns : goal.returns
returns c = λ v settings there hold.
    let t = ref_of c.args.id.now in
    let key = meaning_of c.args.key.now in
    let lent = c.in_ok-table.table.now in
    let new : Tables = record { registry = c.table_mut.follows.lender (record lent { rows = c.store.new.self }) } in
    subst (λ kind. Hold new (changed (RowWritten t key (Stores kind c.args.object)) v)) (ap (λ (s : tables.Table). s.kind) (lent_settings c.args.self.now v t settings lent c.in_ok-table.ensures.table there hold))
    (write_holds c.args.self.now new v t key (Stores lent.rows.kind c.args.object) settings lent c.store.new.self c.in_ok-store.ensures.ok c.in_ok-table.ensures.table c.in_ok-table.ensures.rows
    (c.table_mut.follows.holds (record lent { rows = c.store.new.self }) (ap is_ok c.in_ok-table.was)) there hold)
