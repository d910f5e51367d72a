use Rattle.std.proofs.Common.{ap, sym, ◌∙◌}
use Rattle.std.specs.Prelude.{option_map}
use Rattle.ets_store.specs.Tables.{settings_in}
use Rattle.world_model.specs.Cells as cells
use Rattle.world_model.specs.Ends.{table_passes}
use Rattle.world_model.specs.Names.{ref_of}
use Rattle.ets_rules.proofs.Planning.{end_applies, planned_done, planned_told}
use Rattle.ets_rules.proofs.tables.Tables.leave.Goals as goal

pub returns-clause-ok : goal.returns-clause-ok
returns-clause-ok c = λ v hold alive w told.
    let t = ref_of c.args.id.now in
    let p = c.args.pid.now in
    let there = ap (option_map settings_in) c.get-table.ensures ∙ hold.are.tables t in
    let is = c.in_ok-left.ensures v (c.heir_lives.ensures v alive) ∙ ap (table_passes v p t) there in
    planned_done c.args.changed.now c.change_each.new.self p c.in_ok-left.left.changes.items _ c.in_ok-left.left.transfer (table_passes v p t (v (cells.Table t))) w
    c.as_slice.ensures.value is (end_applies v w p t (v (cells.Table t))) told c.in_ok-change_each.ensures

pub returns-clause-told : goal.returns-clause-told
returns-clause-told c = λ v hold alive.
    let t = ref_of c.args.id.now in
    let p = c.args.pid.now in
    let there = ap (option_map settings_in) c.get-table.ensures ∙ hold.are.tables t in
    let is = c.in_ok-left.ensures v (c.heir_lives.ensures v alive) ∙ ap (table_passes v p t) there in
    sym (planned_told p c.in_ok-left.left.changes.items c.in_ok-left.left.transfer (table_passes v p t (v (cells.Table t))) is)
