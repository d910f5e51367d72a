use Rattle.std.proofs.Common.{◌∷◌, [], subst}
use Rattle.world_model.specs.Changes.{after, TableSet}
use Rattle.world_model.specs.Tables as tables
use Rattle.world_model.specs.Tables.{table_of}
use Rattle.ets_rules.specs.Tables.{Hold}
use Rattle.ets_rules.specs.declared.tables.Tables.{Tables}
use Rattle.world_model.specs.Names.{ref_of}
use Rattle.ets_rules.proofs.Holding.{hold_after}
use Rattle.ets_rules.proofs.tables.Tables.put.Goals as goal

pub returns-clause-ok : goal.returns-clause-ok
returns-clause-ok c = λ v none hold.
    let t = ref_of c.args.id.now in
    let new : Tables = record { registry = c.put.new.self } in
    subst (λ (table : tables.Table). Hold new (after (TableSet t table ∷ []) v)) c.in_ok-table.ensures.settings
    (hold_after c.args.self.now new (TableSet t _ ∷ []) v hold (c.in_ok-put.ensures.ok v none c.in_ok-table.ensures.rows hold.are))
