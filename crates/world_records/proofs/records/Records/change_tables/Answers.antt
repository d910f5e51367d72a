use Rattle.ets_rules.specs.Changes.{changes_of_tables}
use Rattle.world_records.proofs.Applied.{are_of_tables, tables_can}
use Rattle.world_records.proofs.Changing.{only_tables}
use Rattle.world_records.proofs.records.Records.change_tables.Goals as goal

pub returns : goal.returns
returns c = λ m v told can.
    let ks = changes_of_tables c.args.change.now in
    only_tables m c.args.self.now c.change.new.self ks v (are_of_tables c.args.change.now) (c.in_ok-change.ensures v told.tables_are (tables_can v ks can)) told
