use Rattle.std.proofs.Common.{◌∷◌, []}
use Rattle.world_model.specs.Changes.{TableRemoved, RowsCleared}
use Rattle.world_model.specs.Names.{ref_of}
use Rattle.ets_rules.proofs.Holding.{hold_after}
use Rattle.ets_rules.proofs.tables.Tables.take.Goals as goal

pub returns-clause-ok : goal.returns-clause-ok
returns-clause-ok c = λ v hold.
    let t = ref_of c.args.id.now in
    hold_after c.args.self.now (record { registry = c.take.new.self }) (TableRemoved t ∷ RowsCleared t ∷ []) v hold (c.in_ok-take.ensures.ok v hold.are)
