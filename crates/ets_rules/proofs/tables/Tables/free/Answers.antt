use Rattle.std.proofs.Common.{◌∷◌, []}
use Rattle.world_model.specs.Changes.{TableNameCleared}
use Rattle.ets_rules.proofs.Holding.{hold_after}
use Rattle.ets_rules.proofs.tables.Tables.free.Goals as goal

pub returns-clause-ok : goal.returns-clause-ok
returns-clause-ok c = λ v hold.
    hold_after c.args.self.now (record { registry = c.free.new.self }) (TableNameCleared c.args.name.now ∷ []) v hold (c.in_ok-free.ensures.ok v hold.are)
