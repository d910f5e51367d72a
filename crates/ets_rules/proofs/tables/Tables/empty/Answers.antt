use Rattle.std.proofs.Common.{◌∷◌, []}
use Rattle.world_model.specs.Changes.{OwnedCleared}
use Rattle.ets_rules.proofs.Holding.{hold_after}
use Rattle.ets_rules.proofs.tables.Tables.empty.Goals as goal

pub returns-clause-ok : goal.returns-clause-ok
returns-clause-ok c = λ v hold.
    hold_after c.args.self.now (record { registry = c.empty.new.self }) (OwnedCleared c.args.pid.now ∷ []) v hold (c.in_ok-empty.ensures.ok v hold.are)
