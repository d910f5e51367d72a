use Rattle.std.proofs.Common.{◌∷◌, []}
use Rattle.world_model.specs.Changes.{HeirSet}
use Rattle.ets_store.specs.Tables.{heir_in}
use Rattle.world_model.specs.Names.{ref_of}
use Rattle.ets_rules.proofs.Holding.{hold_after}
use Rattle.ets_rules.proofs.tables.Tables.inherit.Goals as goal

pub returns-clause-ok : goal.returns-clause-ok
returns-clause-ok c = λ v hold.
    let t = ref_of c.args.id.now in
    hold_after c.args.self.now (record { registry = c.inherit.new.self }) (HeirSet t (heir_in c.args.heir) ∷ []) v hold (c.in_ok-inherit.ensures.ok v hold.are)
