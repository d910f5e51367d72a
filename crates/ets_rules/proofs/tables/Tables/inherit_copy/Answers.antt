use Rattle.std.proofs.Common.{◌∷◌, [], subst}
use Rattle.ets_rules.specs.Tables.{Hold}
use Rattle.world_model.specs.Names.{ref_of}
use Rattle.world_model.specs.Changes.{after, HeirSet}
use Rattle.world_model.specs.Tables.{Heir}
use Rattle.ets_rules.proofs.tables.Tables.inherit_copy.Goals as goal

pub returns : goal.returns
returns c = λ v hold can.
    let t = ref_of c.args.id.now in
    subst (λ (heir : Heir). Hold c.inherit.new.self (after (HeirSet t heir ∷ []) v)) c.in_ok-heir.ensures (c.in_ok-inherit.ensures.ok v hold)
