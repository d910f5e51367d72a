use Rattle.std.proofs.Common.{◌∷◌, [], subst}
use Rattle.world_model.specs.Changes.{after, SignalPut}
use Rattle.world_records.specs.Records.{Agrees}
use Rattle.world_records.proofs.records.Records.put_copy.Goals as goal

pub returns : goal.returns
returns c = λ m v told can.
    subst (λ signal. Agrees m c.put_anyway.new.self (after (SignalPut c.args.from.now c.args.to.now signal ∷ []) v)) c.in_ok-signal.ensures (c.in_ok-put_anyway.ensures m v told)
