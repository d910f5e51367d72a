use Rattle.std.proofs.Common.{◌∷◌, [], ap, map, subst}
use Rattle.std.proofs.lemmas.Result.{on_ok_weaker}
use Rattle.ets_calls.specs.Options.{option_in}
use Rattle.world_model.specs.Changes.{TableSet, after}
use Rattle.world_model.specs.Names.{ref_of}
use Rattle.world_model.specs.Tables.{table_of}
use Rattle.ets_rules.specs.Tables.{Hold}
use Rattle.ets_rules.proofs.Applied.{applies_as, follows_as, touches}
use Rattle.ets_rules.proofs.tables.Tables.change.Goals as goal

pub returns-in-RowWritten : goal.returns-in-RowWritten
returns-in-RowWritten c = applies_as c.rewrite.result c.args.change.now _ c.args.self.now c.rewrite.new.self c.in-RowWritten.is c.rewrite.ensures

pub returns-in-RowsCleared : goal.returns-in-RowsCleared
returns-in-RowsCleared c = follows_as c.wipe.result c.args.change.now _ c.args.self.now c.wipe.new.self c.in-RowsCleared.is c.wipe.ensures

pub returns-in-TableSet : goal.returns-in-TableSet
returns-in-TableSet c = applies_as c.put.result c.args.change.now _ c.args.self.now c.put.new.self c.in-TableSet.is
    (on_ok_weaker c.put.result (λ adds v hold can.
    let t = ref_of c.in-TableSet.id in
    let p = c.in-TableSet.owner in
    let name = c.in-TableSet.name in
    subst (λ os. Hold c.put.new.self (after (TableSet t (table_of p name os) ∷ []) v)) (ap (map option_in) c.as_slice.ensures.value) (adds v can.0 hold)) c.put.ensures.ok)

pub returns-in-TableTouched : goal.returns-in-TableTouched
returns-in-TableTouched c = touches c.args.change.now _ c.args.self.now c.in-TableTouched.is

pub returns-in-OwnerSet : goal.returns-in-OwnerSet
returns-in-OwnerSet c = follows_as c.hand.result c.args.change.now _ c.args.self.now c.hand.new.self c.in-OwnerSet.is c.hand.ensures.ok

pub returns-in-HeirSet : goal.returns-in-HeirSet
returns-in-HeirSet c = applies_as c.inherit_copy.result c.args.change.now _ c.args.self.now c.inherit_copy.new.self c.in-HeirSet.is c.inherit_copy.ensures

pub returns-in-TableRemoved : goal.returns-in-TableRemoved
returns-in-TableRemoved c = follows_as c.take.result c.args.change.now _ c.args.self.now c.take.new.self c.in-TableRemoved.is c.take.ensures.ok

pub returns-in-NameSet : goal.returns-in-NameSet
returns-in-NameSet c = follows_as c.mean.result c.args.change.now _ c.args.self.now c.mean.new.self c.in-NameSet.is c.mean.ensures.ok

pub returns-in-NameCleared : goal.returns-in-NameCleared
returns-in-NameCleared c = follows_as c.free.result c.args.change.now _ c.args.self.now c.free.new.self c.in-NameCleared.is c.free.ensures.ok

pub returns-in-OwnedAdded : goal.returns-in-OwnedAdded
returns-in-OwnedAdded c = follows_as c.gain.result c.args.change.now _ c.args.self.now c.gain.new.self c.in-OwnedAdded.is c.gain.ensures.ok

pub returns-in-OwnedRemoved : goal.returns-in-OwnedRemoved
returns-in-OwnedRemoved c = follows_as c.lose.result c.args.change.now _ c.args.self.now c.lose.new.self c.in-OwnedRemoved.is c.lose.ensures.ok

pub returns-in-OwnedCleared : goal.returns-in-OwnedCleared
returns-in-OwnedCleared c = follows_as c.empty.result c.args.change.now _ c.args.self.now c.empty.new.self c.in-OwnedCleared.is c.empty.ensures.ok
