use Rattle.world_records.proofs.Applied.{applies_as, follows_as, touches}
use Rattle.world_records.proofs.records.Records.apply.Goals as goal

pub returns-in-ProcessStarted : goal.returns-in-ProcessStarted
returns-in-ProcessStarted c = applies_as c.begin_copy.result c.args.change.now _ c.args.self.now c.begin_copy.new.self c.in-ProcessStarted.is c.begin_copy.ensures

pub returns-in-ProcessEnded : goal.returns-in-ProcessEnded
returns-in-ProcessEnded c = applies_as c.die.result c.args.change.now _ c.args.self.now c.die.new.self c.in-ProcessEnded.is c.die.ensures

pub returns-in-TrapSet : goal.returns-in-TrapSet
returns-in-TrapSet c = follows_as c.set_trap.result c.args.change.now _ c.args.self.now c.set_trap.new.self c.in-TrapSet.is c.set_trap.ensures

pub returns-in-MessageAdded : goal.returns-in-MessageAdded
returns-in-MessageAdded c = applies_as c.mail_copy.result c.args.change.now _ c.args.self.now c.mail_copy.new.self c.in-MessageAdded.is c.mail_copy.ensures

pub returns-in-MessageTaken : goal.returns-in-MessageTaken
returns-in-MessageTaken c = applies_as c.take_out.result c.args.change.now _ c.args.self.now c.take_out.new.self c.in-MessageTaken.is c.take_out.ensures

pub returns-in-SignalPut : goal.returns-in-SignalPut
returns-in-SignalPut c = applies_as c.put_copy.result c.args.change.now _ c.args.self.now c.put_copy.new.self c.in-SignalPut.is c.put_copy.ensures

pub returns-in-LinkAdded : goal.returns-in-LinkAdded
returns-in-LinkAdded c = follows_as c.pair.result c.args.change.now _ c.args.self.now c.pair.new.self c.in-LinkAdded.is c.pair.ensures

pub returns-in-LinkRemoved : goal.returns-in-LinkRemoved
returns-in-LinkRemoved c = follows_as c.unpair.result c.args.change.now _ c.args.self.now c.unpair.new.self c.in-LinkRemoved.is c.unpair.ensures

pub returns-in-WatchSet : goal.returns-in-WatchSet
returns-in-WatchSet c = follows_as c.watch.result c.args.change.now _ c.args.self.now c.watch.new.self c.in-WatchSet.is c.watch.ensures

pub returns-in-WatchCleared : goal.returns-in-WatchCleared
returns-in-WatchCleared c = applies_as c.unwatch.result c.args.change.now _ c.args.self.now c.unwatch.new.self c.in-WatchCleared.is c.unwatch.ensures

pub returns-in-GuardSet : goal.returns-in-GuardSet
returns-in-GuardSet c = applies_as c.guard.result c.args.change.now _ c.args.self.now c.guard.new.self c.in-GuardSet.is c.guard.ensures

pub returns-in-GuardCleared : goal.returns-in-GuardCleared
returns-in-GuardCleared c = applies_as c.unguard.result c.args.change.now _ c.args.self.now c.unguard.new.self c.in-GuardCleared.is c.unguard.ensures

pub returns-in-GuardUnwatched : goal.returns-in-GuardUnwatched
returns-in-GuardUnwatched c = applies_as c.end_watched.result c.args.change.now _ c.args.self.now c.end_watched.new.self c.in-GuardUnwatched.is c.end_watched.ensures

pub returns-in-NameRegistered : goal.returns-in-NameRegistered
returns-in-NameRegistered c = applies_as c.give_name.result c.args.change.now _ c.args.self.now c.give_name.new.self c.in-NameRegistered.is c.give_name.ensures

pub returns-in-NameUnregistered : goal.returns-in-NameUnregistered
returns-in-NameUnregistered c = applies_as c.take_name.result c.args.change.now _ c.args.self.now c.take_name.new.self c.in-NameUnregistered.is c.take_name.ensures

pub returns-in-NameCleared : goal.returns-in-NameCleared
returns-in-NameCleared c = applies_as c.bare.result c.args.change.now _ c.args.self.now c.bare.new.self c.in-NameCleared.is c.bare.ensures

pub returns-in-OfTables : goal.returns-in-OfTables
returns-in-OfTables c = applies_as c.change_tables.result c.args.change.now _ c.args.self.now c.change_tables.new.self c.in-OfTables.is c.change_tables.ensures

pub returns-in-CellTouched : goal.returns-in-CellTouched
returns-in-CellTouched c = touches c.args.change.now _ c.args.self.now c.in-CellTouched.is
