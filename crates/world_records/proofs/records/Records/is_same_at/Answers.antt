use Rattle.world_records.proofs.Placed.{agrees_too, course_too, too_as}
use Rattle.world_records.specs.declared.place.Place.TheVariants.{Inbox, Channel, Course, Links, Names, Tables, Watches}
use Rattle.world_records.proofs.records.Records.is_same_at.Goals as goal

pub returns-in-Course : goal.returns-in-Course
returns-in-Course c = λ e. too_as c.args.place.now (Course c.in-Course.pid) c.args.self.now c.args.other.now c.in-Course.is (course_too c.in-Course.pid c.args.self.now c.args.other.now (c.is_same_course.ensures e))

pub returns-in-Inbox : goal.returns-in-Inbox
returns-in-Inbox c = λ e. too_as c.args.place.now (Inbox c.in-Inbox.pid) c.args.self.now c.args.other.now c.in-Inbox.is (c.is_same_inbox.ensures e)

pub returns-in-Channel : goal.returns-in-Channel
returns-in-Channel c = λ e. too_as c.args.place.now (Channel c.in-Channel.from c.in-Channel.to) c.args.self.now c.args.other.now c.in-Channel.is (agrees_too (Channel c.in-Channel.from c.in-Channel.to) c.args.self.now c.args.other.now (c.is_same_between.ensures e))

pub returns-in-Links : goal.returns-in-Links
returns-in-Links c = λ e. too_as c.args.place.now Links c.args.self.now c.args.other.now c.in-Links.is (λ m v w old new. c.is_same.ensures.agrees e w new)

pub returns-in-Watches : goal.returns-in-Watches
returns-in-Watches c = λ e. too_as c.args.place.now Watches c.args.self.now c.args.other.now c.in-Watches.is (c.is_same_watched.ensures e)

pub returns-in-Names : goal.returns-in-Names
returns-in-Names c = λ e. too_as c.args.place.now Names c.args.self.now c.args.other.now c.in-Names.is (λ m v w old new. (c.is_same-in-Names.ensures.holders e w new.0, c.is_same-in-Names.ensures.listed e w new.1, c.is_same-in-Names.ensures.names e w new.2))

pub returns-in-Tables : goal.returns-in-Tables
returns-in-Tables c = λ e. too_as c.args.place.now Tables c.args.self.now c.args.other.now c.in-Tables.is (λ m v w old new. c.is_same-in-Tables.ensures.agrees e w new)
