use Rattle.world_records.proofs.Placed.{channel_taken, course_taken, links_taken, names_taken, place_as, tables_taken, taken_as, placed_as}
use Rattle.world_records.specs.declared.place.Place.TheVariants.{Inbox, Channel, Course, Links, Names, Tables, Watches}
use Rattle.world_records.proofs.records.Records.take_place.Goals as goal

pub returns-in-Course : goal.returns-in-Course
returns-in-Course c = taken_as c.take_course.result c.args.place.now (Course c.in-Course.pid) c.args.other.now c.args.self.now _ c.in-Course.is (λ took one. course_taken c.in-Course.pid c.args.other.now c.args.self.now c.take_course.new.self took one) c.take_course.ensures.ok

pub returns-in-Inbox : goal.returns-in-Inbox
returns-in-Inbox c = taken_as c.take_inbox.result c.args.place.now (Inbox c.in-Inbox.pid) c.args.other.now c.args.self.now _ c.in-Inbox.is (λ took one. took one) c.take_inbox.ensures

pub returns-in-Channel : goal.returns-in-Channel
returns-in-Channel c = taken_as c.take_from.result c.args.place.now (Channel c.in-Channel.from c.in-Channel.to) c.args.other.now c.args.self.now _ c.in-Channel.is (λ took one. channel_taken c.in-Channel.from c.in-Channel.to c.args.other.now c.args.self.now c.take_from.new.self took) c.take_from.ensures.ok

pub returns-in_ok-self-in-Links : goal.returns-in_ok-self-in-Links
returns-in_ok-self-in-Links c = λ one. place_as c.args.place.now Links c.args.other.now c.args.self.now _ c.in-Links.is (links_taken c.args.other.now c.args.self.now c.in_ok-self-in-Links.field-0 c.in_ok-self-in-Links.ensures)

pub returns-in-Watches : goal.returns-in-Watches
returns-in-Watches c = placed_as c.take_watches.result c.args.place.now Watches c.args.other.now c.args.self.now _ c.in-Watches.is c.take_watches.ensures

pub returns-in_ok-self-in-Names : goal.returns-in_ok-self-in-Names
returns-in_ok-self-in-Names c = λ one. place_as c.args.place.now Names c.args.other.now c.args.self.now _ c.in-Names.is (names_taken c.args.other.now c.args.self.now c.in_ok-self-in-Names.field-0 record { holders = c.in_ok-self-in-Names.ensures.holders; names = c.in_ok-self-in-Names.ensures.names })

pub returns-in_ok-self-in-Tables : goal.returns-in_ok-self-in-Tables
returns-in_ok-self-in-Tables c = λ one. place_as c.args.place.now Tables c.args.other.now c.args.self.now _ c.in-Tables.is (tables_taken c.args.other.now c.args.self.now c.in_ok-self-in-Tables.field-0 c.in_ok-self-in-Tables.ensures)
