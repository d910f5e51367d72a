use Rattle.std.proofs.Common.{subst}
use Rattle.search_numbers.specs.Knowing.{GoesOn}
use Rattle.search_numbers.specs.Rows.{numbers_in}
use Rattle.search_states.proofs.Deadlocks.{none_added, one_added}
use Rattle.search_states.proofs.Looking.{agree_seen, world_seen}
use Rattle.search_states.proofs.There.{still_read}
use Rattle.search_states.proofs.arriving.add_deadlock.Goals as goal

pub returns-then-branch-clause-adds : goal.returns-then-branch-clause-adds
returns-then-branch-clause-adds g c =
    let new = g.L.Look.seen c.goes_on.new.look in
    none_added new (numbers_in c.args.row.now) c.args.shown.now.items (subst (GoesOn new (numbers_in c.args.row.now)) c.if-branch.true c.in_ok-goes_on.ensures.goes_on)

pub records_of-requires : goal.records_of-requires
records_of-requires g c =
    let new = g.L.Look.seen c.goes_on.new.look in
    world_seen c.known.result.now new (numbers_in c.args.row.now) c.known.ensures (still_read (g.L.Look.seen c.args.look.now) new (numbers_in c.args.row.now) c.goes_on.ensures.knows c.requires).1

pub returns-clause-adds : goal.returns-clause-adds
returns-clause-adds g c =
    let new = g.L.Look.seen c.goes_on.new.look in
    one_added new (numbers_in c.args.row.now) c.in_ok-records.records c.args.shown.now.items c.push_deadlock.new.shown.items (still_read (g.L.Look.seen c.args.look.now) new (numbers_in c.args.row.now) c.goes_on.ensures.knows c.requires).1
    (subst (GoesOn new (numbers_in c.args.row.now)) c.if-branch.false c.in_ok-goes_on.ensures.goes_on) (agree_seen c.known.result.now new (numbers_in c.args.row.now) c.in_ok-records.records c.known.ensures c.in_ok-records.ensures) c.in_ok-push_deadlock.ensures
