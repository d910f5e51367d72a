use Rattle.search_numbers.specs.Rows.{numbers_in}
use Rattle.search_numbers.proofs.Listed.{knows_itself}
use Rattle.search_states.proofs.Deadlocks.{none_added}
use Rattle.search_states.proofs.Looking.{goes_seen}
use Rattle.search_states.proofs.arriving.add_deadlock_after.Goals as goal

pub returns-then-is_one_enabled-clause-adds : goal.returns-then-is_one_enabled-clause-adds
returns-then-is_one_enabled-clause-adds g c =
    let seen = g.L.Look.seen c.args.look.now in
    none_added seen (numbers_in c.args.row.now) c.args.shown.now.items (goes_seen c.known.result.now seen (numbers_in c.args.row.now) c.known.ensures (c.is_one_enabled.ensures c.if-is_one_enabled.true) c.requires.0)

pub returns-then-is_one_enabled-clause-knows : goal.returns-then-is_one_enabled-clause-knows
returns-then-is_one_enabled-clause-knows g c = knows_itself (g.L.Look.seen c.args.look.now)
