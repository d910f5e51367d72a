use Rattle.std.proofs.Common.{◌∙◌, ◌++◌, ◌∷◌, [], ℕ, List, ap, refl, subst, sym}
use Rattle.search_levels.specs.declared.arrival.Arrival.{Arrival}
use Rattle.search_numbers.specs.Rows.{numbers_in}
use Rattle.search_numbers.proofs.Listed.{knows_itself}
use Rattle.search_states.proofs.Looking.{put_seen, right_seen, there_seen, world_back, world_seen}
use Rattle.search_states.proofs.arriving.put_arrival.Goals as goal
use Rattle.search_states.specs.inside.Keeping.{AddsDeadlockIn, CanRead}

pub take-requires-clause-world : goal.take-requires-clause-world
take-requires-clause-world g c = world_seen c.known.result.now (g.L.Look.seen c.args.look.now) (numbers_in c.args.row.now) c.known.ensures c.requires.world.1

pub take-requires-clause-right : goal.take-requires-clause-right
take-requires-clause-right g c = right_seen c.known.result.now (g.L.Look.seen c.args.look.now) c.known.ensures c.requires.world.0

pub take-requires-clause-there : goal.take-requires-clause-there
take-requires-clause-there g c = there_seen c.known.result.now (g.L.Look.seen c.args.look.now) (numbers_in c.args.row.now) c.args.at c.known.ensures c.requires.there

pub add_deadlock_after-requires : goal.add_deadlock_after-requires
add_deadlock_after-requires g c κs =
    let seen = g.L.Look.seen c.args.look.now in
    ((refl, tt), subst (λ (r : List ℕ). CanRead seen (numbers_in r)) (sym c.numbers.ensures) (c.requires.world.0, world_back c.known.result.now seen (numbers_in c.take.new.after.numbers.items) c.known.ensures c.in_ok-to.ensures.world))

pub returns-in_err-to-clause-knows : goal.returns-in_err-to-clause-knows
returns-in_err-to-clause-knows g c = knows_itself (g.L.Look.seen c.args.look.now)

pub returns-clause-puts : goal.returns-clause-puts
returns-clause-puts g c =
    let seen = g.L.Look.seen c.args.look.now in
    let new = g.L.Look.seen c.add_deadlock_after.new.look in
    let row = c.take.new.after.numbers.items in
    let to : Arrival = record { step = c.in_ok-to.to.step; shown = c.add_deadlock_after.new.shown } in
    put_seen c.known.result.now seen new (numbers_in c.args.row.now) c.args.at row c.in_ok-to.to to c.args.into.now c.push.new.self c.known.ensures c.add_deadlock_after.ensures.knows c.requires.world
    c.in_ok-to.ensures.taken c.in_ok-to.ensures.world refl (subst (λ (r : List ℕ). AddsDeadlockIn new (numbers_in r) c.in_ok-to.to.shown.items to.shown.items) c.numbers.ensures c.in_ok-add_deadlock_after.ensures.adds)
    (c.in_ok-push.ensures ∙ ap (λ (r : List ℕ). c.args.into.now ++ record { of = to; row = r } ∷ []) c.numbers-2.ensures)
