use Rattle.std.proofs.Common.{List, subst}
use Rattle.std.specs.Prelude.{OnOk}
use Rattle.search_levels.specs.Arrivals.{Arrived}
use Rattle.search_numbers.specs.Rows.{numbers_in}
use Rattle.search_states.proofs.arriving.arrival_alone.Goals as goal
use Rattle.search_states.specs.inside.Keeping.{PutsArrival}

pub returns-clause-puts : goal.returns-clause-puts
returns-clause-puts g c =
    subst (λ (old : List Arrived). OnOk c.put_arrival.result (PutsArrival (g.L.Look.seen c.args.look.now) (g.L.Look.seen c.put_arrival.new.look) (numbers_in c.args.row.now) c.args.at old c.put_arrival.new.into)) c.clear.ensures c.put_arrival.ensures.puts
