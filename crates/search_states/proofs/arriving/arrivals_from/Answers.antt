use Rattle.std.proofs.Common.{subst, sym}
use Rattle.std.specs.Prelude.{OnOk}
use Rattle.search_numbers.specs.Rows.{numbers_in}
use Rattle.search_states.proofs.arriving.arrivals_from.Goals as goal
use Rattle.search_states.specs.inside.Keeping.{AreArrivalsIn}

pub returns-in-AnyTime-clause-arrivals : goal.returns-in-AnyTime-clause-arrivals
returns-in-AnyTime-clause-arrivals g c = subst (λ d. OnOk c.all_arrivals.result (AreArrivalsIn d (g.L.Look.seen c.all_arrivals.new.look) (numbers_in c.args.row.now) c.all_arrivals.new.into)) (sym c.in-AnyTime.is) c.all_arrivals.ensures.arrivals

pub returns-in-AtOnce-clause-arrivals : goal.returns-in-AtOnce-clause-arrivals
returns-in-AtOnce-clause-arrivals g c = subst (λ d. OnOk c.prompt_arrivals.result (AreArrivalsIn d (g.L.Look.seen c.prompt_arrivals.new.look) (numbers_in c.args.row.now) c.prompt_arrivals.new.into)) (sym c.in-AtOnce.is) c.prompt_arrivals.ensures.arrivals
