use Rattle.std.proofs.Common.{ℕ, map, take}
use Rattle.tree_schedules.specs.Deliveries.{is_at_once}
use Rattle.search_numbers.specs.Knowing.{KnowsMore}
use Rattle.search_numbers.specs.Rows.{numbers_in}
use Rattle.search_numbers.specs.Stored.{AllBegin}
use Rattle.search_numbers.proofs.Listed.{NoneIs}
use Rattle.search_numbers.proofs.steps.first_at_once.Given as goal
use Rattle.term_core.specs.declared.step.Step.{Step}

-- whichever steps begin at the columns
abbrev pub invariant-loop-column : goal.invariant-loop-column
invariant-loop-column g l = record {
  knows : KnowsMore (g.L.Look.seen l.fn.look) (g.L.Look.seen l.look);
  none : (step : ℕ → Step) → AllBegin (g.L.Look.seen l.fn.look).store.places.items step l.column-items → NoneIs is_at_once (g.L.Look.seen l.look) (numbers_in l.row) (map step (take l.column-index l.column-items));
}
