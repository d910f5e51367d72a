use Rattle.std.proofs.Common.{ℕ, map, take}
use Rattle.search_numbers.specs.Knowing.{KnowsMore}
use Rattle.search_numbers.specs.Rows.{numbers_in}
use Rattle.search_numbers.specs.Stored.{AllBegin}
use Rattle.search_numbers.proofs.Listed.{AreSoFar}
use Rattle.search_numbers.proofs.steps.enabled.Given as goal
use Rattle.term_core.specs.declared.step.Step.{Step}

-- whichever steps begin at the columns
abbrev pub invariant-loop-column : goal.invariant-loop-column
invariant-loop-column g l = record {
  knows : KnowsMore (g.L.Look.seen l.fn.look) (g.L.Look.seen l.look);
  so_far : (step : ℕ → Step) → AllBegin (g.L.Look.seen l.fn.look).store.places.items step l.column-items → AreSoFar (g.L.Look.seen l.look) (numbers_in l.row) (map step (take l.column-index l.column-items)) l.enabled.items;
}
