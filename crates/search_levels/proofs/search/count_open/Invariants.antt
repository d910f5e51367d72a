use Rattle.std.proofs.Common.{◌≤◌, take}
use Rattle.search_levels.specs.inside.Searching.{TellsOpen}
use Rattle.search_levels.specs.Arrivals.{of_module}
use Rattle.search_levels.specs.Known.{FromNowOn, Grows}
use Rattle.search_levels.proofs.search.count_open.Given as goal

-- a step is enabled at so many of the states so far
abbrev pub invariant-loop-place : goal.invariant-loop-place
invariant-loop-place g l = record {
  tells : FromNowOn g.W.Worlds.follows l.worlds (λ known m. TellsOpen (of_module (g.W.Worlds.agrees known) m) (take l.place l.level.rows) l.count);
  grows : Grows g.W.Worlds.is_of g.W.Worlds.follows l.fn.worlds l.worlds;
  few : l.count ≤ l.place;
}
