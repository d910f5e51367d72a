use Rattle.std.proofs.Common.{drop}
use Rattle.std.specs.List.{AllByRecursion}
use Rattle.core_tree.specs.Syntax.{ModuleTree}
use Rattle.search_numbers.specs.Knowing.{IsThere, KnowsMore}
use Rattle.search_numbers.specs.Rows.{numbers_in}
use Rattle.search_numbers.specs.Stored.{AreOf}
use Rattle.search_numbers.specs.declared.known.Known.{Known}
use Rattle.search_states.proofs.Following.{AreSoFar}
use Rattle.search_states.proofs.arriving.all_arrivals.Given as goal
use Rattle.search_states.specs.inside.Keeping.{AreRead, Comes}
use Rattle.world_model.specs.Events.{History}

-- the arrivals so far, and the places that are left, are of the enabled steps
abbrev pub invariant-loop-at : goal.invariant-loop-at
invariant-loop-at g l = record {
  knows : KnowsMore (g.L.Look.seen l.fn.look) (g.L.Look.seen l.look);
  more : KnowsMore (g.L.Look.seen l.initial.look) (g.L.Look.seen l.look);
  so_far : (later : Known) (m : ModuleTree) (h : History) → Comes later (g.L.Look.seen l.look) → AreOf later.store (numbers_in l.row) m h → AreSoFar (g.L.Look.seen l.initial.look) (numbers_in l.row) later m h l.into (drop l.at-index l.at-items);
  there : AllByRecursion (IsThere (g.L.Look.seen l.initial.look) (numbers_in l.row)) (drop l.at-index l.at-items);
  read : AreRead (g.L.Look.seen l.look) l.into;
}
