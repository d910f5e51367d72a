use Rattle.core_tree.specs.Syntax.{ModuleTree}
use Rattle.std.proofs.Common.{◌≤◌, slice_range}
use Rattle.search_levels.specs.Arrivals.{of_module}
use Rattle.search_levels.specs.inside.Expanding.{NotesAll}
use Rattle.search_levels.specs.inside.Following.{ArriveAll, TakesInAll, TakesRows}
use Rattle.search_levels.specs.inside.Paths.{schedule_in}
use Rattle.world_identities.specs.Identities.{flags_in}
use Rattle.search_levels.proofs.expanding.arrive_at_all.Given as goal

-- the steps so far are taken
abbrev pub invariant-loop-place : goal.invariant-loop-place
invariant-loop-place g l = record {
  arrive : (known : g.row.W.Denot) (m : ModuleTree) → ArriveAll (of_module (g.W.Worlds.agrees known) m) (flags_in l.fn.flags) (schedule_in l.fn.from) (slice_range l.arrivals l.fn.first l.place) l.fn.level.rows l.level.rows l.fn.findings l.findings;
  notes : (known : g.row.W.Denot) (m : ModuleTree) → NotesAll (of_module (g.W.Worlds.agrees known) m) (flags_in l.fn.flags) (schedule_in l.fn.from) (slice_range l.arrivals l.fn.first l.fn.last) l.fn.findings l.findings;
  of_known : (known : g.row.W.Denot) → TakesInAll (g.W.Worlds.is_of known) l.fn.level.rows (slice_range l.arrivals l.fn.first l.place) l.level.rows;
  rows : TakesRows l.fn.level.rows (slice_range l.arrivals l.fn.first l.place) l.level.rows;
  forward : l.fn.first ≤ l.place;
  fewer : l.left ≤ l.fn.left;
}
