use Rattle.std.proofs.Common.{◌≡◌, take, false}
use Rattle.world_core.specs.Advanced.{RunsTo}
use Rattle.world_core.specs.Seen.{program_in}
use Rattle.world_core.proofs.world.World.advance.Given as goal

-- the steps so far were taken
abbrev pub invariant-loop-index : goal.invariant-loop-index
invariant-loop-index l = record {
  runs : RunsTo (program_in l.fn.self) l.fn.self.history (take l.index l.steps) l.self.history;
  program : l.self.program ≡ l.fn.self.program;
  sound : l.self.spent ≡ false;
}
