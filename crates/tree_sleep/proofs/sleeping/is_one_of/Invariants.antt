use Rattle.std.proofs.Common.{◌≡◌, drop}
use Rattle.tree_coverage.specs.Covers.{is_one_of}
use Rattle.tree_sleep.proofs.sleeping.is_one_of.Given as goal

-- it is not among those so far
abbrev pub invariant-loop-other : goal.invariant-loop-other
invariant-loop-other l = is_one_of l.steps l.step ≡ is_one_of (drop l.other-index l.steps) l.step
