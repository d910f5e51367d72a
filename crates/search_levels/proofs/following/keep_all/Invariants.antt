use Rattle.std.proofs.Common.{take}
use Rattle.search_levels.specs.inside.Following.{AreKept}
use Rattle.search_levels.proofs.following.keep_all.Given as goal

-- copies of the arrivals so far are kept
abbrev pub invariant-loop-place : goal.invariant-loop-place
invariant-loop-place l = AreKept (take l.place l.arrivals) l.fn.kept.rows l.kept.rows
