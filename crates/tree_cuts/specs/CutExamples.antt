-- At how many nodes the trees of small modules are cut.
use Rattle.std.specs.Prelude.{◌≡◌, ℕ}
use Rattle.core_tree.specs.Syntax.{ModuleTree}
use Rattle.world_model.specs.Asking.{program_of}
use Rattle.tree_coverage.specs.CoverExamples.{two_end}
use Rattle.tree_cuts.specs.Cuts.{cuts_of}
use Rattle.tree_coverage.specs.FindingExamples.{two_wait}
use Rattle.tree_coverage.specs.Trees.{idle, two_tables}

-- the tree of a module to this depth is cut at so many nodes
abbrev pub HasCuts : ModuleTree → ℕ → ℕ → Type 0
HasCuts m n count = cuts_of (program_of m) n ≡ count

-- a process that ends at once takes one step
abbrev pub IdleIsCut : Type 0
IdleIsCut = HasCuts idle 0 1

abbrev pub IdleIsUncut : Type 0
IdleIsUncut = HasCuts idle 1 0

-- two processes that wait for ever take one step too: then no step is enabled
abbrev pub TwoWaitAreUncut : Type 0
TwoWaitAreUncut = HasCuts two_wait 1 0

-- a process spawns another, and both end: that is three steps; to two steps the tree is cut at both nodes, also where the one step that is enabled sleeps
abbrev pub TwoEndAreUncut : Type 0
TwoEndAreUncut = HasCuts two_end 3 0

abbrev pub TwoEndAreCut : Type 0
TwoEndAreCut = HasCuts two_end 2 2

-- two processes make a table each and end: to four steps the tree is cut at two nodes, to five at none
abbrev pub TwoTablesAreUncut : Type 0
TwoTablesAreUncut = HasCuts two_tables 5 0

abbrev pub TwoTablesAreCut : Type 0
TwoTablesAreCut = HasCuts two_tables 4 2
