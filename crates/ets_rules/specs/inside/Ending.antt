-- Tables that their owner leaves.
use Rattle.std.specs.BTreeSet.{BTreeSet, contains}
use Rattle.std.specs.Prelude.{ℕ, List}
use Rattle.term_core.specs.Order.{order_of_lists}
use Rattle.ets_rules.specs.Tables.{Hold}
use Rattle.ets_rules.specs.declared.tables.Tables.{Tables}
use Rattle.world_model.specs.Cells.{AreAlive, Contents}
use Rattle.world_model.specs.Changes.{Change, after}

-- this is so of all contents in which those in the set live
abbrev pub WhereAlive : BTreeSet (List ℕ) → (Contents → Type 0) → Type 0
WhereAlive living IsSo = (v : Contents) → AreAlive (contains order_of_lists living) v → IsSo v

-- and that the tables hold
abbrev pub AtEnd : Tables → BTreeSet (List ℕ) → (Contents → Type 0) → Type 0
AtEnd tables living IsSo = (v : Contents) → Hold tables v → AreAlive (contains order_of_lists living) v → IsSo v

-- whatever contents the tables held, they hold what these changes leave of them
abbrev pub Leaves : List Change → Tables → Tables → Type 0
Leaves ks old new = (w : Contents) → Hold old w → Hold new (after ks w)
