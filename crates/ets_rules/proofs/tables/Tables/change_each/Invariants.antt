use Rattle.std.proofs.Common.{take}
use Rattle.world_model.specs.Cells.{Contents}
use Rattle.world_model.specs.Changes.{after}
use Rattle.ets_rules.specs.Changes.{CanApply, all_changes_of_tables}
use Rattle.ets_rules.specs.Tables.{Hold}
use Rattle.ets_rules.proofs.tables.Tables.change_each.Given as goal

-- the changes so far are done
abbrev pub invariant-loop-change : goal.invariant-loop-change
invariant-loop-change l = (v : Contents) → Hold l.fn.self v → CanApply v (all_changes_of_tables l.changes) → Hold l.self (after (all_changes_of_tables (take l.change-index l.changes)) v)
