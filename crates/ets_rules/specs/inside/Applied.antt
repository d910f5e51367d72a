-- What tables are once a change is applied.
use Rattle.world_model.specs.Cells.{Contents}
use Rattle.world_model.specs.Changes.{after}
use Rattle.ets_rules.specs.Changes.{CanApply, changes_of_tables}
use Rattle.ets_rules.specs.Tables.{Hold}
use Rattle.ets_rules.specs.declared.change.TableChange.{TableChange}
use Rattle.ets_rules.specs.declared.tables.Tables.{Tables}

-- whatever contents the tables held that can be held after it, they hold what it leaves of them
abbrev pub Applies : TableChange → Tables → Tables → Type 0
Applies change old new = (v : Contents) → Hold old v → CanApply v (changes_of_tables change) → Hold new (after (changes_of_tables change) v)
