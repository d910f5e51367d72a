-- What becomes of the tables once one that was lent is given back.
use Rattle.std.specs.Borrow.{LendsSoOk, Fml, MutBor}
use Rattle.std.specs.Prelude.{Some, Result}
use Rattle.world_model.specs.Names.{Ref}
use Rattle.ets_store.specs.Tables.{settings_in}
use Rattle.ets_store.specs.declared.table.Table.{Table}
use Rattle.ets_store.specs.contracts.table.Table as table
use Rattle.ets_tables.specs.Shelves.{IsAltered}
use Rattle.ets_tables.specs.Tables.{IsUnchanged}
use Rattle.ets_tables.specs.declared.registry.Registry.{Registry}
use Rattle.ets_tables.specs.contracts.registry.Registry as registry

-- the reference finds this table, with its rows, and all else is as it was
abbrev pub IsWritten : Ref → Table → Registry → Registry → Type 0
IsWritten t table old new = IsAltered t (λ _. Some (settings_in table)) (λ _. table.rows.rows) old.shelves.value new.shelves.value

-- the reference finds the table as it was left
abbrev pub LendsTable : {E : Type 0} → MutBor Registry → Ref → Result (MutBor Table) E → Fml
LendsTable s t r = LendsSoOk registry.the_row table.the_row s r (λ n w. IsWritten t w s.now n) (IsUnchanged s.now)
