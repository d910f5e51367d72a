-- What becomes of the shelves once a table that was lent is given back.
use Rattle.std.specs.Borrow.{LendsSoOk, Fml, MutBor}
use Rattle.std.specs.Prelude.{Some, Result}
use Rattle.world_model.specs.Names.{Ref}
use Rattle.ets_store.specs.Tables.{settings_in}
use Rattle.ets_store.specs.declared.table.Table.{Table}
use Rattle.ets_store.specs.contracts.table.Table as table
use Rattle.ets_tables.specs.Shelves.{AreSame, IsAltered}
use Rattle.ets_tables.specs.declared.shelves.Shelves.{Shelves}
use Rattle.ets_tables.specs.contracts.shelves.Shelves as shelves

-- the reference finds the table as it was left, with its rows, and all else is as it was
abbrev pub LendsShelved : {E : Type 0} → MutBor Shelves → Ref → Result (MutBor Table) E → Fml
LendsShelved s t r = LendsSoOk shelves.the_row table.the_row s r (λ n w. IsAltered t (λ _. Some (settings_in w)) (λ _. w.rows.rows) s.now n) (AreSame s.now)
