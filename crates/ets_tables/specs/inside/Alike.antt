-- Tables under their references that are compared one by one.
use Rattle.std.specs.Prelude.{◌≡◌, ◌∷◌, [], ℕ, List}
use Rattle.std.specs.declared.sync.Arc.{Arc}
use Rattle.std.proofs.Common.{Global}
use Rattle.ets_store.specs.Tables.{IsSameTable}
use Rattle.ets_store.specs.declared.table.Table.{Table}

-- the same references in one order, each with the same table
abbrev pub AreSameTables : List ((List ℕ × ℕ) × Arc Table Global) → List ((List ℕ × ℕ) × Arc Table Global) → Type 0
AreSameTables [] [] = Unit {0}
AreSameTables (e ∷ es) (f ∷ fs) = (e.0 ≡ f.0) × IsSameTable e.1.value f.1.value × AreSameTables es fs
AreSameTables es fs = ⊥
