-- Tables as they are held, in the words of the explored world.
use Rattle.std.specs.Prelude.{◌≡◌, Option, option_map}
use Rattle.term_core.specs.Term.{meaning_of}
use Rattle.world_model.specs.Tables as tables
use Rattle.ets_store.specs.declared.table.Heir.{Heir}
use Rattle.ets_store.specs.declared.table.Table.{Table}

-- who inherits a table, if anyone, and the data that it is given
abbrev pub heir_in : Option Heir → tables.Heir
heir_in heir = option_map (λ h. (h.pid, meaning_of h.data)) heir

-- a table without its rows
abbrev pub settings_in : Table → tables.Table
settings_in t = record {
  name = t.name;
  is_named = t.is_named;
  owner = t.owner;
  heir = heir_in t.heir;
  kind = t.rows.kind;
  protection = t.protection;
  position = t.rows.position;
}

-- the same process, and data of the same meaning
pub record IsSameHeir (a b : Heir) : Type 0 where
  pub pid : b.pid ≡ a.pid
  pub «data» : meaning_of b.data ≡ meaning_of a.data

-- the same settings, and the same rows
pub record IsSameTable (a b : Table) : Type 0 where
  pub settings : settings_in b ≡ settings_in a
  pub rows : b.rows ≡ a.rows
