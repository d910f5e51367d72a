-- What the calls leave in the rows of a table is what the changes of the world leave in the cell of these rows.
use Rattle.std.specs.FinMap.{empty}
use Rattle.std.specs.Prelude.{◌≡◌, ℕ, List, [], ◌∷◌, Some}
use Rattle.world_model.specs.Cells.{Contents, Row, Rows}
use Rattle.world_model.specs.Changes.{after, RowWritten, RowsCleared}
use Rattle.world_model.specs.TableAccess.{Found}
use Rattle.world_model.specs.Names.{Ref}
use Rattle.world_model.specs.Objects.{stores, removes, one_present}
use Rattle.world_model.specs.Rows.{Key, Object, RowChange, rows_rewritten, parts_at, under}
use Rattle.ets_store.specs.TableRows.{with_objects, without_object, one_has_key}

-- objects that are put in, one after the other
abbrev pub AreStored : Type 0
AreStored = (f : Found) (objects : List Object) (v : Contents) → after (stores f objects) v (Rows f.ref) ≡ with_objects f.table.kind f.table.position objects (v (Rows f.ref))

-- an object that is taken out
abbrev pub AreRemoved : Type 0
AreRemoved = (f : Found) (object : Object) (v : Contents) → after (removes f (Some object)) v (Rows f.ref) ≡ without_object f.table.position object (v (Rows f.ref))

-- a change under a key
abbrev pub AreWritten : Type 0
AreWritten = (t : Ref) (key : Key) (change : RowChange) (v : Contents) → after (RowWritten t key change ∷ []) v (Rows t) ≡ rows_rewritten key change (v (Rows t))

-- all objects go
abbrev pub AreWiped : Type 0
AreWiped = (t : Ref) (v : Contents) → after (RowsCleared t ∷ []) v (Rows t) ≡ empty

-- a key is there in the rows where it is there in the cells
abbrev pub ArePresent : Type 0
ArePresent = (t : Ref) (position : ℕ) (objects : List Object) (v : Contents) → ((key : Key) → under (v (Rows t)) key ≡ v (Row t key)) → one_has_key position objects (v (Rows t)) ≡ one_present v t (parts_at position objects)
