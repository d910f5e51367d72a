-- Cells as they are looked at, in the words of the explored world.
use Rattle.std.specs.Prelude.{◌≡◌, ◌⊎◌, List, [], ◌∷◌, Option, Some, None}
use Rattle.world_model.specs.Names.{ref_of}
use Rattle.term_core.specs.Term.{meaning_of}
use Rattle.world_model.specs.Cells as cells
use Rattle.world_records.specs.Cells.{channel_cell, name_cell, process_cell, reference_cell}
use Rattle.world_footprints.specs.declared.view.View.{View}
use Rattle.world_footprints.specs.declared.view.View.TheVariants.{OfProcess, OfChannel, OfName, OfReference, Row, Rows, Holders}

-- the cell that it is
abbrev pub view_in : View → cells.Cell
view_in (OfProcess part p) = process_cell part p.now
view_in (OfChannel part s r) = channel_cell part s.now r.now
view_in (OfName part name) = name_cell part name.now
view_in (OfReference part id) = reference_cell part (ref_of id.now)
view_in (Row id key) = cells.Row (ref_of id.now) (meaning_of key.now)
view_in (Rows id) = cells.Rows (ref_of id.now)
view_in Holders = cells.Holders

abbrev pub behind : Option View → List cells.Cell
behind None = []
behind (Some other) = view_in other ∷ []

-- one, or two
abbrev pub views_in : View × Option View → List cells.Cell
views_in both = view_in both.0 ∷ behind both.1

-- these are the cells that are written first; the first one may be there twice
abbrev pub AreWritten : Option (View × Option View) → List cells.Cell → Type 0
AreWritten None written = written ≡ []
AreWritten (Some both) written = (written ≡ views_in both) ⊎ (written ≡ view_in both.0 ∷ views_in both)
