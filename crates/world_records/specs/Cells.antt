-- The cells of the code, in the words of the explored world.
use Rattle.std.specs.Prelude.{List, map}
use Rattle.term_core.specs.Term.{meaning_of}
use Rattle.world_model.specs.Cells as cells
use Rattle.world_model.specs.Names.{Name, Pid, Ref, ref_of}
use Rattle.world_records.specs.declared.cell.Cell as stored
use Rattle.world_records.specs.declared.cell.Cell.TheVariants.{OfProcess, OfChannel, OfName, OfReference, Row, Rows, Holders}
use Rattle.world_records.specs.declared.cell.ProcessPart.{ProcessPart}
use Rattle.world_records.specs.declared.cell.ProcessPart.TheVariants.{Machine, Alive, Trap, Taken, Mailed, Links, Watchers, NameOf, Owned}
use Rattle.world_records.specs.declared.cell.ChannelPart.{ChannelPart}
use Rattle.world_records.specs.declared.cell.ChannelPart.TheVariants.{Front, Tail}
use Rattle.world_records.specs.declared.cell.NamePart.{NamePart}
use Rattle.world_records.specs.declared.cell.NamePart.TheVariants.{Holder, TableName}
use Rattle.world_records.specs.declared.cell.ReferencePart.{ReferencePart}
use Rattle.world_records.specs.declared.cell.ReferencePart.TheVariants.{Watch, Guard, Table}

abbrev pub process_cell : ProcessPart → Pid → cells.Cell
process_cell Machine p = cells.Machine p
process_cell Alive p = cells.Alive p
process_cell Trap p = cells.Trap p
process_cell Taken p = cells.Taken p
process_cell Mailed p = cells.Mailed p
process_cell Links p = cells.Links p
process_cell Watchers p = cells.Watchers p
process_cell NameOf p = cells.NameOf p
process_cell Owned p = cells.Owned p

abbrev pub channel_cell : ChannelPart → Pid → Pid → cells.Cell
channel_cell Front s r = cells.Front s r
channel_cell Tail s r = cells.Tail s r

abbrev pub name_cell : NamePart → Name → cells.Cell
name_cell Holder name = cells.Holder name
name_cell TableName name = cells.TableName name

abbrev pub reference_cell : ReferencePart → Ref → cells.Cell
reference_cell Watch ref = cells.Watch ref
reference_cell Guard ref = cells.Guard ref
reference_cell Table ref = cells.Table ref

-- the cell of the explored world that it is
abbrev pub cell_in : stored.Cell → cells.Cell
cell_in (OfProcess part p) = process_cell part p
cell_in (OfChannel part s r) = channel_cell part s r
cell_in (OfName part name) = name_cell part name
cell_in (OfReference part id) = reference_cell part (ref_of id)
cell_in (Row id key) = cells.Row (ref_of id) (meaning_of key)
cell_in (Rows id) = cells.Rows (ref_of id)
cell_in Holders = cells.Holders

abbrev pub cells_in : List stored.Cell → List cells.Cell
cells_in cs = map cell_in cs
