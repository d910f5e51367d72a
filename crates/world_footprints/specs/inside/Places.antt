-- The parts that cells are of, each with a number.
use Rattle.std.specs.Prelude.{ℕ}
use Rattle.world_records.specs.declared.cell.ProcessPart.{ProcessPart}
use Rattle.world_records.specs.declared.cell.ProcessPart.TheVariants.{Machine, Alive, Trap, Taken, Mailed, Links, Watchers, NameOf, Owned}
use Rattle.world_records.specs.declared.cell.ChannelPart.{ChannelPart}
use Rattle.world_records.specs.declared.cell.ChannelPart.TheVariants.{Front, Tail}
use Rattle.world_records.specs.declared.cell.NamePart.{NamePart}
use Rattle.world_records.specs.declared.cell.NamePart.TheVariants.{Holder, TableName}
use Rattle.world_records.specs.declared.cell.ReferencePart.{ReferencePart}
use Rattle.world_records.specs.declared.cell.ReferencePart.TheVariants.{Watch, Guard, Table}

abbrev pub place_of_process : ProcessPart → ℕ
place_of_process Machine = 0
place_of_process Alive = 1
place_of_process Trap = 2
place_of_process Taken = 3
place_of_process Mailed = 4
place_of_process Links = 5
place_of_process Watchers = 6
place_of_process NameOf = 7
place_of_process Owned = 8

abbrev pub place_of_channel : ChannelPart → ℕ
place_of_channel Front = 0
place_of_channel Tail = 1

abbrev pub place_of_name : NamePart → ℕ
place_of_name Holder = 0
place_of_name TableName = 1

abbrev pub place_of_reference : ReferencePart → ℕ
place_of_reference Watch = 0
place_of_reference Table = 1
place_of_reference Guard = 2
