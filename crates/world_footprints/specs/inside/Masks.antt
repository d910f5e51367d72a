-- Masks of cells: each cell has a place among 64, and cells that meet have one place.
use Rattle.std.specs.Int.{bit_at}
use Rattle.std.specs.Prelude.{◌≡◌, ◌+◌, ◌*◌, ◌%◌, ◌-◌, ℕ, List, Option, None, Some, length, slice_get}
use Rattle.world_model.specs.Cells.{Cell, Machine, Alive, Trap, Taken, Mailed, Links, Watchers, NameOf, Owned, Front, Tail, Holder, Holders, TableName, Watch, Guard, Table, Row, Rows}
use Rattle.world_model.specs.Names.{IsAmong, Pid, Ref}

-- a number, or 0 without one
abbrev pub number_or_none : Option ℕ → ℕ
number_or_none None = 0
number_or_none (Some n) = n

-- the class among four of a process, by the last of its numbers, of a reference, by its number, and of a channel
abbrev pub class_of_pid : Pid → ℕ
class_of_pid p = number_or_none (slice_get p (length p - 1)) % 4

abbrev pub class_of_ref : Ref → ℕ
class_of_ref ref = ref.number % 4

abbrev pub class_of_channel : Pid → Pid → ℕ
class_of_channel s r = (class_of_pid s + 2 * class_of_pid r) % 4

-- the place of one of sixteen kinds and one of four classes
abbrev pub place_of : ℕ → ℕ → ℕ
place_of kind class = kind + 16 * class

-- the place of a cell; a row and all rows of its table have one, and so have the holder of a name and all holders, and the watch and the guard of a reference
abbrev pub place_in_mask : Cell → ℕ
place_in_mask (Machine p) = place_of 0 (class_of_pid p)
place_in_mask (Alive p) = place_of 1 (class_of_pid p)
place_in_mask (Trap p) = place_of 2 (class_of_pid p)
place_in_mask (Taken p) = place_of 3 (class_of_pid p)
place_in_mask (Mailed p) = place_of 4 (class_of_pid p)
place_in_mask (Links p) = place_of 5 (class_of_pid p)
place_in_mask (Watchers p) = place_of 6 (class_of_pid p)
place_in_mask (NameOf p) = place_of 7 (class_of_pid p)
place_in_mask (Owned p) = place_of 8 (class_of_pid p)
place_in_mask (Front s r) = place_of 9 (class_of_channel s r)
place_in_mask (Tail s r) = place_of 10 (class_of_channel s r)
place_in_mask (Holder name) = 11
place_in_mask Holders = 11
place_in_mask (TableName name) = 12
place_in_mask (Watch ref) = place_of 13 (class_of_ref ref)
place_in_mask (Guard ref) = place_of 13 (class_of_ref ref)
place_in_mask (Table ref) = place_of 14 (class_of_ref ref)
place_in_mask (Row ref key) = place_of 15 (class_of_ref ref)
place_in_mask (Rows ref) = place_of 15 (class_of_ref ref)

-- the bit at the place of each of these cells is set
abbrev pub Covers : ℕ → List Cell → Type 0
Covers mask cells = (c : Cell) → IsAmong c cells → bit_at mask (place_in_mask c) ≡ 1
