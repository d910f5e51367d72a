-- The sorts of cells, and which sorts a served call may write.
use Rattle.std.specs.List.{list_any}
use Rattle.std.specs.Prelude.{◌∷◌, ◌==◌, ℕ, List, Bool, []}
use Rattle.world_model.specs.Calls.{Link, TableCall, Call, Insert, InsertNew, New, DeleteTable, DeleteKey, DeleteObject, DeleteAll, Take, UpdateCounter, UpdateElement, GiveAway, SetOptions, Spawn, Send, SendExit, Unlink, Monitor, MonitorName, Demonitor, Flag, Register, Unregister, WhereIs, Registered, IsAlive, ProcessInfo, MakeRef, MakeAlias, Unalias, StartTimer, CancelTimer, ReadTimer, OnTable, Misfit}
use Rattle.world_model.specs.Cells.{Cell, Machine, Alive, Trap, Taken, Mailed, Front, Tail, Links, Watch, Watchers, Guard, Holder, Holders, NameOf, TableName, Table, Owned, Row, Rows}

abbrev pub sort_of : Cell → ℕ
sort_of (Machine p) = 0
sort_of (Alive p) = 1
sort_of (Trap p) = 2
sort_of (Mailed p) = 3
sort_of (Taken p) = 15
sort_of (Front s r) = 4
sort_of (Tail s r) = 5
sort_of (Links p) = 6
sort_of (Watchers p) = 7
sort_of (Watch ref) = 8
sort_of (Guard ref) = 16
sort_of (Holder n) = 9
sort_of Holders = 9
sort_of (NameOf p) = 10
sort_of (TableName n) = 11
sort_of (Table t) = 12
sort_of (Owned p) = 13
sort_of (Row t k) = 14
sort_of (Rows t) = 14

abbrev pub is_among : List ℕ → Cell → Bool
is_among sorts c = list_any (λ n. n == sort_of c) sorts

abbrev pub table_sorts : TableCall → List ℕ
table_sorts (Insert objects) = 14 ∷ []
table_sorts (InsertNew objects) = 14 ∷ []
table_sorts DeleteTable = 12 ∷ 14 ∷ 13 ∷ 11 ∷ []
table_sorts (DeleteKey key) = 14 ∷ []
table_sorts (DeleteObject object) = 14 ∷ []
table_sorts DeleteAll = 14 ∷ []
table_sorts (Take key) = 14 ∷ []
table_sorts (UpdateCounter key increment default) = 14 ∷ []
table_sorts (UpdateElement key changes) = 14 ∷ []
table_sorts (GiveAway to gift_) = 12 ∷ 13 ∷ 5 ∷ []
table_sorts (SetOptions heirs) = 12 ∷ []
table_sorts call = []

abbrev pub send_sorts : List ℕ
send_sorts = 3 ∷ 5 ∷ []

abbrev pub sorts_of : Call → List ℕ
sorts_of (Spawn way origin) = 0 ∷ 1 ∷ 6 ∷ 7 ∷ 8 ∷ []
sorts_of (Send to m) = send_sorts
sorts_of (SendExit to reason) = 3 ∷ 5 ∷ []
sorts_of (Link q) = 6 ∷ 5 ∷ []
sorts_of (Unlink q) = 6 ∷ []
sorts_of (Monitor is_process q alias) = 8 ∷ 7 ∷ 16 ∷ 5 ∷ []
sorts_of (MonitorName is_process name alias) = 8 ∷ 7 ∷ 16 ∷ 5 ∷ []
sorts_of (Demonitor ref flush) = 8 ∷ 7 ∷ 16 ∷ 15 ∷ []
sorts_of (Flag b) = 2 ∷ []
sorts_of (Register n q) = 9 ∷ 10 ∷ []
sorts_of (Unregister n) = 9 ∷ 10 ∷ []
sorts_of (WhereIs n) = []
sorts_of Registered = []
sorts_of (IsAlive q) = []
sorts_of (ProcessInfo q item) = []
sorts_of MakeRef = []
sorts_of (MakeAlias end) = 16 ∷ []
sorts_of (Unalias ref) = 16 ∷ []
sorts_of (StartTimer is_named time to m) = 16 ∷ 5 ∷ []
sorts_of (CancelTimer ref) = 16 ∷ []
sorts_of (ReadTimer ref) = []
sorts_of (New name options) = 12 ∷ 11 ∷ 13 ∷ []
sorts_of (OnTable argument call) = table_sorts call
sorts_of Misfit = []
