-- What an event may change: each change is of one cell.
use Rattle.std.specs.FinMap.{empty, insert, remove}
use Rattle.std.specs.Prelude.{◌+◌, Bool, true, false, List, [], ◌∷◌, ◌++◌, Option, Some, None, option_map, option_and_then, if◌then◌else◌}
use Rattle.std.specs.declared.cmp.Ordering.{Ordering}
use Rattle.std.specs.declared.cmp.Ordering.TheVariants.{Less, Equal, Greater}
use Rattle.term_core.specs.Meaning.{Meaning}
use Rattle.term_core.specs.Order.{order_of_lists}
use Rattle.core_semantics.specs.Asked.{Answered}
use Rattle.world_model.specs.Cells.{Table, Rows, Row, Cell, Machine, Alive, Trap, Taken, Mailed, Front, Tail, Links, Watchers, Watch, Guard, Holder, Holders, NameOf, TableName, Owned, meet, Content, Contents}
use Rattle.world_model.specs.Events.{Signal}
use Rattle.world_model.specs.Guards as guards
use Rattle.world_model.specs.Guards.{unwatched}
use Rattle.world_model.specs.Names.{Name, Pid, Ref, same_pid, same_ref, same_term, order_of_refs}
use Rattle.world_model.specs.Requests.{Origin}
use Rattle.world_model.specs.Rows.{Key, RowChange, rewritten, rows_rewritten}
use Rattle.world_model.specs.Tables as tables
use Rattle.world_model.specs.Tables.{Heir, owned_by, with_heir}
use Rattle.world_model.specs.Terms.{reference, parts_in, before}

pub data Change : Type 0 where
  -- a process begins, takes a turn with what it is answered, or halts; it lives, or dies; it traps exits or not
  MachineStarted : (p : Pid) (origin : Origin) → Change
  TurnTaken : (p : Pid) (answer : List Answered) → Change
  MachineHalted : (p : Pid) (reason : Meaning) → Change
  AliveSet : (p : Pid) → Change
  AliveCleared : (p : Pid) → Change
  TrapSet : (p : Pid) (traps : Bool) → Change
  -- a message comes into a mailbox, or is taken from it
  MessageAdded : (p : Pid) (message : Meaning) → Change
  MessageTaken : (p : Pid) (message : Meaning) → Change
  -- a signal is put, and the oldest is taken
  SignalPut : (s r : Pid) (signal : Signal) → Change
  SignalDelivered : (s r : Pid) → Change
  -- a partner comes, or goes
  PartnerAdded : (p q : Pid) → Change
  PartnerRemoved : (p q : Pid) → Change
  -- a watch begins, or ends; a process has it, or no longer
  WatchSet : (ref : Ref) (target : Pid) → Change
  WatchCleared : (ref : Ref) → Change
  WatcherAdded : (p : Pid) (ref : Ref) → Change
  WatcherRemoved : (p : Pid) (ref : Ref) → Change
  -- a reference has a guard, or none, or what is left of it where its watch ends
  GuardSet : (ref : Ref) (guard : guards.Guard) → Change
  GuardCleared : (ref : Ref) → Change
  GuardUnwatched : (ref : Ref) → Change
  -- a name has a holder, or none; a process has a name, or none
  HolderSet : (name : Name) (p : Pid) → Change
  HolderCleared : (name : Name) → Change
  NameSet : (p : Pid) (name : Name) → Change
  NameCleared : (p : Pid) → Change
  -- the objects under a key of a table change, or all of them go
  RowWritten : (t : Ref) (key : Key) (change : RowChange) → Change
  RowsCleared : (t : Ref) → Change
  -- a table is made, passes, has an heir, or goes; a name means it, or nothing; it is owned, or no longer
  TableSet : (t : Ref) (table : tables.Table) → Change
  OwnerSet : (t : Ref) (owner : Pid) → Change
  HeirSet : (t : Ref) (heir : Heir) → Change
  TableRemoved : (t : Ref) → Change
  TableNameSet : (name : Name) (t : Ref) → Change
  TableNameCleared : (name : Name) → Change
  OwnedAdded : (p : Pid) (t : Ref) → Change
  OwnedRemoved : (p : Pid) (t : Ref) → Change
  OwnedCleared : (p : Pid) → Change
  -- a cell counts as written, and contains what it did
  CellTouched : (c : Cell) → Change

-- the cell that it changes; with it the cells that it is a part of, and those that are parts of it
abbrev pub cell_of : Change → Cell
cell_of (MachineStarted p origin) = Machine p
cell_of (TurnTaken p answer) = Machine p
cell_of (MachineHalted p reason) = Machine p
cell_of (AliveSet p) = Alive p
cell_of (AliveCleared p) = Alive p
cell_of (TrapSet p traps) = Trap p
cell_of (MessageAdded p message) = Mailed p
cell_of (MessageTaken p message) = Taken p
cell_of (SignalPut s r signal) = Tail s r
cell_of (SignalDelivered s r) = Front s r
cell_of (PartnerAdded p q) = Links p
cell_of (PartnerRemoved p q) = Links p
cell_of (WatchSet ref target) = Watch ref
cell_of (WatchCleared ref) = Watch ref
cell_of (WatcherAdded p ref) = Watchers p
cell_of (WatcherRemoved p ref) = Watchers p
cell_of (GuardSet ref guard) = Guard ref
cell_of (GuardCleared ref) = Guard ref
cell_of (GuardUnwatched ref) = Guard ref
cell_of (HolderSet name p) = Holder name
cell_of (HolderCleared name) = Holder name
cell_of (NameSet p name) = NameOf p
cell_of (NameCleared p) = NameOf p
cell_of (RowWritten t key change) = Row t key
cell_of (RowsCleared t) = Rows t
cell_of (TableSet t table) = Table t
cell_of (OwnerSet t owner) = Table t
cell_of (HeirSet t heir) = Table t
cell_of (TableRemoved t) = Table t
cell_of (TableNameSet name t) = TableName name
cell_of (TableNameCleared name) = TableName name
cell_of (OwnedAdded p t) = Owned p
cell_of (OwnedRemoved p t) = Owned p
cell_of (OwnedCleared p) = Owned p
cell_of (CellTouched c) = c

-- a list without the first that passes a test
abbrev pub without_first : {A : Type 0} → (A → Bool) → List A → List A
without_first test [] = []
without_first test (y ∷ ys) = if test y then ys else y ∷ without_first test ys

-- an item among others that are in order, each once
abbrev pub set_before : {A : Type 0} → Ordering → A → A → List A → List A → List A
set_before Less x y ys rest = x ∷ y ∷ ys
set_before Equal x y ys rest = y ∷ ys
set_before Greater x y ys rest = y ∷ rest

abbrev pub set_in_order : {A : Type 0} → (A → A → Ordering) → A → List A → List A
set_in_order order x [] = x ∷ []
set_in_order order x (y ∷ ys) = set_before (order x y) x y ys (set_in_order order x ys)

-- a tuple of five with that reference second, as the message of a watch is (erlang manual, `demonitor/2`)
abbrev pub has_second : Ref → List Meaning → Bool
has_second ref (a ∷ b ∷ c ∷ d ∷ e ∷ []) = same_term (reference ref) b
has_second ref parts = false

abbrev pub passes_test : {A : Type 0} → (A → Bool) → Option A → Bool
passes_test test None = false
passes_test test (Some x) = test x

abbrev pub is_of_watch : Ref → Meaning → Bool
is_of_watch ref message = passes_test (has_second ref) (parts_in message)

-- what a cell that a change meets contains after it
abbrev pub renewed : Change → (c : Cell) → Content c → Content c
renewed (MachineStarted q origin) (Machine p) before = record { origin = origin; turns = 0; answers = []; ended = None }
renewed (TurnTaken q answer) (Machine p) before = record { origin = before.origin; turns = before.turns + 1; answers = before.answers ++ answer; ended = before.ended }
renewed (MachineHalted q reason) (Machine p) before = record { origin = before.origin; turns = before.turns; answers = before.answers; ended = Some reason }
renewed (AliveSet q) (Alive p) before = true
renewed (AliveCleared q) (Alive p) before = false
renewed (TrapSet q traps) (Trap p) before = traps
renewed (MessageAdded q message) (Mailed p) before = before ++ (message ∷ [])
renewed (MessageTaken q message) (Taken p) before = before ++ (message ∷ [])
renewed (SignalPut a b signal) (Tail s r) before = before ++ (signal ∷ [])
renewed (SignalDelivered a b) (Front s r) before = before + 1
renewed (PartnerAdded q partner) (Links p) before = set_in_order order_of_lists partner before
renewed (PartnerRemoved q partner) (Links p) before = without_first (same_pid partner) before
renewed (WatchSet a target) (Watch b) before = Some target
renewed (WatchCleared a) (Watch b) before = None
renewed (WatcherAdded q ref) (Watchers p) before = set_in_order order_of_refs ref before
renewed (WatcherRemoved q ref) (Watchers p) before = without_first (same_ref ref) before
renewed (GuardSet a guard) (Guard b) before = Some guard
renewed (GuardCleared a) (Guard b) before = None
renewed (GuardUnwatched a) (Guard b) before = option_and_then unwatched before
renewed (HolderSet n holder) (Holder m) before = Some holder
renewed (HolderCleared n) (Holder m) before = None
renewed (HolderSet n holder) Holders before = insert before n holder
renewed (HolderCleared n) Holders before = remove before n
renewed (NameSet q name) (NameOf p) before = Some name
renewed (NameCleared q) (NameOf p) before = None
renewed (RowWritten u l change) (Row t key) before = rewritten change before
renewed (RowWritten u l change) (Rows t) before = rows_rewritten l change before
renewed (RowsCleared u) (Row t key) before = []
renewed (RowsCleared u) (Rows t) before = empty
renewed (TableSet u table) (Table t) before = Some table
renewed (OwnerSet u owner) (Table t) before = option_map (owned_by owner) before
renewed (HeirSet u heir) (Table t) before = option_map (with_heir heir) before
renewed (TableRemoved u) (Table t) before = None
renewed (TableNameSet m t) (TableName n) before = Some t
renewed (TableNameCleared m) (TableName n) before = None
renewed (OwnedAdded q t) (Owned p) before = set_in_order order_of_refs t before
renewed (OwnedRemoved q t) (Owned p) before = without_first (same_ref t) before
renewed (OwnedCleared q) (Owned p) before = []
renewed change c before = before

-- after a change every cell contains what it did, except those that it meets
abbrev pub changed : Change → Contents → Contents
changed k v c = if meet (cell_of k) c then renewed k c (v c) else v c

-- after several changes, one after the other
abbrev pub after : List Change → Contents → Contents
after [] v = v
after (k ∷ ks) v = after ks (changed k v)
