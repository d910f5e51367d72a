-- Cells whose content has no other pids, and changes that keep them so.
use Rattle.std.proofs.Common.{◌≡◌, ℕ, Bool, true, false, List, [], ◌∷◌, ◌++◌, refl, sym, subst, true≢false, if◌then◌else◌, Option, Some, None, option_map}
use Rattle.std.specs.List.{AllByRecursion}
use Rattle.term_core.proofs.Pieces.{all-append}
use Rattle.term_core.specs.Meaning.{Meaning}
use Rattle.world_model.proofs.Meeting.{pids_same, both}
use Rattle.world_model.specs.Cells.{Cell, Content, Contents, Machine, Alive, Trap, Taken, Mailed, Front, Tail, Links, Watchers, Watch, Guard, Holder, Holders, NameOf, TableName, Table, Row, Rows as RowsOf, Owned, meet}
use Rattle.world_model.specs.Changes.{Change, MachineStarted, TurnTaken, MachineHalted, AliveSet, AliveCleared, MessageAdded, SignalPut, HolderSet, HolderCleared, RowWritten, RowsCleared, TableSet, OwnerSet, HeirSet, TableRemoved, cell_of, renewed, changed, after}
use Rattle.world_model.specs.Events.{Signal, Message, Exit, LinkExit, Down, Guarded, Elapsed}
use Rattle.world_model.specs.Names.{Pid, same_pid}
use Rattle.world_model.specs.Requests.{Origin, Main, Spawned}
use Rattle.world_model.specs.Tables as tables
use Rattle.world_model.specs.Tables.{Heir, owned_by, with_heir}
use Rattle.world_pids.specs.Numbers.{IsNumbered}
use Rattle.world_pids.proofs.Rows.{ObjectsTold, RowsTold, WritesTold, rewritten_told, all_rewritten, no_rows}
use Rattle.world_pids.proofs.Told.{IfThere, IsTold, EachTold, AllTold}

module _ (n : ℕ) where
  abbrev pub OriginTold : Origin → Type 0
  OriginTold Main = Unit {0}
  OriginTold (Spawned module_name function_name arguments) = EachTold n arguments

  abbrev pub SignalTold : Signal → Type 0
  SignalTold (Message message) = IsTold n message
  SignalTold (Exit reason) = IsTold n reason
  SignalTold (LinkExit reason) = IsTold n reason
  SignalTold (Down ref reason) = IsTold n reason
  SignalTold (Guarded ref message) = IsTold n message
  SignalTold (Elapsed ref message) = IsTold n message

  -- a signal, and who sent it
  abbrev pub SentTold : Pid → Signal → Type 0
  SentTold s x = IsNumbered n s × SignalTold x

  abbrev pub HeirTold : Heir → Type 0
  HeirTold heir = IfThere (λ (x : Pid × Meaning). IsNumbered n x.0 × IsTold n x.1) heir

  abbrev pub TableTold : tables.Table → Type 0
  TableTold table = IsNumbered n table.owner × HeirTold table.heir

  -- what a cell contains
  abbrev pub CellTold : (c : Cell) → Content c → Type 0
  CellTold (Machine p) course = OriginTold course.origin × AllTold n course.answers
  CellTold (Alive p) lives = lives ≡ true → IsNumbered n p
  CellTold (Mailed p) messages = EachTold n messages
  CellTold (Tail s r) signals = AllByRecursion (SentTold s) signals
  CellTold (Holder name) holder = IfThere (IsNumbered n) holder
  CellTold (Table t) table = IfThere TableTold table
  CellTold (Row t key) objects = ObjectsTold n objects
  CellTold (RowsOf t) rows = RowsTold n rows
  CellTold c content = Unit {0}

  abbrev pub CellsTold : Contents → Type 0
  CellsTold v = (c : Cell) → CellTold c (v c)

  -- what a change brings
  abbrev pub ChangeTold : Change → Type 0
  ChangeTold (MachineStarted p origin) = OriginTold origin
  ChangeTold (TurnTaken p answers) = AllTold n answers
  ChangeTold (AliveSet p) = IsNumbered n p
  ChangeTold (MessageAdded p message) = IsTold n message
  ChangeTold (SignalPut s r signal) = SentTold s signal
  ChangeTold (HolderSet name p) = IsNumbered n p
  ChangeTold (RowWritten t key change) = IsTold n key × WritesTold n change
  ChangeTold (TableSet t table) = TableTold table
  ChangeTold (OwnerSet t owner) = IsNumbered n owner
  ChangeTold (HeirSet t heir) = HeirTold heir
  ChangeTold change = Unit {0}

  abbrev pub ChangesTold : List Change → Type 0
  ChangesTold ks = AllByRecursion ChangeTold ks

  owner_told : (owner : Pid) (o : Option tables.Table) → IsNumbered n owner → IfThere TableTold o → IfThere TableTold (option_map (owned_by owner) o)
  owner_told owner None h k = tt
  owner_told owner (Some table) h k = (h, k.1)

  heir_told : (heir : Heir) (o : Option tables.Table) → HeirTold heir → IfThere TableTold o → IfThere TableTold (option_map (with_heir heir) o)
  heir_told heir None h k = tt
  heir_told heir (Some table) h k = (k.0, h)

  renewed_told : (k : Change) (c : Cell) (before : Content c) → meet (cell_of k) c ≡ true → ChangeTold k → CellTold c before → CellTold c (renewed k c before)
  renewed_told (MachineStarted q origin) (Machine p) before meets told was = (told, tt)
  renewed_told (TurnTaken q answers) (Machine p) before meets told was = (was.0, all-append _ before.answers answers was.1 told)
  renewed_told (MachineHalted q reason) (Machine p) before meets told was = was
  renewed_told (AliveSet q) (Alive p) before meets told was = λ lives. subst (IsNumbered n) (pids_same q p meets) told
  renewed_told (AliveCleared q) (Alive p) before meets told was = λ lives. absurd (true≢false (sym lives))
  renewed_told (MessageAdded q message) (Mailed p) before meets told was = all-append (IsTold n) before (message ∷ []) was (told, tt)
  renewed_told (SignalPut a b signal) (Tail s r) before meets told was =
      all-append (SentTold s) before (signal ∷ []) was ((subst (IsNumbered n) (pids_same a s (both (same_pid a s) (same_pid b r) meets).0) told.0, told.1), tt)
  renewed_told (HolderSet m holder) (Holder name) before meets told was = told
  renewed_told (HolderCleared m) (Holder name) before meets told was = tt
  renewed_told (RowWritten u l change) (Row t key) before meets told was = rewritten_told n change before told.1 was
  renewed_told (RowWritten u l change) (RowsOf t) before meets told was = all_rewritten n l change before told.0 told.1 was
  renewed_told (RowsCleared u) (Row t key) before meets told was = tt
  renewed_told (RowsCleared u) (RowsOf t) before meets told was = no_rows n
  renewed_told (TableSet u table) (Table t) before meets told was = told
  renewed_told (OwnerSet u owner) (Table t) before meets told was = owner_told owner before told was
  renewed_told (HeirSet u heir) (Table t) before meets told was = heir_told heir before told was
  renewed_told (TableRemoved u) (Table t) before meets told was = tt
  renewed_told k (Trap p) before meets told was = tt
  renewed_told k (Taken p) before meets told was = tt
  renewed_told k (Front s r) before meets told was = tt
  renewed_told k (Links p) before meets told was = tt
  renewed_told k (Watchers p) before meets told was = tt
  renewed_told k (Watch ref) before meets told was = tt
  renewed_told k (Guard ref) before meets told was = tt
  renewed_told k Holders before meets told was = tt
  renewed_told k (NameOf p) before meets told was = tt
  renewed_told k (TableName name) before meets told was = tt
  renewed_told k (Owned p) before meets told was = tt
  renewed_told k c before meets told was = was

  changed_by : (k : Change) (c : Cell) (before : Content c) (b : Bool) → meet (cell_of k) c ≡ b → ChangeTold k → CellTold c before → CellTold c (if b then renewed k c before else before)
  changed_by k c before true meets told was = renewed_told k c before meets told was
  changed_by k c before false meets told was = was

  pub changed_told : (k : Change) (v : Contents) → ChangeTold k → CellsTold v → CellsTold (changed k v)
  changed_told k v told was = λ c. changed_by k c (v c) (meet (cell_of k) c) refl told (was c)

  pub after_told : (ks : List Change) (v : Contents) → ChangesTold ks → CellsTold v → CellsTold (after ks v)
  after_told [] v told was = was
  after_told (k ∷ ks) v told was = after_told ks (changed k v) told.1 (changed_told k v told.0 was)

  pub both_told : (ks ls : List Change) → ChangesTold ks → ChangesTold ls → ChangesTold (ks ++ ls)
  both_told ks ls h k = all-append ChangeTold ks ls h k
