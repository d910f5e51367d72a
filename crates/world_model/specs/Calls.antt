-- The calls as they are understood: which call, and what each argument is. An argument that is not of its kind is None.
use Rattle.std.specs.Prelude.{None, ℕ, ℤ, Bool, true, false, List, [], ◌∷◌, Option, Some, option_map, option_and_then, pos, negsuc, if◌then◌else◌, codes}
use Rattle.term_core.specs.Meaning.{Meaning}
use Rattle.core_calls.specs.declared.call.CallKind.{CallKind}
use Rattle.core_calls.specs.declared.call.CallKind.TheVariants as kinds
use Rattle.world_model.specs.Names.{Name, Pid, Ref, own_node, same_name}
use Rattle.world_model.specs.Requests.{Origin, Spawned}
use Rattle.world_model.specs.Rows.{Key, Object}
use Rattle.world_model.specs.Tables.{Heir, TableOption, options_of, heirs_of, found_beside}
use Rattle.world_model.specs.Terms.{atom_in, process_in, reference_in, integer_in, boolean_in, parts_in, items_in, each_in, is_atom, position_of, positive_in}
use Rattle.world_model.specs.declared.table.Item.{Item}
use Rattle.world_model.specs.declared.table.Item.TheVariants as items
use Rattle.world_model.specs.declared.alias.AliasEnd.{AliasEnd}
use Rattle.world_model.specs.declared.alias.AliasEnd.TheVariants.{ByUnalias, WithWatch, ByReply}
use Rattle.world_model.specs.declared.process.ProcessItem.{ProcessItem}
use Rattle.world_model.specs.declared.process.ProcessItem.TheVariants.{RegisteredName, QueueLength}

-- what a spawn adds: nothing, a link, or a watch
pub data SpawnWay : Type 0 where
  Alone : SpawnWay
  Linked : SpawnWay
  Watched : SpawnWay

-- who a message is for: a process, the holder of a name, the process that a reference is an alias of, the holder of a name at the own node or at another, or what is none of these
pub data Destination : Type 0 where
  ToProcess : (q : Pid) → Destination
  ToName : (name : Name) → Destination
  ToReference : (ref : Ref) → Destination
  ToNode : (name : Name) → Destination
  ToAnotherNode : Destination
  ToNobody : Destination

-- by what a table is called: a name, a reference, or what is neither
pub data TableArgument : Type 0 where
  ByName : (name : Name) → TableArgument
  ByReference : (t : Ref) → TableArgument
  ByNothing : TableArgument

-- one addition of `update_counter`: where, how much, and, if it has a limit, that and what takes the place of a sum past it
pub record Addition : Type 0 where
  pub position : ℕ
  pub amount : ℤ
  pub limit : Option (ℤ × ℤ)

-- what `update_counter` is given: an integer to add after the key, one addition, several one after the other, or none of these
pub data Increment : Type 0 where
  AfterKey : (n : ℤ) → Increment
  AtPlace : (addition : Addition) → Increment
  InTurn : (additions : List Addition) → Increment
  NotGiven : Increment

-- a call with a table argument (Erlang manual, module `ets`)
pub data TableCall : Type 0 where
  Lookup : (key : Key) → TableCall
  Member : (key : Key) → TableCall
  LookupElement : (key : Key) (position : Option ℕ) → TableCall
  First : TableCall
  Last : TableCall
  Next : (key : Key) → TableCall
  Prev : (key : Key) → TableCall
  ToList : TableCall
  Insert : (objects : Option (List Object)) → TableCall
  InsertNew : (objects : Option (List Object)) → TableCall
  DeleteTable : TableCall
  DeleteKey : (key : Key) → TableCall
  DeleteObject : (object : Option Object) → TableCall
  DeleteAll : TableCall
  Take : (key : Key) → TableCall
  -- and the object that is taken where none is there, if one is given, and if that is one
  UpdateCounter : (key : Key) (increment : Increment) (default : Option (Option Object)) → TableCall
  UpdateElement : (key : Key) (changes : Option (List (ℕ × Meaning))) → TableCall
  GiveAway : (to : Option Pid) (gift : Meaning) → TableCall
  SetOptions : (heirs : Option (List Heir)) → TableCall
  Info : (item : Option Item) → TableCall
  InfoAll : TableCall

-- a call of the world (Erlang manual, module `erlang`; the last two lines module `ets`)
pub data Call : Type 0 where
  Spawn : (way : SpawnWay) (origin : Option Origin) → Call
  Send : (to : Destination) (message : Meaning) → Call
  SendExit : (to : Option Pid) (reason : Meaning) → Call
  Link : (to : Option Pid) → Call
  Unlink : (from : Option Pid) → Call
  -- whether the first argument is `'process'`, and how an alias ends that is made with the watch, if one is, where the options are such
  Monitor : (is_process : Bool) (whom : Option Pid) (alias : Option (Option AliasEnd)) → Call
  -- the same of the holder of a name
  MonitorName : (is_process : Bool) (name : Name) (alias : Option (Option AliasEnd)) → Call
  -- whether the message goes too, if the options are such
  Demonitor : (ref : Option Ref) (flushes : Option Bool) → Call
  -- the value, if the flag is `'trap_exit'` and the value a boolean
  Flag : (traps : Option Bool) → Call
  Register : (name : Option Name) (whom : Option Pid) → Call
  Unregister : (name : Option Name) → Call
  WhereIs : (name : Option Name) → Call
  Registered : Call
  IsAlive : (whom : Option Pid) → Call
  ProcessInfo : (whom : Option Pid) (item : Option ProcessItem) → Call
  MakeRef : Call
  -- how it ends, if the options are such
  MakeAlias : (end : Option AliasEnd) → Call
  Unalias : (ref : Option Ref) → Call
  -- whether its message names it
  StartTimer : (is_named : Bool) (time : Option ℤ) (to : Option Pid) (message : Meaning) → Call
  CancelTimer : (ref : Option Ref) → Call
  ReadTimer : (ref : Option Ref) → Call
  New : (name : Option Name) (options : Option (List TableOption)) → Call
  OnTable : (argument : TableArgument) (call : TableCall) → Call
  -- a call with another number of arguments than it has: no module that is read makes one
  Misfit : Call

-- ---- arguments of processes

abbrev pub origin_of : Option Name → Option Name → Option (List Meaning) → Option Origin
origin_of (Some module_name) (Some function_name) (Some arguments) = Some (Spawned module_name function_name arguments)
origin_of m f arguments = None

-- `{Name,Node}`
abbrev pub destination_at : Option Name → Option Name → Destination
destination_at (Some name) (Some node) = if same_name node own_node then ToNode name else ToAnotherNode
destination_at name place = ToNobody

abbrev pub destination_of_parts : Option (List Meaning) → Destination
destination_of_parts (Some (name ∷ node ∷ [])) = destination_at (atom_in name) (atom_in node)
destination_of_parts parts = ToNobody

abbrev pub destination_by : Option Pid → Option Name → Option Ref → Option (List Meaning) → Destination
destination_by (Some q) name ref parts = ToProcess q
destination_by None (Some name) ref parts = ToName name
destination_by None None (Some ref) parts = ToReference ref
destination_by None None None parts = destination_of_parts parts

abbrev pub destination_of : Meaning → Destination
destination_of m = destination_by (process_in m) (atom_in m) (reference_in m) (parts_in m)

-- the name of a process that is to be watched: a name, or `{Name,Node}` of the own node
abbrev pub name_here : Option (List Meaning) → Option Name
name_here (Some (name ∷ node ∷ [])) = if is_atom own_node node then atom_in name else None
name_here parts = None

abbrev pub name_by : Option Name → Option (List Meaning) → Option Name
name_by (Some name) parts = Some name
name_by None parts = name_here parts

abbrev pub watched_name_of : Meaning → Option Name
watched_name_of m = name_by (atom_in m) (parts_in m)

abbrev pub monitor_by : Bool → Option Pid → Option Name → Option (Option AliasEnd) → Call
monitor_by is_process whom None alias = Monitor is_process whom alias
monitor_by is_process whom (Some name) alias = MonitorName is_process name alias

abbrev pub monitor_of : Meaning → Meaning → Option (Option AliasEnd) → Call
monitor_of type whom alias = monitor_by (is_atom (codes "process") type) (process_in whom) (watched_name_of whom) alias

-- what `process_info/2` is to tell
abbrev pub process_item_of : Meaning → Option ProcessItem
process_item_of m = if is_atom (codes "registered_name") m then Some RegisteredName else (if is_atom (codes "message_queue_len") m then Some QueueLength else None)

-- `[]`, or a list of `'flush'`
abbrev pub flush_in : Meaning → Option Unit
flush_in m = if is_atom (codes "flush") m then Some tt else None

abbrev pub has_items : {A : Type 0} → List A → Bool
has_items [] = false
has_items (x ∷ xs) = true

abbrev pub flushes_of : Meaning → Option Bool
flushes_of options = option_map has_items (each_in flush_in options)

abbrev pub flag_of : Meaning → Meaning → Option Bool
flag_of flag value = if is_atom (codes "trap_exit") flag then boolean_in value else None

-- the last of several, or another where there is none
abbrev pub last_or : {A : Type 0} → A → List A → A
last_or other [] = other
last_or other (x ∷ xs) = last_or x xs

-- how an alias ends that is made alone: a list of `'explicit_unalias'` and `'reply'`
abbrev pub end_alone : Meaning → Option AliasEnd
end_alone m = if is_atom (codes "explicit_unalias") m then Some ByUnalias else (if is_atom (codes "reply") m then Some ByReply else None)

abbrev pub end_of : Meaning → Option AliasEnd
end_of options = option_map (last_or ByUnalias) (each_in end_alone options)

-- and that is made with a watch: a list of `{'alias',How}`
abbrev pub end_watched : Meaning → Option AliasEnd
end_watched m = if is_atom (codes "explicit_unalias") m then Some ByUnalias else (if is_atom (codes "demonitor") m then Some WithWatch else (if is_atom (codes "reply_demonitor") m then Some ByReply else None))

abbrev pub end_beside : Option (List Meaning) → Option AliasEnd
end_beside (Some (name ∷ how ∷ [])) = if is_atom (codes "alias") name then end_watched how else None
end_beside parts = None

abbrev pub alias_in : Meaning → Option (Option AliasEnd)
alias_in m = option_map Some (end_beside (parts_in m))

abbrev pub alias_of : Meaning → Option (Option AliasEnd)
alias_of options = option_map (last_or None) (each_in alias_in options)

-- a time in milliseconds, from 0 on
abbrev pub unless_negative : ℤ → Option ℤ
unless_negative (pos n) = Some (pos n)
unless_negative (negsuc n) = None

abbrev pub time_of : Meaning → Option ℤ
time_of m = option_and_then unless_negative (integer_in m)

-- ---- arguments of tables

abbrev pub argument_by : Option Name → Option Ref → TableArgument
argument_by (Some name) ref = ByName name
argument_by None (Some ref) = ByReference ref
argument_by None None = ByNothing

abbrev pub argument_of : Meaning → TableArgument
argument_of m = argument_by (atom_in m) (reference_in m)

-- one tuple, or a proper list of tuples
abbrev pub objects_by : Meaning → Option Object → Option (List Object)
objects_by m (Some object) = Some (object ∷ [])
objects_by m None = each_in parts_in m

abbrev pub objects_of : Meaning → Option (List Object)
objects_of m = objects_by m (parts_in m)

-- an addition: two integers, or four
abbrev pub addition_at : Option ℤ → Option ℤ → Option (ℤ × ℤ) → Option Addition
addition_at (Some position) (Some n) limit = Some (record { position = position_of position; amount = n; limit = limit })
addition_at position n limit = None

abbrev pub addition_within : Option ℤ → Option ℤ → Option ℤ → Option ℤ → Option Addition
addition_within position n (Some limit) (Some value) = addition_at position n (Some (limit, value))
addition_within position n limit value = None

abbrev pub addition_of_parts : List Meaning → Option Addition
addition_of_parts (position ∷ n ∷ []) = addition_at (integer_in position) (integer_in n) None
addition_of_parts (position ∷ n ∷ limit ∷ value ∷ []) = addition_within (integer_in position) (integer_in n) (integer_in limit) (integer_in value)
addition_of_parts parts = None

abbrev pub addition_of : Meaning → Option Addition
addition_of m = option_and_then addition_of_parts (parts_in m)

-- an integer, an addition, or a proper list of additions
abbrev pub one_addition : Option Addition → Increment
one_addition (Some addition) = AtPlace addition
one_addition None = NotGiven

abbrev pub several_additions : Option (List Addition) → Increment
several_additions (Some additions) = InTurn additions
several_additions None = NotGiven

abbrev pub increment_by : Meaning → Option ℤ → Option (List Meaning) → Increment
increment_by m (Some n) parts = AfterKey n
increment_by m None (Some parts) = one_addition (addition_of_parts parts)
increment_by m None None = several_additions (each_in addition_of m)

abbrev pub increment_of : Meaning → Increment
increment_of m = increment_by m (integer_in m) (parts_in m)

-- a pair with an integer first: where, and what is to be there
abbrev pub change_of_parts : List Meaning → Option (ℕ × Meaning)
change_of_parts (position ∷ value ∷ []) = option_map (λ n. (position_of n, value)) (integer_in position)
change_of_parts parts = None

abbrev pub change_of : Meaning → Option (ℕ × Meaning)
change_of m = option_and_then change_of_parts (parts_in m)

-- one such pair, or a proper list of them
abbrev pub changes_by : Meaning → Option (List Meaning) → Option (List (ℕ × Meaning))
changes_by m (Some parts) = option_map (λ change. change ∷ []) (change_of_parts parts)
changes_by m None = each_in change_of m

abbrev pub changes_of : Meaning → Option (List (ℕ × Meaning))
changes_of m = changes_by m (parts_in m)

-- the items of `info/2`, in the order in which `info/1` lists them
abbrev pub known_items : List (Name × Item)
known_items =
    (codes "owner", items.Owner) ∷ (codes "heir", items.Heir) ∷ (codes "name", items.Name) ∷ (codes "size", items.Size)
    ∷ (codes "named_table", items.NamedTable) ∷ (codes "type", items.Type) ∷ (codes "keypos", items.Position) ∷ (codes "protection", items.Protection) ∷ []

abbrev pub item_of : Meaning → Option Item
item_of m = option_and_then (λ text. found_beside text known_items) (atom_in m)

-- ---- which call it is, by the number of its arguments

abbrev pub call_of_one : CallKind → Meaning → Call
call_of_one kinds.Link to = Link (process_in to)
call_of_one kinds.Unlink from = Unlink (process_in from)
call_of_one kinds.Demonitor ref = Demonitor (reference_in ref) (Some false)
call_of_one kinds.Unregister name = Unregister (atom_in name)
call_of_one kinds.Whereis name = WhereIs (atom_in name)
call_of_one kinds.IsProcessAlive whom = IsAlive (process_in whom)
call_of_one kinds.AliasWith options = MakeAlias (end_of options)
call_of_one kinds.Unalias ref = Unalias (reference_in ref)
call_of_one kinds.CancelTimer ref = CancelTimer (reference_in ref)
call_of_one kinds.ReadTimer ref = ReadTimer (reference_in ref)
call_of_one kinds.First table = OnTable (argument_of table) First
call_of_one kinds.Last table = OnTable (argument_of table) Last
call_of_one kinds.TableToList table = OnTable (argument_of table) ToList
call_of_one kinds.DeleteTable table = OnTable (argument_of table) DeleteTable
call_of_one kinds.DeleteAllObjects table = OnTable (argument_of table) DeleteAll
call_of_one kinds.InfoAll table = OnTable (argument_of table) InfoAll
call_of_one kind a = Misfit

abbrev pub call_of_two : CallKind → Meaning → Meaning → Call
call_of_two kinds.Bang to message = Send (destination_of to) message
call_of_two kinds.Send to message = Send (destination_of to) message
call_of_two kinds.Exit to reason = SendExit (process_in to) reason
call_of_two kinds.Monitor type whom = monitor_of type whom (Some None)
call_of_two kinds.DemonitorWith ref options = Demonitor (reference_in ref) (flushes_of options)
call_of_two kinds.ProcessFlag flag value = Flag (flag_of flag value)
call_of_two kinds.Register name whom = Register (atom_in name) (process_in whom)
call_of_two kinds.ProcessInfo whom item = ProcessInfo (process_in whom) (process_item_of item)
call_of_two kinds.New name options = New (atom_in name) (options_of options)
call_of_two kinds.Lookup table key = OnTable (argument_of table) (Lookup key)
call_of_two kinds.Member table key = OnTable (argument_of table) (Member key)
call_of_two kinds.Next table key = OnTable (argument_of table) (Next key)
call_of_two kinds.Prev table key = OnTable (argument_of table) (Prev key)
call_of_two kinds.Insert table objects = OnTable (argument_of table) (Insert (objects_of objects))
call_of_two kinds.InsertNew table objects = OnTable (argument_of table) (InsertNew (objects_of objects))
call_of_two kinds.DeleteKey table key = OnTable (argument_of table) (DeleteKey key)
call_of_two kinds.DeleteObject table object = OnTable (argument_of table) (DeleteObject (parts_in object))
call_of_two kinds.Take table key = OnTable (argument_of table) (Take key)
call_of_two kinds.SetOptions table options = OnTable (argument_of table) (SetOptions (heirs_of options))
call_of_two kinds.Info table item = OnTable (argument_of table) (Info (item_of item))
call_of_two kind a b = Misfit

abbrev pub call_of_three : CallKind → Meaning → Meaning → Meaning → Call
call_of_three kinds.Spawn m f arguments = Spawn Alone (origin_of (atom_in m) (atom_in f) (items_in arguments))
call_of_three kinds.SpawnLink m f arguments = Spawn Linked (origin_of (atom_in m) (atom_in f) (items_in arguments))
call_of_three kinds.SpawnMonitor m f arguments = Spawn Watched (origin_of (atom_in m) (atom_in f) (items_in arguments))
call_of_three kinds.MonitorWith type whom options = monitor_of type whom (alias_of options)
call_of_three kinds.StartTimer time to message = StartTimer true (time_of time) (process_in to) message
call_of_three kinds.SendAfter time to message = StartTimer false (time_of time) (process_in to) message
call_of_three kinds.LookupElement table key position = OnTable (argument_of table) (LookupElement key (positive_in position))
call_of_three kinds.UpdateCounter table key increment = OnTable (argument_of table) (UpdateCounter key (increment_of increment) None)
call_of_three kinds.UpdateElement table key changes = OnTable (argument_of table) (UpdateElement key (changes_of changes))
call_of_three kinds.GiveAway table to gift = OnTable (argument_of table) (GiveAway (process_in to) gift)
call_of_three kind a b c = Misfit

abbrev pub call_of_four : CallKind → Meaning → Meaning → Meaning → Meaning → Call
call_of_four kinds.UpdateCounterWith table key increment default = OnTable (argument_of table) (UpdateCounter key (increment_of increment) (Some (parts_in default)))
call_of_four kind a b c d = Misfit

abbrev pub call_of_none : CallKind → Call
call_of_none kinds.MakeRef = MakeRef
call_of_none kinds.Registered = Registered
call_of_none kinds.Alias = MakeAlias (Some ByUnalias)
call_of_none kind = Misfit

abbrev pub call_of : CallKind → List Meaning → Call
call_of kind [] = call_of_none kind
call_of kind (a ∷ []) = call_of_one kind a
call_of kind (a ∷ b ∷ []) = call_of_two kind a b
call_of kind (a ∷ b ∷ c ∷ []) = call_of_three kind a b c
call_of kind (a ∷ b ∷ c ∷ d ∷ []) = call_of_four kind a b c d
call_of kind (a ∷ b ∷ c ∷ d ∷ e ∷ more) = Misfit

-- whether a call is of tables
abbrev pub is_of_tables : Call → Bool
is_of_tables (New name options) = true
is_of_tables (OnTable argument call) = true
is_of_tables call = false
