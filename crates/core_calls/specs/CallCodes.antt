-- The numbers of calls, by which two calls are compared.
use Rattle.std.specs.Prelude.{◌≡◌, ℕ, get_or, refl}
use Rattle.std.specs.Coded.{Coded, code_by, coded_ℕ}
use Rattle.core_calls.specs.declared.call.CallKind.{CallKind}
use Rattle.core_calls.specs.declared.call.CallKind.TheVariants.{Spawn, SpawnLink, SpawnMonitor, Bang, Send, Exit, Link, Unlink, Monitor, Demonitor, DemonitorWith, ProcessFlag, Register, Unregister, Whereis, IsProcessAlive, MakeRef, MonitorWith, Alias, AliasWith, Unalias, StartTimer, SendAfter, CancelTimer, ReadTimer, Registered, ProcessInfo, New, Lookup, Member, LookupElement, First, Last, Next, Prev, TableToList, Insert, InsertNew, DeleteTable, DeleteKey, DeleteObject, DeleteAllObjects, Take, UpdateCounter, UpdateCounterWith, UpdateElement, GiveAway, SetOptions, Info, InfoAll}
use Rattle.core_calls.specs.Calls as world
use Rattle.core_calls.specs.declared.pure.PureCall.{PureCall}
use Rattle.core_calls.specs.declared.pure.PureCall.TheVariants as calls
use Rattle.core_calls.specs.PureCalls.{pure_calls}

-- ---- calls of the world
abbrev pub number_of_call : CallKind → ℕ
number_of_call Spawn = 0
number_of_call SpawnLink = 1
number_of_call SpawnMonitor = 2
number_of_call Bang = 3
number_of_call Send = 4
number_of_call Exit = 5
number_of_call Link = 6
number_of_call Unlink = 7
number_of_call Monitor = 8
number_of_call Demonitor = 9
number_of_call DemonitorWith = 10
number_of_call ProcessFlag = 11
number_of_call Register = 12
number_of_call Unregister = 13
number_of_call Whereis = 14
number_of_call IsProcessAlive = 15
number_of_call MakeRef = 16
number_of_call MonitorWith = 17
number_of_call Alias = 18
number_of_call AliasWith = 19
number_of_call Unalias = 20
number_of_call StartTimer = 21
number_of_call SendAfter = 22
number_of_call CancelTimer = 23
number_of_call ReadTimer = 24
number_of_call Registered = 25
number_of_call ProcessInfo = 26
number_of_call New = 27
number_of_call Lookup = 28
number_of_call Member = 29
number_of_call LookupElement = 30
number_of_call First = 31
number_of_call Last = 32
number_of_call Next = 33
number_of_call Prev = 34
number_of_call TableToList = 35
number_of_call Insert = 36
number_of_call InsertNew = 37
number_of_call DeleteTable = 38
number_of_call DeleteKey = 39
number_of_call DeleteObject = 40
number_of_call DeleteAllObjects = 41
number_of_call Take = 42
number_of_call UpdateCounter = 43
number_of_call UpdateCounterWith = 44
number_of_call UpdateElement = 45
number_of_call GiveAway = 46
number_of_call SetOptions = 47
number_of_call Info = 48
number_of_call InfoAll = 49

abbrev pub call_of_number : ℕ → CallKind
call_of_number n = get_or world.calls n Spawn

pub call_of_number-number_of_call : (k : CallKind) → call_of_number (number_of_call k) ≡ k
call_of_number-number_of_call Spawn = refl
call_of_number-number_of_call SpawnLink = refl
call_of_number-number_of_call SpawnMonitor = refl
call_of_number-number_of_call Bang = refl
call_of_number-number_of_call Send = refl
call_of_number-number_of_call Exit = refl
call_of_number-number_of_call Link = refl
call_of_number-number_of_call Unlink = refl
call_of_number-number_of_call Monitor = refl
call_of_number-number_of_call Demonitor = refl
call_of_number-number_of_call DemonitorWith = refl
call_of_number-number_of_call ProcessFlag = refl
call_of_number-number_of_call Register = refl
call_of_number-number_of_call Unregister = refl
call_of_number-number_of_call Whereis = refl
call_of_number-number_of_call IsProcessAlive = refl
call_of_number-number_of_call MakeRef = refl
call_of_number-number_of_call MonitorWith = refl
call_of_number-number_of_call Alias = refl
call_of_number-number_of_call AliasWith = refl
call_of_number-number_of_call Unalias = refl
call_of_number-number_of_call StartTimer = refl
call_of_number-number_of_call SendAfter = refl
call_of_number-number_of_call CancelTimer = refl
call_of_number-number_of_call ReadTimer = refl
call_of_number-number_of_call Registered = refl
call_of_number-number_of_call ProcessInfo = refl
call_of_number-number_of_call New = refl
call_of_number-number_of_call Lookup = refl
call_of_number-number_of_call Member = refl
call_of_number-number_of_call LookupElement = refl
call_of_number-number_of_call First = refl
call_of_number-number_of_call Last = refl
call_of_number-number_of_call Next = refl
call_of_number-number_of_call Prev = refl
call_of_number-number_of_call TableToList = refl
call_of_number-number_of_call Insert = refl
call_of_number-number_of_call InsertNew = refl
call_of_number-number_of_call DeleteTable = refl
call_of_number-number_of_call DeleteKey = refl
call_of_number-number_of_call DeleteObject = refl
call_of_number-number_of_call DeleteAllObjects = refl
call_of_number-number_of_call Take = refl
call_of_number-number_of_call UpdateCounter = refl
call_of_number-number_of_call UpdateCounterWith = refl
call_of_number-number_of_call UpdateElement = refl
call_of_number-number_of_call GiveAway = refl
call_of_number-number_of_call SetOptions = refl
call_of_number-number_of_call Info = refl
call_of_number-number_of_call InfoAll = refl

abbrev pub coded_call : Coded CallKind
coded_call = code_by ℕ coded_ℕ number_of_call call_of_number call_of_number-number_of_call

-- ---- calls that a process answers by itself
abbrev pub number_of_pure : PureCall → ℕ
number_of_pure calls.Add = 0
number_of_pure calls.Subtract = 1
number_of_pure calls.Multiply = 2
number_of_pure calls.Keep = 3
number_of_pure calls.Negate = 4
number_of_pure calls.Divide = 5
number_of_pure calls.Remainder = 6
number_of_pure calls.Absolute = 7
number_of_pure calls.BitAnd = 8
number_of_pure calls.BitOr = 9
number_of_pure calls.BitXor = 10
number_of_pure calls.BitNot = 11
number_of_pure calls.Equal = 12
number_of_pure calls.NotEqual = 13
number_of_pure calls.Same = 14
number_of_pure calls.NotSame = 15
number_of_pure calls.Less = 16
number_of_pure calls.AtMost = 17
number_of_pure calls.Greater = 18
number_of_pure calls.AtLeast = 19
number_of_pure calls.And = 20
number_of_pure calls.Or = 21
number_of_pure calls.Xor = 22
number_of_pure calls.Not = 23
number_of_pure calls.IsInteger = 24
number_of_pure calls.IsNumber = 25
number_of_pure calls.IsAtom = 26
number_of_pure calls.IsBoolean = 27
number_of_pure calls.IsTuple = 28
number_of_pure calls.IsList = 29
number_of_pure calls.IsPid = 30
number_of_pure calls.IsReference = 31
number_of_pure calls.IsFloat = 32
number_of_pure calls.IsBinary = 33
number_of_pure calls.IsRecord = 34
number_of_pure calls.Element = 35
number_of_pure calls.SetElement = 36
number_of_pure calls.TupleSize = 37
number_of_pure calls.Head = 38
number_of_pure calls.Tail = 39
number_of_pure calls.Length = 40
number_of_pure calls.Append = 41
number_of_pure calls.Without = 42
number_of_pure calls.TupleToList = 43
number_of_pure calls.ListToTuple = 44
number_of_pure calls.OwnPid = 45
number_of_pure calls.Put = 46
number_of_pure calls.Get = 47
number_of_pure calls.GetAll = 48
number_of_pure calls.GetKeys = 49
number_of_pure calls.GetKeysOf = 50
number_of_pure calls.Erase = 51
number_of_pure calls.EraseAll = 52
number_of_pure calls.Error = 53
number_of_pure calls.ErrorWith = 54
number_of_pure calls.Exit = 55
number_of_pure calls.Throw = 56
number_of_pure calls.ModuleInfo = 57
number_of_pure calls.ModuleInfoItem = 58
number_of_pure calls.Reverse = 59
number_of_pure calls.Member = 60
number_of_pure calls.AppendLists = 61

abbrev pub pure_of_number : ℕ → PureCall
pure_of_number n = get_or pure_calls n calls.Add

pub pure_of_number-number_of_pure : (k : PureCall) → pure_of_number (number_of_pure k) ≡ k
pure_of_number-number_of_pure calls.Add = refl
pure_of_number-number_of_pure calls.Subtract = refl
pure_of_number-number_of_pure calls.Multiply = refl
pure_of_number-number_of_pure calls.Keep = refl
pure_of_number-number_of_pure calls.Negate = refl
pure_of_number-number_of_pure calls.Divide = refl
pure_of_number-number_of_pure calls.Remainder = refl
pure_of_number-number_of_pure calls.Absolute = refl
pure_of_number-number_of_pure calls.BitAnd = refl
pure_of_number-number_of_pure calls.BitOr = refl
pure_of_number-number_of_pure calls.BitXor = refl
pure_of_number-number_of_pure calls.BitNot = refl
pure_of_number-number_of_pure calls.Equal = refl
pure_of_number-number_of_pure calls.NotEqual = refl
pure_of_number-number_of_pure calls.Same = refl
pure_of_number-number_of_pure calls.NotSame = refl
pure_of_number-number_of_pure calls.Less = refl
pure_of_number-number_of_pure calls.AtMost = refl
pure_of_number-number_of_pure calls.Greater = refl
pure_of_number-number_of_pure calls.AtLeast = refl
pure_of_number-number_of_pure calls.And = refl
pure_of_number-number_of_pure calls.Or = refl
pure_of_number-number_of_pure calls.Xor = refl
pure_of_number-number_of_pure calls.Not = refl
pure_of_number-number_of_pure calls.IsInteger = refl
pure_of_number-number_of_pure calls.IsNumber = refl
pure_of_number-number_of_pure calls.IsAtom = refl
pure_of_number-number_of_pure calls.IsBoolean = refl
pure_of_number-number_of_pure calls.IsTuple = refl
pure_of_number-number_of_pure calls.IsList = refl
pure_of_number-number_of_pure calls.IsPid = refl
pure_of_number-number_of_pure calls.IsReference = refl
pure_of_number-number_of_pure calls.IsFloat = refl
pure_of_number-number_of_pure calls.IsBinary = refl
pure_of_number-number_of_pure calls.IsRecord = refl
pure_of_number-number_of_pure calls.Element = refl
pure_of_number-number_of_pure calls.SetElement = refl
pure_of_number-number_of_pure calls.TupleSize = refl
pure_of_number-number_of_pure calls.Head = refl
pure_of_number-number_of_pure calls.Tail = refl
pure_of_number-number_of_pure calls.Length = refl
pure_of_number-number_of_pure calls.Append = refl
pure_of_number-number_of_pure calls.Without = refl
pure_of_number-number_of_pure calls.TupleToList = refl
pure_of_number-number_of_pure calls.ListToTuple = refl
pure_of_number-number_of_pure calls.OwnPid = refl
pure_of_number-number_of_pure calls.Put = refl
pure_of_number-number_of_pure calls.Get = refl
pure_of_number-number_of_pure calls.GetAll = refl
pure_of_number-number_of_pure calls.GetKeys = refl
pure_of_number-number_of_pure calls.GetKeysOf = refl
pure_of_number-number_of_pure calls.Erase = refl
pure_of_number-number_of_pure calls.EraseAll = refl
pure_of_number-number_of_pure calls.Error = refl
pure_of_number-number_of_pure calls.ErrorWith = refl
pure_of_number-number_of_pure calls.Exit = refl
pure_of_number-number_of_pure calls.Throw = refl
pure_of_number-number_of_pure calls.ModuleInfo = refl
pure_of_number-number_of_pure calls.ModuleInfoItem = refl
pure_of_number-number_of_pure calls.Reverse = refl
pure_of_number-number_of_pure calls.Member = refl
pure_of_number-number_of_pure calls.AppendLists = refl
