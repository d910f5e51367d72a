-- The calls of processes and tables: their names and the numbers of their arguments (Erlang reference manual, modules erlang and ets).
use Rattle.std.specs.Prelude.{ℕ, Bool, ◌==◌, ◌&&◌, if◌then◌else◌, List, [], ◌∷◌, Option, Some, None, codes}
use Rattle.std.specs.Cmp.Lexicographic.{pointwise}
use Rattle.core_calls.specs.declared.call.CallKind.{CallKind}
use Rattle.core_calls.specs.declared.call.CallKind.TheVariants.{Spawn, SpawnLink, SpawnMonitor, Bang, Send, Exit, Link, Unlink, Monitor, Demonitor, DemonitorWith, ProcessFlag, Register, Unregister, Whereis, IsProcessAlive, MakeRef, MonitorWith, Alias, AliasWith, Unalias, StartTimer, SendAfter, CancelTimer, ReadTimer, Registered, ProcessInfo, New, Lookup, Member, LookupElement, First, Last, Next, Prev, TableToList, Insert, InsertNew, DeleteTable, DeleteKey, DeleteObject, DeleteAllObjects, Take, UpdateCounter, UpdateCounterWith, UpdateElement, GiveAway, SetOptions, Info, InfoAll}

-- the name of a call's module and function, and the number of its arguments
pub record Signature : Type 0 where
  pub module_name : List ℕ
  pub function_name : List ℕ
  pub arity : ℕ

abbrev pub process_call : List ℕ → ℕ → Signature
process_call f n = record { module_name = codes "erlang"; function_name = f; arity = n }

abbrev pub table_call : List ℕ → ℕ → Signature
table_call f n = record { module_name = codes "ets"; function_name = f; arity = n }

-- the names and the arity of each call
abbrev pub signature : CallKind → Signature
signature Spawn = process_call (codes "spawn") 3
signature SpawnLink = process_call (codes "spawn_link") 3
signature SpawnMonitor = process_call (codes "spawn_monitor") 3
signature Bang = process_call (codes "!") 2
signature Send = process_call (codes "send") 2
signature Exit = process_call (codes "exit") 2
signature Link = process_call (codes "link") 1
signature Unlink = process_call (codes "unlink") 1
signature Monitor = process_call (codes "monitor") 2
signature Demonitor = process_call (codes "demonitor") 1
signature DemonitorWith = process_call (codes "demonitor") 2
signature ProcessFlag = process_call (codes "process_flag") 2
signature Register = process_call (codes "register") 2
signature Unregister = process_call (codes "unregister") 1
signature Whereis = process_call (codes "whereis") 1
signature IsProcessAlive = process_call (codes "is_process_alive") 1
signature MakeRef = process_call (codes "make_ref") 0
signature MonitorWith = process_call (codes "monitor") 3
signature Alias = process_call (codes "alias") 0
signature AliasWith = process_call (codes "alias") 1
signature Unalias = process_call (codes "unalias") 1
signature StartTimer = process_call (codes "start_timer") 3
signature SendAfter = process_call (codes "send_after") 3
signature CancelTimer = process_call (codes "cancel_timer") 1
signature ReadTimer = process_call (codes "read_timer") 1
signature Registered = process_call (codes "registered") 0
signature ProcessInfo = process_call (codes "process_info") 2
signature New = table_call (codes "new") 2
signature Lookup = table_call (codes "lookup") 2
signature Member = table_call (codes "member") 2
signature LookupElement = table_call (codes "lookup_element") 3
signature First = table_call (codes "first") 1
signature Last = table_call (codes "last") 1
signature Next = table_call (codes "next") 2
signature Prev = table_call (codes "prev") 2
signature TableToList = table_call (codes "tab2list") 1
signature Insert = table_call (codes "insert") 2
signature InsertNew = table_call (codes "insert_new") 2
signature DeleteTable = table_call (codes "delete") 1
signature DeleteKey = table_call (codes "delete") 2
signature DeleteObject = table_call (codes "delete_object") 2
signature DeleteAllObjects = table_call (codes "delete_all_objects") 1
signature Take = table_call (codes "take") 2
signature UpdateCounter = table_call (codes "update_counter") 3
signature UpdateCounterWith = table_call (codes "update_counter") 4
signature UpdateElement = table_call (codes "update_element") 3
signature GiveAway = table_call (codes "give_away") 3
signature SetOptions = table_call (codes "setopts") 2
signature Info = table_call (codes "info") 2
signature InfoAll = table_call (codes "info") 1

-- all of the calls, each once
abbrev pub calls : List CallKind
calls = Spawn ∷ SpawnLink ∷ SpawnMonitor ∷ Bang ∷ Send ∷ Exit ∷ Link ∷ Unlink ∷ Monitor ∷ Demonitor ∷ DemonitorWith ∷ ProcessFlag ∷ Register ∷ Unregister ∷ Whereis ∷ IsProcessAlive ∷ MakeRef ∷ MonitorWith ∷ Alias ∷ AliasWith ∷ Unalias ∷ StartTimer ∷ SendAfter ∷ CancelTimer ∷ ReadTimer ∷ Registered ∷ ProcessInfo ∷ New ∷ Lookup ∷ Member ∷ LookupElement ∷ First ∷ Last ∷ Next ∷ Prev ∷ TableToList ∷ Insert ∷ InsertNew ∷ DeleteTable ∷ DeleteKey ∷ DeleteObject ∷ DeleteAllObjects ∷ Take ∷ UpdateCounter ∷ UpdateCounterWith ∷ UpdateElement ∷ GiveAway ∷ SetOptions ∷ Info ∷ InfoAll ∷ []

-- ---- calls by name

-- whether a call has these names and so many arguments
abbrev pub has_signature : List ℕ → List ℕ → ℕ → Signature → Bool
has_signature module_name function_name arity s = pointwise ◌==◌ s.module_name module_name && (pointwise ◌==◌ s.function_name function_name && s.arity == arity)

-- the first of several calls that passes a test
abbrev pub first_with : {X : Type 0} → (X → Bool) → List X → Option X
first_with test [] = None
first_with test (x ∷ xs) = if test x then Some x else first_with test xs

-- the call of these names and so many arguments, if there is one
unfoldable pub call_with : List ℕ → List ℕ → ℕ → Option CallKind
call_with module_name function_name arity = first_with (λ kind. has_signature module_name function_name arity (signature kind)) calls
