-- What a table argument finds, and who may call (ets manual, "Table Access Control").
use Rattle.std.specs.Prelude.{Bool, true, false, List, [], ◌∷◌, Option, Some, None, if◌then◌else◌}
use Rattle.world_model.specs.Calls.{TableArgument, ByName, ByReference, ByNothing, TableCall, Lookup, Member, LookupElement, First, Last, Next, Prev, ToList, Insert, InsertNew, DeleteTable, DeleteKey, DeleteObject, DeleteAll, Take, UpdateCounter, UpdateElement, GiveAway, SetOptions, Info, InfoAll}
use Rattle.world_model.specs.Cells.{Table, Cell, TableName, Contents}
use Rattle.world_model.specs.Names.{Pid, Ref, same_pid}
use Rattle.world_model.specs.Tables as tables
use Rattle.world_model.specs.declared.rule.Rule.{Rule}
use Rattle.world_model.specs.declared.rule.Rule.TheVariants.{NoTable, PrivateRead, PrivateWrite, ProtectedWrite, NotOwner}
use Rattle.world_model.specs.declared.table.Class.{Class}
use Rattle.world_model.specs.declared.table.Class.TheVariants.{Read, Write, Owners, Open}
use Rattle.world_model.specs.declared.table.Protection.{Protection}
use Rattle.world_model.specs.declared.table.Protection.TheVariants.{Private, Protected, Public}

-- a table that is found: the reference of its creation, and the table as it is
pub record Found : Type 0 where
  pub ref : Ref
  pub table : tables.Table

abbrev pub as_found : Ref → Option tables.Table → Option Found
as_found t None = None
as_found t (Some table) = Some (record { ref = t; table = table })

-- the table that a name means
abbrev pub meant : Contents → Option Ref → Option Found
meant v None = None
meant v (Some t) = as_found t (v (Table t))

-- a reference finds a table that has no name to be found by
abbrev pub unless_named : Option Found → Option Found
unless_named None = None
unless_named (Some f) = if f.table.is_named then None else Some f

abbrev pub find : Contents → TableArgument → Option Found
find v (ByName name) = meant v (v (TableName name))
find v (ByReference t) = unless_named (as_found t (v (Table t)))
find v ByNothing = None

-- the cells that finding reads
abbrev pub table_if : Option Ref → List Cell
table_if None = []
table_if (Some t) = Table t ∷ []

abbrev pub reads_of_find : Contents → TableArgument → List Cell
reads_of_find v (ByName name) = TableName name ∷ table_if (v (TableName name))
reads_of_find v (ByReference t) = Table t ∷ []
reads_of_find v ByNothing = []

-- whether an argument can find a table
abbrev pub is_table_argument : TableArgument → Bool
is_table_argument (ByName name) = true
is_table_argument (ByReference t) = true
is_table_argument ByNothing = false

-- ---- who may do what

abbrev pub class_of : TableCall → Class
class_of (Lookup key) = Read
class_of (Member key) = Read
class_of (LookupElement key position) = Read
class_of First = Read
class_of Last = Read
class_of (Next key) = Read
class_of (Prev key) = Read
class_of ToList = Read
class_of (Insert objects) = Write
class_of (InsertNew objects) = Write
class_of DeleteTable = Write
class_of (DeleteKey key) = Write
class_of (DeleteObject object) = Write
class_of DeleteAll = Write
class_of (Take key) = Write
class_of (UpdateCounter key increment default) = Write
class_of (UpdateElement key changes) = Write
class_of (GiveAway to gift) = Owners
class_of (SetOptions heirs) = Owners
class_of (Info item) = Open
class_of InfoAll = Open

-- by the class of a call, the protection of the table, and whether the caller owns it
abbrev pub access_rule : Class → Protection → Bool → Option Rule
access_rule class protection true = None
access_rule Open protection false = None
access_rule Owners protection false = Some NotOwner
access_rule Read Private false = Some PrivateRead
access_rule Read Public false = None
access_rule Read Protected false = None
access_rule Write Public false = None
access_rule Write Protected false = Some ProtectedWrite
access_rule Write Private false = Some PrivateWrite

abbrev pub access_rule_at : Pid → Found → TableCall → Option Rule
access_rule_at p f call = access_rule (class_of call) f.table.protection (same_pid f.table.owner p)

-- where no table is found: only `info/1` and `info/2` are served
abbrev pub rule_of_none : Class → Option Rule
rule_of_none Read = Some NoTable
rule_of_none Write = Some NoTable
rule_of_none Owners = Some NoTable
rule_of_none Open = None
