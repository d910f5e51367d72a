-- The names of processes.
use Rattle.std.specs.Prelude.{◌≡◌, ◌∷◌, [], List, Option, Some, None}
use Rattle.std.specs.BTreeMap.{get}
use Rattle.std.specs.FinMap as map
use Rattle.term_core.specs.Order.{order_of_lists}
use Rattle.world_model.specs.Cells as cells
use Rattle.world_model.specs.Cells.{Contents}
use Rattle.world_model.specs.Changes.{Change, HolderSet, NameSet}
use Rattle.world_model.specs.Events.{Refusal, Badarg}
use Rattle.world_model.specs.Names.{Name, Pid}
use Rattle.proc_links.specs.Bearers.{put_at}
use Rattle.proc_links.specs.declared.names.Names.{Names}
use Rattle.proc_links.specs.declared.names.Naming.{Naming}
use Rattle.proc_links.specs.declared.names.Naming.TheVariants.{Served, Refused}

-- who holds a name
abbrev pub holder_in : Names → Name → Option Pid
holder_in names name = get order_of_lists names.bearers.value.holders name

-- which name a process has
abbrev pub name_in : Names → Pid → Option Name
name_in names p = get order_of_lists names.bearers.value.names p

-- the names are what the contents say
abbrev pub AreHolders : Names → Contents → Type 0
AreHolders names v = (name : Name) → holder_in names name ≡ v (cells.Holder name)

abbrev pub AreListed : Names → Contents → Type 0
AreListed names v = (name : Name) → holder_in names name ≡ map.get (v cells.Holders) name

abbrev pub AreBorne : Names → Contents → Type 0
AreBorne names v = (p : Pid) → name_in names p ≡ v (cells.NameOf p)

-- each name has the holder that it had, and each process the name
pub record IsUnchanged (old new : Names) : Type 0 where
  pub holders : (m : Name) → holder_in new m ≡ holder_in old m
  pub names : (r : Pid) → name_in new r ≡ name_in old r

-- a name has this holder, and a process this name; others have what they had
pub record IsNamed (name : Name) (p : Pid) (holder : Option Pid) (borne : Option Name) (old new : Names) : Type 0 where
  pub holders : (m : Name) → holder_in new m ≡ put_at name holder m (holder_in old m)
  pub names : (r : Pid) → name_in new r ≡ put_at p borne r (name_in old r)

-- a process has the name, or nothing is changed where the call is refused
abbrev pub Registers : Naming → Name → Pid → Names → Names → Type 0
Registers Served name p old new = IsNamed name p (Some p) (Some name) old new
Registers Refused name p old new = IsUnchanged old new

-- a process that held a name no longer has it
abbrev pub Unregisters : Name → Option Pid → Names → Names → Type 0
Unregisters name None old new = IsUnchanged old new
Unregisters name (Some p) old new = IsNamed name p None None old new

-- nobody holds the name that a process had
abbrev pub Leaves : Pid → Option Name → Names → Names → Type 0
Leaves p None old new = IsUnchanged old new
Leaves p (Some name) old new = IsNamed name p None None old new

abbrev pub refusal_of : Naming → Option Refusal
refusal_of Served = None
refusal_of Refused = Some Badarg

-- what `register/2` changes
abbrev pub changes_registered : Naming → Name → Pid → List Change
changes_registered Served name p = HolderSet name p ∷ NameSet p name ∷ []
changes_registered Refused name p = []
