-- Who has which name.
use Rattle.std.specs.Prelude.{◌≡◌, List, Option, bytes_eq, if◌then◌else◌, map}
use Rattle.std.specs.BTreeMap.{get}
use Rattle.term_core.specs.Order.{order_of_lists}
use Rattle.world_model.specs.Names.{Name, Pid}
use Rattle.proc_links.specs.declared.names.Bearers.{Bearers}

-- a value for a name, or for a process, in place of the one that was there
abbrev pub put_at : {X : Type 0} → Name → Option X → Name → Option X → Option X
put_at key x other there = if bytes_eq key other then x else there

-- all names that are held, in order
abbrev pub listed : Bearers → List Name
listed bearers = map (λ e. e.0) bearers.holders.entries

-- a name has this holder, and a process this name
pub record IsPut (name : Name) (p : Pid) (holder : Option Pid) (borne : Option Name) (old new : Bearers) : Type 0 where
  pub holders : (m : Name) → get order_of_lists new.holders m ≡ put_at name holder m (get order_of_lists old.holders m)
  pub names : (r : Pid) → get order_of_lists new.names r ≡ put_at p borne r (get order_of_lists old.names r)

-- each name has the holder that it had, and each process the name
pub record AreSame (old new : Bearers) : Type 0 where
  pub holders : (m : Name) → get order_of_lists new.holders m ≡ get order_of_lists old.holders m
  pub names : (r : Pid) → get order_of_lists new.names r ≡ get order_of_lists old.names r
