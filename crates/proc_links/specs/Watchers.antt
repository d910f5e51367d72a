-- The watches of processes.
use Rattle.std.specs.Prelude.{◌≡◌, Bool, true, false, List, Option, Some, None, map, if◌then◌else◌}
use Rattle.std.specs.BTreeMap.{get}
use Rattle.term_core.specs.Meaning.{Meaning}
use Rattle.term_core.specs.StepOrder.{order_of_reference_ids}
use Rattle.world_model.specs.Cells as cells
use Rattle.world_model.specs.Cells.{AreAlive, Contents}
use Rattle.world_model.specs.Changes.{SignalPut, set_in_order, without_first}
use Rattle.world_model.specs.Ends.{watchers_told}
use Rattle.world_model.specs.Events.{Down}
use Rattle.world_model.specs.Names.{Pid, Ref, same_pid, same_ref, order_of_refs, ref_of}
use Rattle.proc_groups.specs.Groups.{members_in}
use Rattle.proc_links.specs.declared.watchers.Watchers.{Watchers}

-- the watches of a process, in the order of references
abbrev pub watchers_in : Watchers → Pid → List Ref
watchers_in watchers p = map ref_of (members_in watchers.watches.value.watchers p)

-- the process that a reference watches
abbrev pub watch_in : Watchers → Ref → Option Pid
watch_in watchers ref = get order_of_reference_ids watchers.watches.value.targets (ref.pid, ref.number)

-- the watches are what the contents say
abbrev pub AreWatchers : Watchers → Contents → Type 0
AreWatchers watchers v = (p : Pid) → watchers_in watchers p ≡ v (cells.Watchers p)

abbrev pub AreWatches : Watchers → Contents → Type 0
AreWatches watchers v = (ref : Ref) → watch_in watchers ref ≡ v (cells.Watch ref)

-- the makers of these watches get their signals where a process ends, whatever contents say the watches and who lives
abbrev pub AreWatchersTold : Watchers → (Pid → Bool) → Pid → List Ref → Type 0
AreWatchersTold watchers lives p told = (v : Contents) (reason : Meaning) → AreWatchers watchers v → AreAlive lives v → watchers_told v p reason (v (cells.Watchers p)) ≡ map (λ ref. SignalPut p ref.pid (Down ref reason)) told

-- each process has the watches that it had, and each reference watches the process that it did
pub record IsUnchanged (old new : Watchers) : Type 0 where
  pub watchers : (p : Pid) → watchers_in new p ≡ watchers_in old p
  pub watches : (ref : Ref) → watch_in new ref ≡ watch_in old ref

-- a reference watches a process, which has it among its watches
pub record BeginsWatch (ref : Ref) (target : Pid) (old new : Watchers) : Type 0 where
  pub watchers : (p : Pid) → watchers_in new p ≡ (if same_pid target p then set_in_order order_of_refs ref (watchers_in old p) else watchers_in old p)
  pub watches : (other : Ref) → watch_in new other ≡ (if same_ref ref other then Some target else watch_in old other)

-- a reference watches nobody, and the process no longer has it
pub record EndsWatch (ref : Ref) (target : Pid) (old new : Watchers) : Type 0 where
  pub watchers : (p : Pid) → watchers_in new p ≡ (if same_pid target p then without_first (same_ref ref) (watchers_in old p) else watchers_in old p)
  pub watches : (other : Ref) → watch_in new other ≡ (if same_ref ref other then None else watch_in old other)

-- the watch ends if the caller made it
abbrev pub DemonitorsIf : Bool → Ref → Pid → Watchers → Watchers → Type 0
DemonitorsIf true ref target old new = EndsWatch ref target old new
DemonitorsIf false ref target old new = IsUnchanged old new

-- what `demonitor` by a process leaves, of the process that the reference watches
abbrev pub Demonitors : Pid → Ref → Option Pid → Watchers → Watchers → Type 0
Demonitors p ref None old new = IsUnchanged old new
Demonitors p ref (Some target) old new = DemonitorsIf (same_pid ref.pid p) ref target old new
