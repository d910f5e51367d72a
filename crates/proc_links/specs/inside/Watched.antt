-- Watches by their references, as the maps have them.
use Rattle.std.specs.Prelude.{◌≡◌, ℕ, List, Option, bytes_eq, if◌then◌else◌}
use Rattle.std.specs.BTreeMap.{get, is_at}
use Rattle.term_core.specs.StepOrder.{order_of_reference_ids}
use Rattle.proc_groups.specs.Groups.{members_in}
use Rattle.world_model.specs.Changes.{set_in_order, without_first}
use Rattle.proc_links.specs.declared.watchers.Watches.{Watches}

-- each process has the watches that it had, and each reference watches the process that it did
pub record AreSame (old new : Watches) : Type 0 where
  pub watchers : (p : List ℕ) → members_in new.watchers p ≡ members_in old.watchers p
  pub targets : (id : List ℕ × ℕ) → get order_of_reference_ids new.targets id ≡ get order_of_reference_ids old.targets id

-- a process has this watch besides, in its place; others have those that they had
abbrev pub IsWatchAdded : List ℕ × ℕ → List ℕ → Watches → Watches → Type 0
IsWatchAdded id target old new = (p : List ℕ) → members_in new.watchers p ≡ (if bytes_eq target p then set_in_order order_of_reference_ids id (members_in old.watchers p) else members_in old.watchers p)

-- a process has this watch no longer; others have those that they had
abbrev pub IsWatchRemoved : List ℕ × ℕ → List ℕ → Watches → Watches → Type 0
IsWatchRemoved id target old new = (p : List ℕ) → members_in new.watchers p ≡ (if bytes_eq target p then without_first (is_at (order_of_reference_ids id)) (members_in old.watchers p) else members_in old.watchers p)

-- a reference watches this process, or none; others watch what they did
abbrev pub IsTargetSet : List ℕ × ℕ → Option (List ℕ) → Watches → Watches → Type 0
IsTargetSet id target old new = (other : List ℕ × ℕ) → get order_of_reference_ids new.targets other ≡ (if is_at (order_of_reference_ids id) other then target else get order_of_reference_ids old.targets other)
