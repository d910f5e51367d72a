-- For each process a set.
use Rattle.std.specs.Prelude.{ℕ, ◌≡◌, Bool, false, not, List, [], Option, Some, None, bytes_eq, if◌then◌else◌}
use Rattle.std.specs.List.{list_any}
use Rattle.std.specs.declared.cmp.Ordering.{Ordering}
use Rattle.std.specs.BTreeMap.{get, is_at}
use Rattle.std.specs.BTreeSet.{BTreeSet}
use Rattle.term_core.specs.Order.{order_of_lists}
use Rattle.world_model.specs.Changes.{set_in_order}
use Rattle.proc_groups.specs.declared.groups.Groups.{Groups}

-- the members of a set that may be missing
abbrev pub members_of : {K : Type 0} → Option (BTreeSet K) → List K
members_of None = []
members_of (Some set) = set.keys

-- what a process has, in order
abbrev pub members_in : {K : Type 0} → Groups K → List ℕ → List K
members_in groups p = members_of (get order_of_lists groups.sets p)

-- from f to g the set of a process has an item more, or has it still
pub record IsAdded {K : Type 0} (order : K → K → Ordering) (p : List ℕ) (item : K) (is_new : Bool) (f g : List ℕ → List K) : Type 0 where
  pub new_is : is_new ≡ not (list_any (is_at (order item)) (f p))
  pub adds : (q : List ℕ) → g q ≡ (if bytes_eq p q then set_in_order order item (f q) else f q)
  pub stays : is_new ≡ false → (q : List ℕ) → g q ≡ f q
