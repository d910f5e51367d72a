-- The guards of references, as the map has them.
use Rattle.std.specs.Prelude.{◌≡◌, ℕ, List, Option, if◌then◌else◌}
use Rattle.std.specs.BTreeMap.{BTreeMap, get, is_at}
use Rattle.term_core.specs.StepOrder.{order_of_reference_ids}
use Rattle.proc_links.specs.declared.guards.Guard.{Guard}

-- a reference has this guard, or none; others have what they had
abbrev pub IsGuardSet : List ℕ × ℕ → Option Guard → BTreeMap (List ℕ × ℕ) Guard → BTreeMap (List ℕ × ℕ) Guard → Type 0
IsGuardSet id guard old new = (other : List ℕ × ℕ) → get order_of_reference_ids new other ≡ (if is_at (order_of_reference_ids id) other then guard else get order_of_reference_ids old other)
