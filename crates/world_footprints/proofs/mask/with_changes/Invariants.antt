use Rattle.std.proofs.Common.{◌≡◌, ℕ, map, take}
use Rattle.std.specs.Int.{bit_at}
use Rattle.world_model.specs.Changes.{cell_of}
use Rattle.world_records.specs.Changes.{all_changes_in}
use Rattle.world_footprints.specs.inside.Masks.{Covers}
use Rattle.world_footprints.proofs.mask.with_changes.Given as goal

-- the cells of the changes so far are covered, and the bits that were set are
abbrev pub invariant-loop-change : goal.invariant-loop-change
invariant-loop-change l = Covers l.mask (map cell_of (all_changes_in (take l.change-index l.changes))) × ((i : ℕ) → bit_at l.fn.first i ≡ 1 → bit_at l.mask i ≡ 1)
