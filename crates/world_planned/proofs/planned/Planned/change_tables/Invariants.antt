use Rattle.std.proofs.Common.{◌≡◌, length}
use Rattle.std.specs.Vec.Iter.{into_iter_items, into_iter_len}
use Rattle.world_planned.proofs.Adding.{IsAdding}
use Rattle.world_planned.proofs.planned.Planned.change_tables.Given as goal

-- those before this one were added
abbrev pub invariant-loop-change : goal.invariant-loop-change
invariant-loop-change l =
    IsAdding l.fn.changes.items (into_iter_items l.change-iterator) l.fn.self l.self
    × (into_iter_len l.change-iterator ≡ length (into_iter_items l.change-iterator))
