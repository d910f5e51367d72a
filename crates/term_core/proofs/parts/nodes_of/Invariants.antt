use Rattle.std.proofs.Common.{◌≡◌, ◌-◌, ◌^◌, min, ◌+◌, ◌<◌, drop, map}
use Rattle.term_core.specs.Meaning.{sum_of_nodes}
use Rattle.term_core.specs.Term.{meaning_of}
use Rattle.term_core.proofs.parts.nodes_of.Given as goal

-- the nodes so far, and those of what is left
abbrev pub invariant-loop-item : goal.invariant-loop-item
invariant-loop-item l =
    (l.count < 2 ^ 64) × (min (l.count + sum_of_nodes (map meaning_of (drop l.item-index l.items))) (2 ^ 64 - 1) ≡ min (sum_of_nodes (map meaning_of l.items)) (2 ^ 64 - 1))
