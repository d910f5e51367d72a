use Rattle.std.proofs.Common.{◌≡◌, drop, map}
use Rattle.term_core.specs.Term.{meaning_of}
use Rattle.world_model.specs.Rows.{with_parts}
use Rattle.ets_store.specs.Parts.{part_in}
use Rattle.ets_store.proofs.object.put_parts.Given as goal

-- the parts that are left, after those so far
abbrev pub invariant-loop-part : goal.invariant-loop-part
invariant-loop-part l = with_parts (map part_in (drop l.part-index l.parts)) (map meaning_of l.own.items) ≡ with_parts (map part_in l.parts) (map meaning_of l.fn.own.items)
