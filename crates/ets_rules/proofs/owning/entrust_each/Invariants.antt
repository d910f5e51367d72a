use Rattle.std.proofs.Common.{map, take}
use Rattle.ets_store.specs.Tables.{heir_in}
use Rattle.world_model.specs.Names.{ref_of}
use Rattle.world_model.specs.Changes.{HeirSet}
use Rattle.ets_rules.specs.inside.Planned.{Adds}
use Rattle.ets_rules.proofs.owning.entrust_each.Given as goal

-- it has had each of those before this one
abbrev pub invariant-loop-heir : goal.invariant-loop-heir
invariant-loop-heir l = Adds (map (HeirSet (ref_of l.id)) (map heir_in (take l.heir-index l.heirs))) l.fn.changes l.changes
