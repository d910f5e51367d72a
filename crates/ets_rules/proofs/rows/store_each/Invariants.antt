use Rattle.std.proofs.Common.{take}
use Rattle.ets_answers.specs.At.{found_at}
use Rattle.world_model.specs.Names.{ref_of}
use Rattle.world_model.specs.Objects.{stores}
use Rattle.ets_rules.specs.inside.Planned.{Adds}
use Rattle.ets_rules.proofs.rows.store_each.Given as goal

-- those before this one are put in
abbrev pub invariant-loop-object : goal.invariant-loop-object
invariant-loop-object l = Adds (stores (found_at (ref_of l.id) l.table) (take l.object-index l.objects)) l.fn.changes l.changes
