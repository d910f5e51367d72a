use Rattle.std.proofs.Common.{◌≡◌, List, [], length, ap, subst, arith}
use Rattle.std.specs.Vec.Iter.{into_iter_items}
use Rattle.std.proofs.lemmas.List.{nil_from_length}
use Rattle.ets_rules.specs.declared.change.TableChange.{TableChange}
use Rattle.world_planned.proofs.Adding.{IsAdding, adding_ends, adding_on}
use Rattle.world_planned.proofs.planned.Planned.change_tables.Goals as goal

pub loop-change-preserved : goal.loop-change-preserved
loop-change-preserved c =
    let step = c.in-Some.ensures.steps in (
      adding_on c.args.changes.items c.in-Some.change (into_iter_items c.next.new.self) _ _ _
          (subst (λ (cs : List TableChange). IsAdding c.args.changes.items cs c.args.self.now c.loop-change.self) step.0 c.loop-change.invariant.0) c.in_ok-change.ensures,
      omega (arith, step.1, c.loop-change.invariant.1, ap length step.0),
    )

pub returns : goal.returns
returns c =
    let none : into_iter_items c.loop-change.change-iterator ≡ [] = nil_from_length _ (omega (arith, c.in-None.ensures.steps.0, c.loop-change.invariant.1)) in
    adding_ends c.args.changes.items _ c.args.self.now c.loop-change.self none c.loop-change.invariant.0
