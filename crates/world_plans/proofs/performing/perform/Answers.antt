use Rattle.std.proofs.Common.{◌≡◌, ◌∙◌, Some, option_map, ap, sym, subst}
use Rattle.world_model.specs.Asking.{program_of}
use Rattle.world_model.specs.Steps.{next_deed}
use Rattle.world_records.specs.Changes.{all_changes_in}
use Rattle.world_records.specs.Records.{Agrees}
use Rattle.world_footprints.specs.Deeds.{deed_in}
use Rattle.world_footprints.specs.Plans.{left}
use Rattle.world_plans.proofs.Performed.{can_perform, performed}
use Rattle.world_plans.proofs.Turning.{on_ok}
use Rattle.world_plans.proofs.performing.perform.Goals as goal

pub returns : goal.returns
returns c = on_ok c.apply_all.result _ _ (λ applies m v told is new.
    let plan = c.args.plan.now in
    let deed = deed_in c.in-Some.deed in
    let next : next_deed (program_of m) v plan.step ≡ Some deed = sym is.deed ∙ ap (option_map deed_in) c.in-Some.is in
    let begun = c.in_ok-begin.ensures m v told next in
    let others = ap all_changes_in c.as_slice.ensures.value ∙ is.changes in
    subst (λ d. Agrees m c.apply_all.new.records (left v plan.step (option_map deed_in d))) (sym c.in-Some.is)
    (performed m c.apply_all.new.records (program_of m) v plan.step deed _ next others (applies m _ begun (can_perform (program_of m) v plan.step deed _ next new others)))) c.apply_all.ensures
