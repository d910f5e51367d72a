use Rattle.std.proofs.Common.{◌≡◌, ◌∙◌, ◌∷◌, [], subst, sym}
use Rattle.std.specs.Prelude.{IfSome}
use Rattle.core_tree.specs.Syntax.{ModuleTree}
use Rattle.world_planned.specs.Replies.{NamesMeanTables}
use Rattle.world_footprints.specs.Footprints.{IsPlan}
use Rattle.world_model.specs.Asking.{program_of}
use Rattle.world_model.specs.Cells.{Contents}
use Rattle.world_records.specs.Records.{Agrees}
use Rattle.search_agenda.specs.inside.Planning.{PutsPlans, step_in}
use Rattle.search_agenda.proofs.Putting.{puts_kept, puts_new}
use Rattle.search_agenda.proofs.planning.put_plan.Goals as goal

pub returns-in-Some-kept : goal.returns-in-Some-kept
returns-in-Some-kept c =
    subst (λ above. PutsPlans c.args.records.now above (step_in c.args.step ∷ []) c.args.plans.now.items c.push.new.self.items) (sym c.in-Some.is)
    (puts_kept c.args.records.now c.in-Some.above (step_in c.args.step) c.in-Some-kept.plan.now c.in_ok-share.field-0 c.args.plans.now.items c.push.new.self.items
    c.in-Some-kept.ensures.held c.in-Some-kept.ensures.step c.in-Some-kept.ensures.unmet c.in_ok-share.ensures c.in_ok-push.ensures.items)

pub returns-in_ok-push-2 : goal.returns-in_ok-push-2
returns-in_ok-push-2 c =
    let records = c.args.records.now in
    let asked = c.in_ok-step_of.field-0 in
    let step = subst (λ o. IfSome o (λ plan. plan.step ≡ asked)) c.in-Some-2.is c.in_ok-plan.ensures.step ∙ c.in_ok-step_of.ensures in
    let holds = subst (λ o. IfSome o (λ plan. (m : ModuleTree) (v : Contents) → Agrees m records v → NamesMeanTables v → IsPlan (program_of m) v plan)) c.in-Some-2.is c.in_ok-plan.ensures.plan in
    puts_new records c.args.above (step_in c.args.step) c.in-Some-2.plan c.in_ok-new.field-0 c.args.plans.now.items c.push-in-Some-2.new.self.items step holds c.in_ok-new.ensures.ok c.in_ok-push-2.ensures.items
