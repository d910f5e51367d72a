use Rattle.std.proofs.Common.{Some, ◌∙◌, ap, rules, sym, subst}
use Rattle.std.proofs.lemmas.Int.{to_z-of_z}
use Rattle.std.specs.Int.{w64}
use Rattle.std.specs.Prelude.{FitsSigned, IfOk}
use Rattle.proc_calls.specs.Arguments.{is_named}
use Rattle.term_core.specs.Term.{meaning_of}
use Rattle.world_model.specs.Calls as calls
use Rattle.world_model.specs.Guards.{Timer}
use Rattle.world_planned.specs.inside.PlannedCalls.{Plans}
use Rattle.world_planned.proofs.Calling.{if_ok}
use Rattle.world_process_calls.proofs.guarding.start_for.Goals as goal

pub returns-in_default : goal.returns-in_default
returns-in_default c = subst (λ o. IfOk c.refuse_timer.result (λ reply. Plans c.args.caller.now (calls.StartTimer (is_named c.args.naming) o (Some c.args.to.now) (meaning_of c.args.message)) c.args.records.now reply c.args.planned.now c.refuse_timer.new.planned)) (sym c.in_default.is)
    (if_ok c.refuse_timer.result _ _ (λ reply plans. plans c.args.records.now c.args.caller.now (is_named c.args.naming) (meaning_of c.args.message)) c.refuse_timer.ensures)

pub returns : goal.returns
returns c =
    let fits : FitsSigned w64 c.in-Some.time = search rules in
    subst (λ o. IfOk c.begin_timer.result (λ reply. Plans c.args.caller.now (calls.StartTimer (is_named c.args.naming) o (Some c.args.to.now) (meaning_of c.args.message)) c.args.records.now reply c.args.planned.now c.begin_timer.new.planned)) (sym c.in-Some.is)
    (if_ok c.begin_timer.result _ _ (λ reply plans. plans c.in-Some.time (ap (λ n. Timer c.in_ok-copy.field-0 n) (to_z-of_z w64 c.in-Some.time fits) ∙ ap (λ p. Timer p c.in-Some.time) c.in_ok-copy.ensures)) c.begin_timer.ensures)
