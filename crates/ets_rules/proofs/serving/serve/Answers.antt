use Rattle.std.proofs.Common.{◌≡◌, IfOk, ap, subst, sym, not, ◌∙◌}
use Rattle.std.specs.Prelude.{option_map}
use Rattle.ets_answers.proofs.Lines.{asked_present, if_ok}
use Rattle.ets_answers.specs.At.{found_at}
use Rattle.ets_calls.specs.Calls.{call_in}
use Rattle.term_core.specs.Term.{meaning_of}
use Rattle.world_model.specs.Names.{ref_of}
use Rattle.world_model.specs.Objects.{given}
use Rattle.world_model.specs.Terms.{truth}
use Rattle.ets_rules.specs.Plans.{OfServedLine, planned_by}
use Rattle.ets_rules.specs.inside.Planned.{stores_unless}
use Rattle.ets_rules.proofs.serving.serve.Goals as goal

pub returns-in-InsertNew-clause-answer : goal.returns-in-InsertNew-clause-answer
returns-in-InsertNew-clause-answer c =
    let found = c.args.found in
    let objects = option_map (λ os. os.items) c.in-InsertNew.objects in
    subst (λ call. IfOk c.insert_new.result (λ served. OfServedLine found (call_in call) (λ l. meaning_of served.answer ≡ l.answer))) (sym c.in-InsertNew.is)
    (if_ok c.insert_new.result (λ served is v p rows allowed rule. is ∙ ap (λ b. truth (not b)) (asked_present found.table.now v p (ref_of found.id.now) rows objects allowed rule)) c.insert_new.ensures.answer)

pub returns-in-InsertNew-clause-changes : goal.returns-in-InsertNew-clause-changes
returns-in-InsertNew-clause-changes c =
    let found = c.args.found in
    let objects = option_map (λ os. os.items) c.in-InsertNew.objects in
    let f = found_at (ref_of found.id.now) found.table.now in
    subst (λ call. IfOk c.insert_new.result (λ served. OfServedLine found (call_in call) (λ l. planned_by found.table.now.owner served.changes.items served.transfer ≡ l.changes))) (sym c.in-InsertNew.is)
    (if_ok c.insert_new.result (λ served is v p rows allowed rule. is ∙ ap (λ b. stores_unless b f (given objects)) (asked_present found.table.now v p (ref_of found.id.now) rows objects allowed rule)) c.insert_new.ensures.changes)

pub returns-in-UpdateCounter-clause-answer : goal.returns-in-UpdateCounter-clause-answer
returns-in-UpdateCounter-clause-answer c =
    subst (λ call. IfOk c.count_given.result (λ served. OfServedLine c.args.found (call_in call) (λ l. meaning_of served.answer ≡ l.answer))) (sym c.in-UpdateCounter.is) c.count_given.ensures.answer

pub returns-in-UpdateCounter-clause-changes : goal.returns-in-UpdateCounter-clause-changes
returns-in-UpdateCounter-clause-changes c =
    let found = c.args.found in
    subst (λ call. IfOk c.count_given.result (λ served. OfServedLine found (call_in call) (λ l. planned_by found.table.now.owner served.changes.items served.transfer ≡ l.changes))) (sym c.in-UpdateCounter.is) c.count_given.ensures.changes

pub returns-in-UpdateElement-clause-answer : goal.returns-in-UpdateElement-clause-answer
returns-in-UpdateElement-clause-answer c =
    subst (λ call. IfOk c.alter_given.result (λ served. OfServedLine c.args.found (call_in call) (λ l. meaning_of served.answer ≡ l.answer))) (sym c.in-UpdateElement.is) c.alter_given.ensures.answer

pub returns-in-UpdateElement-clause-changes : goal.returns-in-UpdateElement-clause-changes
returns-in-UpdateElement-clause-changes c =
    let found = c.args.found in
    subst (λ call. IfOk c.alter_given.result (λ served. OfServedLine found (call_in call) (λ l. planned_by found.table.now.owner served.changes.items served.transfer ≡ l.changes))) (sym c.in-UpdateElement.is) c.alter_given.ensures.changes
