use Rattle.std.proofs.Common.{◌∙◌, sym, ap, subst, refl}
use Rattle.std.specs.Prelude.{not, true}
use Rattle.core_eval.specs.Requests.{told_by}
use Rattle.proc_machines.specs.Processes as processes
use Rattle.proc_machines.specs.Processes.{lives_in, request_with, selects_in}
use Rattle.term_core.specs.Term.{meaning_of}
use Rattle.world_model.specs.Requests as requests
use Rattle.world_records.specs.Records.{processes_of}
use Rattle.world_plans.proofs.Doing.{same_in, turn_has, call_has, timeout_has, wait_has}
use Rattle.world_model.specs.Calls.{call_of}
use Rattle.world_model.specs.Mailboxes.{mailbox_in, selected_of}
use Rattle.world_model.specs.Steps.{must_wait}
use Rattle.world_plans.proofs.enabled.has_turn.Goals as goal

pub returns-in-Call : goal.returns-in-Call
returns-in-Call c = λ m v told.
    let p = c.args.pid.now in
    let held = subst (λ ps. processes.Agrees m ps v) (sym c.processes.ensures) told.processes_are in
    let there = c.in-Some.ensures.there m v held in
    let lives = sym (told.processes_are.alive p) ∙ sym (ap (λ ps. lives_in ps p) c.processes.ensures) ∙ sym there in
    let request = sym (same_in _ _ (c.in-Some.ensures.asked m v held (sym there))) in
    let told_of = request_with (selects_in c.processes.result.now p) in
    turn_has m v p (requests.Calls c.in-Call.kind c.in-Call.arguments.value) (not c.must_wait.result) lives (request ∙ ap told_of (ap told_by c.in-Call.is))
    (ap not (c.must_wait.ensures m v told ∙ ap (λ xs. must_wait v p (call_of c.in-Call.kind xs)) c.deref.ensures) ∙ call_has v p c.in-Call.kind c.in-Call.arguments.value)

pub returns-then-not-waits : goal.returns-then-not-waits
returns-then-not-waits c = λ m v told.
    let p = c.args.pid.now in
    let held = subst (λ ps. processes.Agrees m ps v) (sym c.processes.ensures) told.processes_are in
    let there = c.in-Some.ensures.there m v held in
    let lives = sym (told.processes_are.alive p) ∙ sym (ap (λ ps. lives_in ps p) c.processes.ensures) ∙ sym there in
    let request = sym (same_in _ _ (c.in-Some.ensures.asked m v held (sym there))) in
    let told_of = request_with (selects_in c.processes.result.now p) in
    let selects = selects_in c.processes.result.now p in
    turn_has m v p (requests.Receives c.in-Receive.waits selects) (not c.in-Receive.waits) lives (request ∙ ap told_of (ap told_by c.in-Receive.is)) (timeout_has c.in-Receive.waits (selected_of selects (mailbox_in v p)) c.if-not-waits.true)

pub returns-in_ok-has_message-in-Receive : goal.returns-in_ok-has_message-in-Receive
returns-in_ok-has_message-in-Receive c = λ m v told.
    let p = c.args.pid.now in
    let held = subst (λ ps. processes.Agrees m ps v) (sym c.processes.ensures) told.processes_are in
    let there = c.in-Some.ensures.there m v held in
    let lives = sym (told.processes_are.alive p) ∙ sym (ap (λ ps. lives_in ps p) c.processes.ensures) ∙ sym there in
    let request = sym (same_in _ _ (c.in-Some.ensures.asked m v held (sym there))) in
    let told_of = request_with (selects_in c.processes.result.now p) in
    let selects = selects_in (processes_of c.args.records.now) p in
    turn_has m v p (requests.Receives c.in-Receive.waits selects) c.in_ok-has_message-in-Receive.field-0 lives (request ∙ ap told_of (ap told_by c.in-Receive.is) ∙ ap (λ ps. requests.Receives c.in-Receive.waits (selects_in ps p)) c.processes.ensures)
    (wait_has c.in-Receive.waits c.in_ok-has_message-in-Receive.field-0 (selected_of selects (mailbox_in v p)) c.if-not-waits.false (c.in_ok-has_message-in-Receive.ensures m v told (told.processes_are.alive p ∙ lives)))

pub returns-in-End : goal.returns-in-End
returns-in-End c = λ m v told.
    let p = c.args.pid.now in
    let held = subst (λ ps. processes.Agrees m ps v) (sym c.processes.ensures) told.processes_are in
    let there = c.in-Some.ensures.there m v held in
    let lives = sym (told.processes_are.alive p) ∙ sym (ap (λ ps. lives_in ps p) c.processes.ensures) ∙ sym there in
    let request = sym (same_in _ _ (c.in-Some.ensures.asked m v held (sym there))) in
    let told_of = request_with (selects_in c.processes.result.now p) in
    turn_has m v p (requests.Ends (meaning_of c.in-End.field-0)) true lives (request ∙ ap told_of (ap told_by c.in-End.is)) refl

pub returns-in-Runaway : goal.returns-in-Runaway
returns-in-Runaway c = λ m v told.
    let p = c.args.pid.now in
    let held = subst (λ ps. processes.Agrees m ps v) (sym c.processes.ensures) told.processes_are in
    let there = c.in-Some.ensures.there m v held in
    let lives = sym (told.processes_are.alive p) ∙ sym (ap (λ ps. lives_in ps p) c.processes.ensures) ∙ sym there in
    let request = sym (same_in _ _ (c.in-Some.ensures.asked m v held (sym there))) in
    let told_of = request_with (selects_in c.processes.result.now p) in
    turn_has m v p requests.RunsAway true lives (request ∙ ap told_of (ap told_by c.in-Runaway.is)) refl
