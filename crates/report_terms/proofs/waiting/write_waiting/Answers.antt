use Rattle.std.proofs.Common.{◌++◌, ap, ◌∙◌, codes}
use Rattle.std.specs.Prelude.{Err}
use Rattle.std.proofs.lemmas.Result.{err_from_is_err_and}
use Rattle.term_core.specs.inside.Writing.{owes_all, owes_last, owes_less, owes_same}
use Rattle.proc_mailboxes.specs.Mailboxes.{messages_in}
use Rattle.report_explained.specs.declared.explain_fault.ExplainFault.TheVariants.{Write}
use Rattle.report_explained.proofs.Parts.{last_fails, part_fails}
use Rattle.report_terms.specs.Strings.{string_of_pid, strings_of_terms}
use Rattle.report_terms.proofs.WaitingTexts.{waiting-messages}
use Rattle.report_terms.proofs.waiting.write_waiting.Goals as goal

pub returns-in_err-write_all : goal.returns-in_err-write_all
returns-in_err-write_all g c =
    let p = err_from_is_err_and c.from_residual.result c.from_residual.ensures.1 in
    let o0 = owes_same _ _ _ _ _ (waiting-messages _ c.records.result.now c.args.world.now.history c.args.pid.now c.mailboxes-mailboxes.result.now (c.records.ensures c.requires.lives) c.mailboxes-mailboxes.ensures) (owes_all _ _) in
    part_fails _ _ (g.W.Sink.contents c.write_all.new.sink) (g.W.Sink.has_failed c.write_all.new.sink) c.from_residual.result Write (codes "{waits,") (string_of_pid c.args.pid.now ++ (codes ",[" ++ (strings_of_terms (messages_in c.mailboxes-mailboxes.result.now c.args.pid.now) ++ codes "]}.\n"))) _ (p.1 ∙ ap Err p.2) o0 c.in_err-write_all.ensures

pub returns-in_err-write_pid_string : goal.returns-in_err-write_pid_string
returns-in_err-write_pid_string g c =
    let p = err_from_is_err_and c.from_residual-in_err-write_pid_string.result c.from_residual-in_err-write_pid_string.ensures.1 in
    let o0 = owes_same _ _ _ _ _ (waiting-messages _ c.records.result.now c.args.world.now.history c.args.pid.now c.mailboxes-mailboxes.result.now (c.records.ensures c.requires.lives) c.mailboxes-mailboxes.ensures) (owes_all _ _) in
    let o1 = owes_less _ _ _ (codes "{waits,") (string_of_pid c.args.pid.now ++ (codes ",[" ++ (strings_of_terms (messages_in c.mailboxes-mailboxes.result.now c.args.pid.now) ++ codes "]}.\n"))) _ o0 c.in_ok-write_all.ensures.appends in
    part_fails _ _ (g.W.Sink.contents c.write_pid_string.new.sink) (g.W.Sink.has_failed c.write_pid_string.new.sink) c.from_residual-in_err-write_pid_string.result Write (string_of_pid c.args.pid.now) (codes ",[" ++ (strings_of_terms (messages_in c.mailboxes-mailboxes.result.now c.args.pid.now) ++ codes "]}.\n")) _ (p.1 ∙ ap Err p.2) o1 c.in_err-write_pid_string.ensures

pub returns-in_err-write_all-2 : goal.returns-in_err-write_all-2
returns-in_err-write_all-2 g c =
    let p = err_from_is_err_and c.from_residual-in_err-write_all-2.result c.from_residual-in_err-write_all-2.ensures.1 in
    let o0 = owes_same _ _ _ _ _ (waiting-messages _ c.records.result.now c.args.world.now.history c.args.pid.now c.mailboxes-mailboxes.result.now (c.records.ensures c.requires.lives) c.mailboxes-mailboxes.ensures) (owes_all _ _) in
    let o1 = owes_less _ _ _ (codes "{waits,") (string_of_pid c.args.pid.now ++ (codes ",[" ++ (strings_of_terms (messages_in c.mailboxes-mailboxes.result.now c.args.pid.now) ++ codes "]}.\n"))) _ o0 c.in_ok-write_all.ensures.appends in
    let o2 = owes_less _ _ _ (string_of_pid c.args.pid.now) (codes ",[" ++ (strings_of_terms (messages_in c.mailboxes-mailboxes.result.now c.args.pid.now) ++ codes "]}.\n")) _ o1 c.in_ok-write_pid_string.ensures.appends in
    part_fails _ _ (g.W.Sink.contents c.write_all-2.new.sink) (g.W.Sink.has_failed c.write_all-2.new.sink) c.from_residual-in_err-write_all-2.result Write (codes ",[") (strings_of_terms (messages_in c.mailboxes-mailboxes.result.now c.args.pid.now) ++ codes "]}.\n") _ (p.1 ∙ ap Err p.2) o2 c.in_err-write_all-2.ensures

pub returns-in_err-write_messages_of : goal.returns-in_err-write_messages_of
returns-in_err-write_messages_of g c =
    let p = err_from_is_err_and c.from_residual-in_err-write_messages_of.result c.from_residual-in_err-write_messages_of.ensures.1 in
    let o0 = owes_same _ _ _ _ _ (waiting-messages _ c.records.result.now c.args.world.now.history c.args.pid.now c.mailboxes-mailboxes.result.now (c.records.ensures c.requires.lives) c.mailboxes-mailboxes.ensures) (owes_all _ _) in
    let o1 = owes_less _ _ _ (codes "{waits,") (string_of_pid c.args.pid.now ++ (codes ",[" ++ (strings_of_terms (messages_in c.mailboxes-mailboxes.result.now c.args.pid.now) ++ codes "]}.\n"))) _ o0 c.in_ok-write_all.ensures.appends in
    let o2 = owes_less _ _ _ (string_of_pid c.args.pid.now) (codes ",[" ++ (strings_of_terms (messages_in c.mailboxes-mailboxes.result.now c.args.pid.now) ++ codes "]}.\n")) _ o1 c.in_ok-write_pid_string.ensures.appends in
    let o3 = owes_less _ _ _ (codes ",[") (strings_of_terms (messages_in c.mailboxes-mailboxes.result.now c.args.pid.now) ++ codes "]}.\n") _ o2 c.in_ok-write_all-2.ensures.appends in
    part_fails _ _ (g.W.Sink.contents c.write_messages_of.new.sink) (g.W.Sink.has_failed c.write_messages_of.new.sink) c.from_residual-in_err-write_messages_of.result c.in_err-write_messages_of.field-0.0 (strings_of_terms (messages_in c.mailboxes-mailboxes.result.now c.args.pid.now)) (codes "]}.\n") _ (p.1 ∙ ap Err p.2) o3 c.in_err-write_messages_of.ensures

pub returns-in_err-write_all-3 : goal.returns-in_err-write_all-3
returns-in_err-write_all-3 g c =
    let p = err_from_is_err_and c.from_residual-in_err-write_all-3.result c.from_residual-in_err-write_all-3.ensures.1 in
    let o0 = owes_same _ _ _ _ _ (waiting-messages _ c.records.result.now c.args.world.now.history c.args.pid.now c.mailboxes-mailboxes.result.now (c.records.ensures c.requires.lives) c.mailboxes-mailboxes.ensures) (owes_all _ _) in
    let o1 = owes_less _ _ _ (codes "{waits,") (string_of_pid c.args.pid.now ++ (codes ",[" ++ (strings_of_terms (messages_in c.mailboxes-mailboxes.result.now c.args.pid.now) ++ codes "]}.\n"))) _ o0 c.in_ok-write_all.ensures.appends in
    let o2 = owes_less _ _ _ (string_of_pid c.args.pid.now) (codes ",[" ++ (strings_of_terms (messages_in c.mailboxes-mailboxes.result.now c.args.pid.now) ++ codes "]}.\n")) _ o1 c.in_ok-write_pid_string.ensures.appends in
    let o3 = owes_less _ _ _ (codes ",[") (strings_of_terms (messages_in c.mailboxes-mailboxes.result.now c.args.pid.now) ++ codes "]}.\n") _ o2 c.in_ok-write_all-2.ensures.appends in
    let o4 = owes_less _ _ _ (strings_of_terms (messages_in c.mailboxes-mailboxes.result.now c.args.pid.now)) (codes "]}.\n") _ o3 c.in_ok-write_messages_of.ensures.appends in
    last_fails _ _ (g.W.Sink.contents c.write_all-3.new.sink) (g.W.Sink.has_failed c.write_all-3.new.sink) c.from_residual-in_err-write_all-3.result Write (codes "]}.\n") _ (p.1 ∙ ap Err p.2) o4 c.in_err-write_all-3.ensures

pub returns : goal.returns
returns g c =
    let o0 = owes_same _ _ _ _ _ (waiting-messages _ c.records.result.now c.args.world.now.history c.args.pid.now c.mailboxes-mailboxes.result.now (c.records.ensures c.requires.lives) c.mailboxes-mailboxes.ensures) (owes_all _ _) in
    let o1 = owes_less _ _ _ (codes "{waits,") (string_of_pid c.args.pid.now ++ (codes ",[" ++ (strings_of_terms (messages_in c.mailboxes-mailboxes.result.now c.args.pid.now) ++ codes "]}.\n"))) _ o0 c.in_ok-write_all.ensures.appends in
    let o2 = owes_less _ _ _ (string_of_pid c.args.pid.now) (codes ",[" ++ (strings_of_terms (messages_in c.mailboxes-mailboxes.result.now c.args.pid.now) ++ codes "]}.\n")) _ o1 c.in_ok-write_pid_string.ensures.appends in
    let o3 = owes_less _ _ _ (codes ",[") (strings_of_terms (messages_in c.mailboxes-mailboxes.result.now c.args.pid.now) ++ codes "]}.\n") _ o2 c.in_ok-write_all-2.ensures.appends in
    let o4 = owes_less _ _ _ (strings_of_terms (messages_in c.mailboxes-mailboxes.result.now c.args.pid.now)) (codes "]}.\n") _ o3 c.in_ok-write_messages_of.ensures.appends in
    owes_last _ _ _ _ (codes "]}.\n") _ o4 c.in_ok-write_all-3.ensures
