use Rattle.std.proofs.Common.{codes}
use Rattle.std.proofs.lemmas.Result.{err_from_is_err_and}
use Rattle.term_core.specs.inside.Writing.{owes_all, owes_less, owes_break_in, writes_last, breaks_at, owes_same}
use Rattle.report_explained.proofs.WaitingTexts.{waiting-messages}
use Rattle.report_explained.proofs.waiting.write_waiting.Goals as goal

pub returns-in_err-write_all : goal.returns-in_err-write_all
returns-in_err-write_all g c =
    let p = err_from_is_err_and c.from_residual.result c.from_residual.ensures.1 in
    breaks_at _ _ _ _ _ _ p.1 (owes_break_in _ _ _ _ (codes "    ") _ _ (owes_same _ _ _ _ _ (waiting-messages _ c.records.result.now c.args.world.now.history c.args.pid.now c.mailboxes-mailboxes.result.now (c.records.ensures c.requires.lives) c.mailboxes-mailboxes.ensures) (owes_all _ _)) c.in_err-write_all.ensures)

pub returns-in_err-write_pid : goal.returns-in_err-write_pid
returns-in_err-write_pid g c =
    let p = err_from_is_err_and c.from_residual-in_err-write_pid.result c.from_residual-in_err-write_pid.ensures.1 in
    let o1 = owes_less _ _ _ (codes "    ") _ _ (owes_same _ _ _ _ _ (waiting-messages _ c.records.result.now c.args.world.now.history c.args.pid.now c.mailboxes-mailboxes.result.now (c.records.ensures c.requires.lives) c.mailboxes-mailboxes.ensures) (owes_all _ _)) c.in_ok-write_all.ensures.appends in
    breaks_at _ _ _ _ _ _ p.1 (owes_break_in _ _ _ _ _ _ _ o1 c.in_err-write_pid.ensures)

pub returns-in_err-write_all-2 : goal.returns-in_err-write_all-2
returns-in_err-write_all-2 g c =
    let p = err_from_is_err_and c.from_residual-in_err-write_all-2.result c.from_residual-in_err-write_all-2.ensures.1 in
    let o1 = owes_less _ _ _ (codes "    ") _ _ (owes_same _ _ _ _ _ (waiting-messages _ c.records.result.now c.args.world.now.history c.args.pid.now c.mailboxes-mailboxes.result.now (c.records.ensures c.requires.lives) c.mailboxes-mailboxes.ensures) (owes_all _ _)) c.in_ok-write_all.ensures.appends in
    let o2 = owes_less _ _ _ _ _ _ o1 c.in_ok-write_pid.ensures.appends in
    breaks_at _ _ _ _ _ _ p.1 (owes_break_in _ _ _ _ (codes " waits, mailbox [") _ _ o2 c.in_err-write_all-2.ensures)

pub returns-in_err-write_messages_of : goal.returns-in_err-write_messages_of
returns-in_err-write_messages_of g c =
    let p = err_from_is_err_and c.from_residual-in_err-write_messages_of.result c.from_residual-in_err-write_messages_of.ensures.1 in
    let o1 = owes_less _ _ _ (codes "    ") _ _ (owes_same _ _ _ _ _ (waiting-messages _ c.records.result.now c.args.world.now.history c.args.pid.now c.mailboxes-mailboxes.result.now (c.records.ensures c.requires.lives) c.mailboxes-mailboxes.ensures) (owes_all _ _)) c.in_ok-write_all.ensures.appends in
    let o2 = owes_less _ _ _ _ _ _ o1 c.in_ok-write_pid.ensures.appends in
    let o3 = owes_less _ _ _ (codes " waits, mailbox [") _ _ o2 c.in_ok-write_all-2.ensures.appends in
    breaks_at _ _ _ _ _ _ p.1 (owes_break_in _ _ _ _ _ _ _ o3 c.in_err-write_messages_of.ensures)

pub returns : goal.returns
returns g c =
    let o1 = owes_less _ _ _ (codes "    ") _ _ (owes_same _ _ _ _ _ (waiting-messages _ c.records.result.now c.args.world.now.history c.args.pid.now c.mailboxes-mailboxes.result.now (c.records.ensures c.requires.lives) c.mailboxes-mailboxes.ensures) (owes_all _ _)) c.in_ok-write_all.ensures.appends in
    let o2 = owes_less _ _ _ _ _ _ o1 c.in_ok-write_pid.ensures.appends in
    let o3 = owes_less _ _ _ (codes " waits, mailbox [") _ _ o2 c.in_ok-write_all-2.ensures.appends in
    let o4 = owes_less _ _ _ _ _ _ o3 c.in_ok-write_messages_of.ensures.appends in
    writes_last _ _ _ _ _ _ _ o4 c.write_all-3.ensures
