use Rattle.std.proofs.Common.{[], sym, append-nil, codes}
use Rattle.std.proofs.lemmas.Result.{err_from_is_err_and}
use Rattle.term_core.specs.inside.Writing.{owes_all, owes_less, owes_break_in, owes_same, owes_item, owes_items_end, owes_nothing, breaks_at}
use Rattle.report_text.specs.IdentityText.{pid_behind_blank}
use Rattle.report_text.proofs.identity_text.write_unread.Goals as goal

pub returns-in_err-write_all : goal.returns-in_err-write_all
returns-in_err-write_all g c =
    let p = err_from_is_err_and c.from_residual.result c.from_residual.ensures.1 in
    breaks_at _ _ _ _ _ _ p.1 (owes_break_in _ _ _ _ (codes "unread messages of") _ _ (owes_all _ _) c.in_err-write_all.ensures)

pub loop-pid-init : goal.loop-pid-init
loop-pid-init g c =
    let w = c.in_ok-write_all.ensures in
    (w.sound, owes_same _ _ _ _ _ (sym (append-nil _)) (owes_less _ _ _ (codes "unread messages of") _ _ (owes_all _ _) w.appends))

pub returns-in_err-write_behind_blank : goal.returns-in_err-write_behind_blank
returns-in_err-write_behind_blank g c =
    let p = err_from_is_err_and c.from_residual-in_err-write_behind_blank.result c.from_residual-in_err-write_behind_blank.ensures.1 in
    let o = owes_item pid_behind_blank _ _ _ _ _ _ [] _ c.loop-pid-test.true c.pid-item.is c.loop-pid.invariant.1 in
    breaks_at _ _ _ _ _ _ p.1 (owes_break_in _ _ _ _ _ _ _ o c.in_err-write_behind_blank.ensures)

pub loop-pid-preserved : goal.loop-pid-preserved
loop-pid-preserved g c =
    let w = c.in_ok-write_behind_blank.ensures in
    let o = owes_item pid_behind_blank _ _ _ _ _ _ [] _ c.loop-pid-test.true c.pid-item.is c.loop-pid.invariant.1 in
    (w.sound, owes_less _ _ _ _ _ _ o w.appends)

pub returns : goal.returns
returns g c =
    owes_nothing _ _ _ _ (owes_items_end pid_behind_blank _ _ _ _ [] _ c.loop-pid-test.false c.loop-pid.invariant.1) c.loop-pid.invariant.0
