use Rattle.std.proofs.Common.{[], ap, sym, append-nil}
use Rattle.std.proofs.lemmas.Result.{err_from_is_err_and}
use Rattle.term_core.specs.inside.Writing.{owes_all, owes_less, owes_break_in, owes_same, owes_item, owes_items_end, owes_nothing, breaks_at}
use Rattle.report_terms.specs.Strings.{pid_after_comma, string_of_pid, strings_of_pids}
use Rattle.report_terms.proofs.strings.write_pid_strings.Goals as goal

pub returns-in_err-write_pid_string : goal.returns-in_err-write_pid_string
returns-in_err-write_pid_string g c =
    let p = err_from_is_err_and c.from_residual.result c.from_residual.ensures.1 in
    let o = owes_same _ _ _ _ _ (ap strings_of_pids c.in-Some.ensures.cases.0) (owes_all _ _) in
    breaks_at _ _ _ _ _ _ p.1 (owes_break_in _ _ _ _ (string_of_pid c.in-Some.first.now) _ _ o c.in_err-write_pid_string.ensures)

pub loop-pid-init : goal.loop-pid-init
loop-pid-init g c =
    let o = owes_same _ _ _ _ _ (ap strings_of_pids c.in-Some.ensures.cases.0) (owes_all _ _) in
    let w = c.in_ok-write_pid_string.ensures in
    (w.sound, owes_same _ _ _ _ _ (sym (append-nil _)) (owes_less _ _ _ (string_of_pid c.in-Some.first.now) _ _ o w.appends))

pub returns-in_err-write_pid_after_comma : goal.returns-in_err-write_pid_after_comma
returns-in_err-write_pid_after_comma g c =
    let p = err_from_is_err_and c.from_residual-in_err-write_pid_after_comma.result c.from_residual-in_err-write_pid_after_comma.ensures.1 in
    let o = owes_item pid_after_comma _ _ _ _ _ _ [] _ c.loop-pid-test.true c.pid-item.is c.loop-pid.invariant.1 in
    breaks_at _ _ _ _ _ _ p.1 (owes_break_in _ _ _ _ _ _ _ o c.in_err-write_pid_after_comma.ensures)

pub loop-pid-preserved : goal.loop-pid-preserved
loop-pid-preserved g c =
    let w = c.in_ok-write_pid_after_comma.ensures in
    let o = owes_item pid_after_comma _ _ _ _ _ _ [] _ c.loop-pid-test.true c.pid-item.is c.loop-pid.invariant.1 in
    (w.sound, owes_less _ _ _ _ _ _ o w.appends)

pub returns : goal.returns
returns g c =
    owes_nothing _ _ _ _ (owes_items_end pid_after_comma _ _ _ _ [] _ c.loop-pid-test.false c.loop-pid.invariant.1) c.loop-pid.invariant.0
