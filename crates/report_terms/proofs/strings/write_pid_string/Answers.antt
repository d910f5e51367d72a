use Rattle.std.proofs.Common.{[], ◌∷◌}
use Rattle.std.proofs.lemmas.Result.{err_from_is_err_and}
use Rattle.term_core.specs.inside.Writing.{owes_all, owes_break_in, owes_less, breaks_at, writes_last}
use Rattle.report_terms.proofs.strings.write_pid_string.Goals as goal

pub returns-in_err-write_all : goal.returns-in_err-write_all
returns-in_err-write_all g c =
    let p = err_from_is_err_and c.from_residual.result c.from_residual.ensures.1 in
    breaks_at _ _ _ _ _ _ p.1 (owes_break_in _ _ _ _ (34 ∷ []) _ _ (owes_all _ _) c.in_err-write_all.ensures)

pub returns-in_err-write_pid : goal.returns-in_err-write_pid
returns-in_err-write_pid g c =
    let p = err_from_is_err_and c.from_residual-in_err-write_pid.result c.from_residual-in_err-write_pid.ensures.1 in
    let o1 = owes_less _ _ _ (34 ∷ []) _ _ (owes_all _ _) c.in_ok-write_all.ensures.appends in
    breaks_at _ _ _ _ _ _ p.1 (owes_break_in _ _ _ _ _ _ _ o1 c.in_err-write_pid.ensures)

pub returns : goal.returns
returns g c =
    let o1 = owes_less _ _ _ (34 ∷ []) _ _ (owes_all _ _) c.in_ok-write_all.ensures.appends in
    let o2 = owes_less _ _ _ _ _ _ o1 c.in_ok-write_pid.ensures.appends in
    writes_last _ _ _ _ _ _ _ o2 c.write_all-2.ensures
