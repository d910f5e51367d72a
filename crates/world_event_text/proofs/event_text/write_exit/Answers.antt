use Rattle.std.proofs.Common.{codes}
use Rattle.std.proofs.lemmas.Result.{err_from_is_err_and}
use Rattle.term_core.specs.inside.Writing.{owes_all, owes_less, owes_break_in, writes_last, breaks_at}
use Rattle.world_event_text.proofs.event_text.write_exit.Goals as goal

pub returns-in_err-write_all : goal.returns-in_err-write_all
returns-in_err-write_all g c =
    let p = err_from_is_err_and c.from_residual.result c.from_residual.ensures.1 in
    breaks_at _ _ _ _ _ _ p.1 (owes_break_in _ _ _ _ (codes "exit ") _ _ (owes_all _ _) c.in_err-write_all.ensures)

pub returns-in_err-write_term : goal.returns-in_err-write_term
returns-in_err-write_term g c =
    let p = err_from_is_err_and c.from_residual-in_err-write_term.result c.from_residual-in_err-write_term.ensures.1 in
    let o1 = owes_less _ _ _ (codes "exit ") _ _ (owes_all _ _) c.in_ok-write_all.ensures.appends in
    breaks_at _ _ _ _ _ _ p.1 (owes_break_in _ _ _ _ _ _ _ o1 c.in_err-write_term.ensures)

pub returns : goal.returns
returns g c =
    let o1 = owes_less _ _ _ (codes "exit ") _ _ (owes_all _ _) c.in_ok-write_all.ensures.appends in
    let o2 = owes_less _ _ _ _ _ _ o1 c.in_ok-write_term.ensures.appends in
    writes_last _ _ _ _ _ _ _ o2 c.write_after_arrow.ensures
