use Rattle.std.proofs.Common.{codes}
use Rattle.std.proofs.lemmas.Result.{err_from_is_err_and}
use Rattle.term_core.specs.inside.Writing.{owes_all, owes_less, owes_break_in, writes_last, breaks_at, owes_same}
use Rattle.tree_findings.specs.Found.{finding_in}
use Rattle.report_text.proofs.ReportTexts.{text_of_finding-schedule}
use Rattle.report_text.proofs.report.write_finding.Goals as goal

pub returns-in_err-write_all : goal.returns-in_err-write_all
returns-in_err-write_all g c =
    let p = err_from_is_err_and c.from_residual.result c.from_residual.ensures.1 in
    breaks_at _ _ _ _ _ _ p.1 (owes_break_in _ _ _ _ _ _ _ (owes_same _ _ _ _ _ (text_of_finding-schedule c.args.kind.now c.args.number (finding_in c.args.finding.now) _ c.as_slice-schedule.ensures.value) (owes_all _ _)) c.in_err-write_all.ensures)

pub returns-in_err-write_all-2 : goal.returns-in_err-write_all-2
returns-in_err-write_all-2 g c =
    let p = err_from_is_err_and c.from_residual-in_err-write_all-2.result c.from_residual-in_err-write_all-2.ensures.1 in
    let o1 = owes_less _ _ _ _ _ _ (owes_same _ _ _ _ _ (text_of_finding-schedule c.args.kind.now c.args.number (finding_in c.args.finding.now) _ c.as_slice-schedule.ensures.value) (owes_all _ _)) c.in_ok-write_all.ensures.appends in
    breaks_at _ _ _ _ _ _ p.1 (owes_break_in _ _ _ _ (codes " ") _ _ o1 c.in_err-write_all-2.ensures)

pub returns-in_err-write_number : goal.returns-in_err-write_number
returns-in_err-write_number g c =
    let p = err_from_is_err_and c.from_residual-in_err-write_number.result c.from_residual-in_err-write_number.ensures.1 in
    let o1 = owes_less _ _ _ _ _ _ (owes_same _ _ _ _ _ (text_of_finding-schedule c.args.kind.now c.args.number (finding_in c.args.finding.now) _ c.as_slice-schedule.ensures.value) (owes_all _ _)) c.in_ok-write_all.ensures.appends in
    let o2 = owes_less _ _ _ (codes " ") _ _ o1 c.in_ok-write_all-2.ensures.appends in
    breaks_at _ _ _ _ _ _ p.1 (owes_break_in _ _ _ _ _ _ _ o2 c.in_err-write_number.ensures)

pub returns-in_err-write_all-3 : goal.returns-in_err-write_all-3
returns-in_err-write_all-3 g c =
    let p = err_from_is_err_and c.from_residual-in_err-write_all-3.result c.from_residual-in_err-write_all-3.ensures.1 in
    let o1 = owes_less _ _ _ _ _ _ (owes_same _ _ _ _ _ (text_of_finding-schedule c.args.kind.now c.args.number (finding_in c.args.finding.now) _ c.as_slice-schedule.ensures.value) (owes_all _ _)) c.in_ok-write_all.ensures.appends in
    let o2 = owes_less _ _ _ (codes " ") _ _ o1 c.in_ok-write_all-2.ensures.appends in
    let o3 = owes_less _ _ _ _ _ _ o2 c.in_ok-write_number.ensures.appends in
    breaks_at _ _ _ _ _ _ p.1 (owes_break_in _ _ _ _ (codes ": ") _ _ o3 c.in_err-write_all-3.ensures)

pub returns-in_err-write_identity : goal.returns-in_err-write_identity
returns-in_err-write_identity g c =
    let p = err_from_is_err_and c.from_residual-in_err-write_identity.result c.from_residual-in_err-write_identity.ensures.1 in
    let o1 = owes_less _ _ _ _ _ _ (owes_same _ _ _ _ _ (text_of_finding-schedule c.args.kind.now c.args.number (finding_in c.args.finding.now) _ c.as_slice-schedule.ensures.value) (owes_all _ _)) c.in_ok-write_all.ensures.appends in
    let o2 = owes_less _ _ _ (codes " ") _ _ o1 c.in_ok-write_all-2.ensures.appends in
    let o3 = owes_less _ _ _ _ _ _ o2 c.in_ok-write_number.ensures.appends in
    let o4 = owes_less _ _ _ (codes ": ") _ _ o3 c.in_ok-write_all-3.ensures.appends in
    breaks_at _ _ _ _ _ _ p.1 (owes_break_in _ _ _ _ _ _ _ o4 c.in_err-write_identity.ensures)

pub returns-in_err-write_all-4 : goal.returns-in_err-write_all-4
returns-in_err-write_all-4 g c =
    let p = err_from_is_err_and c.from_residual-in_err-write_all-4.result c.from_residual-in_err-write_all-4.ensures.1 in
    let o1 = owes_less _ _ _ _ _ _ (owes_same _ _ _ _ _ (text_of_finding-schedule c.args.kind.now c.args.number (finding_in c.args.finding.now) _ c.as_slice-schedule.ensures.value) (owes_all _ _)) c.in_ok-write_all.ensures.appends in
    let o2 = owes_less _ _ _ (codes " ") _ _ o1 c.in_ok-write_all-2.ensures.appends in
    let o3 = owes_less _ _ _ _ _ _ o2 c.in_ok-write_number.ensures.appends in
    let o4 = owes_less _ _ _ (codes ": ") _ _ o3 c.in_ok-write_all-3.ensures.appends in
    let o5 = owes_less _ _ _ _ _ _ o4 c.in_ok-write_identity.ensures.appends in
    breaks_at _ _ _ _ _ _ p.1 (owes_break_in _ _ _ _ (codes "\n  ") _ _ o5 c.in_err-write_all-4.ensures)

pub returns-in_err-write_schedule : goal.returns-in_err-write_schedule
returns-in_err-write_schedule g c =
    let p = err_from_is_err_and c.from_residual-in_err-write_schedule.result c.from_residual-in_err-write_schedule.ensures.1 in
    let o1 = owes_less _ _ _ _ _ _ (owes_same _ _ _ _ _ (text_of_finding-schedule c.args.kind.now c.args.number (finding_in c.args.finding.now) _ c.as_slice-schedule.ensures.value) (owes_all _ _)) c.in_ok-write_all.ensures.appends in
    let o2 = owes_less _ _ _ (codes " ") _ _ o1 c.in_ok-write_all-2.ensures.appends in
    let o3 = owes_less _ _ _ _ _ _ o2 c.in_ok-write_number.ensures.appends in
    let o4 = owes_less _ _ _ (codes ": ") _ _ o3 c.in_ok-write_all-3.ensures.appends in
    let o5 = owes_less _ _ _ _ _ _ o4 c.in_ok-write_identity.ensures.appends in
    let o6 = owes_less _ _ _ (codes "\n  ") _ _ o5 c.in_ok-write_all-4.ensures.appends in
    breaks_at _ _ _ _ _ _ p.1 (owes_break_in _ _ _ _ _ _ _ o6 c.in_err-write_schedule.ensures)

pub returns : goal.returns
returns g c =
    let o1 = owes_less _ _ _ _ _ _ (owes_same _ _ _ _ _ (text_of_finding-schedule c.args.kind.now c.args.number (finding_in c.args.finding.now) _ c.as_slice-schedule.ensures.value) (owes_all _ _)) c.in_ok-write_all.ensures.appends in
    let o2 = owes_less _ _ _ (codes " ") _ _ o1 c.in_ok-write_all-2.ensures.appends in
    let o3 = owes_less _ _ _ _ _ _ o2 c.in_ok-write_number.ensures.appends in
    let o4 = owes_less _ _ _ (codes ": ") _ _ o3 c.in_ok-write_all-3.ensures.appends in
    let o5 = owes_less _ _ _ _ _ _ o4 c.in_ok-write_identity.ensures.appends in
    let o6 = owes_less _ _ _ (codes "\n  ") _ _ o5 c.in_ok-write_all-4.ensures.appends in
    let o7 = owes_less _ _ _ _ _ _ o6 c.in_ok-write_schedule.ensures.appends in
    writes_last _ _ _ _ _ _ _ o7 c.write_all-5.ensures
