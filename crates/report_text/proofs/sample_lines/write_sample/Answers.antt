use Rattle.std.proofs.lemmas.Result.{err_from_is_err_and}
use Rattle.term_core.specs.inside.Writing.{owes_all, owes_less, owes_break_in, writes_last, breaks_at}
use Rattle.tree_excuses.specs.Excuses.{excuses_in}
use Rattle.report_text.specs.ReportText.{text_of_all, text_of_counts}
use Rattle.report_text.specs.SampleText.{sample_first_line}
use Rattle.report_text.proofs.sample_lines.write_sample.Goals as goal

pub returns-in_err-write_sample_first_line : goal.returns-in_err-write_sample_first_line
returns-in_err-write_sample_first_line g c =
    let p = err_from_is_err_and c.from_residual.result c.from_residual.ensures.1 in
    breaks_at _ _ _ _ _ _ p.1 (owes_break_in _ _ _ _ (sample_first_line c.args.sampled) _ _ (owes_all _ _) c.in_err-write_sample_first_line.ensures)

pub returns-in_err-write_all_findings : goal.returns-in_err-write_all_findings
returns-in_err-write_all_findings g c =
    let p = err_from_is_err_and c.from_residual-in_err-write_all_findings.result c.from_residual-in_err-write_all_findings.ensures.1 in
    let o1 = owes_less _ _ _ (sample_first_line c.args.sampled) _ _ (owes_all _ _) c.in_ok-write_sample_first_line.ensures.appends in
    breaks_at _ _ _ _ _ _ p.1 (owes_break_in _ _ _ _ (text_of_all (excuses_in c.args.excuses.now) c.args.findings.now) _ _ o1 c.in_err-write_all_findings.ensures)

pub returns-in_err-write_counts : goal.returns-in_err-write_counts
returns-in_err-write_counts g c =
    let p = err_from_is_err_and c.from_residual-in_err-write_counts.result c.from_residual-in_err-write_counts.ensures.1 in
    let o1 = owes_less _ _ _ (sample_first_line c.args.sampled) _ _ (owes_all _ _) c.in_ok-write_sample_first_line.ensures.appends in
    let o2 = owes_less _ _ _ (text_of_all (excuses_in c.args.excuses.now) c.args.findings.now) _ _ o1 c.in_ok-write_all_findings.ensures.appends in
    breaks_at _ _ _ _ _ _ p.1 (owes_break_in _ _ _ _ (text_of_counts (excuses_in c.args.excuses.now) c.args.findings.now) _ _ o2 c.in_err-write_counts.ensures)

pub returns : goal.returns
returns g c =
    let o1 = owes_less _ _ _ (sample_first_line c.args.sampled) _ _ (owes_all _ _) c.in_ok-write_sample_first_line.ensures.appends in
    let o2 = owes_less _ _ _ (text_of_all (excuses_in c.args.excuses.now) c.args.findings.now) _ _ o1 c.in_ok-write_all_findings.ensures.appends in
    let o3 = owes_less _ _ _ (text_of_counts (excuses_in c.args.excuses.now) c.args.findings.now) _ _ o2 c.in_ok-write_counts.ensures.appends in
    writes_last _ _ _ _ _ _ _ o3 c.write_sample_last_line.ensures
