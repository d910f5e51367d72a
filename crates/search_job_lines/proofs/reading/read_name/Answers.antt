use Rattle.std.proofs.Common.{◌++◌, ap, ◌∙◌, Err}
use Rattle.std.proofs.lemmas.Result.{err_from_is_err_and}
use Rattle.search_job_lines.specs.JobText.{bar}
use Rattle.search_job_lines.specs.inside.Parts.{IsTextFault}
use Rattle.search_job_lines.proofs.Names.{fault_by}
use Rattle.search_job_lines.proofs.reading.read_name.Goals as goal

pub returns-in_err-prefix-clause-fault : goal.returns-in_err-prefix-clause-fault
returns-in_err-prefix-clause-fault c =
    let p = err_from_is_err_and c.from_residual.result c.from_residual.ensures.1 in
    fault_by (IsTextFault c.args.line.now) c.from_residual.result c.in_err-prefix.field-0.0 (p.1 ∙ ap Err p.2) (c.in_err-prefix.ensures.fault c.args.line.now c.in-Some.behind.now c.in-Some.ensures)

pub returns-in_err-slept-clause-fault : goal.returns-in_err-slept-clause-fault
returns-in_err-slept-clause-fault c =
    let p = err_from_is_err_and c.from_residual-in_err-slept.result c.from_residual-in_err-slept.ensures.1 in
    let read = c.in_ok-prefix.ensures.read in
    fault_by (IsTextFault c.args.line.now) c.from_residual-in_err-slept.result c.in_err-slept.field-0.0 (p.1 ∙ ap Err p.2)
    (c.in_err-slept.ensures.fault c.args.line.now c.in_ok-prefix.prefix.items read.0 (c.in-Some.ensures.parts ∙ ap (λ w. w ++ (bar ++ c.in-Some.behind.now)) read.1))
