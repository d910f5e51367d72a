use Rattle.std.proofs.Common.{ap, sym, ◌∙◌, Err}
use Rattle.std.proofs.lemmas.Result.{err_from_is_err_and}
use Rattle.search_jobs.specs.Explorations.{JobSeen, exploration_in}
use Rattle.search_job_lines.proofs.Names.{is_read, name_fault, refused_by, text_fault}
use Rattle.search_job_lines.proofs.reading.read_job.Goals as goal

pub returns-in_err-name-clause-accepted : goal.returns-in_err-name-clause-accepted
returns-in_err-name-clause-accepted c = λ name is.
    let e = exploration_in c.args.exploration in
    let p = err_from_is_err_and c.from_residual.result c.from_residual.ensures.1 in
    refused_by e c.args.line.now name is c.from_residual.result c.in_err-name.field-0.0 (p.1 ∙ ap Err p.2) (text_fault e c.args.line.now c.in_err-name.field-0.0 c.in_err-name.ensures.fault)

pub returns-in_err-check_name-clause-accepted : goal.returns-in_err-check_name-clause-accepted
returns-in_err-check_name-clause-accepted c = λ name is.
    let e = exploration_in c.args.exploration in
    let p = err_from_is_err_and c.from_residual-in_err-check_name.result c.from_residual-in_err-check_name.ensures.1 in
    refused_by e c.args.line.now name is c.from_residual-in_err-check_name.result c.in_err-check_name.field-0.0 (p.1 ∙ ap Err p.2)
    (name_fault e c.args.line.now c.in_ok-name.name c.in_err-check_name.field-0.0 c.in_ok-name.ensures.read c.in_err-check_name.ensures.fault)

pub returns-clause-read : goal.returns-clause-read
returns-clause-read c =
    is_read (exploration_in c.args.exploration) c.args.line.now c.in_ok-name.name c.of_node.result (sym (ap (λ (j : JobSeen). j.name) c.of_node.ensures)) c.in_ok-name.ensures.read c.in_ok-check_name.ensures.taken
