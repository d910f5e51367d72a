use Rattle.std.proofs.lemmas.Result.{err_from_is_err_and}
use Rattle.tree_excuses.specs.Excuses.{excuses_in}
use Rattle.world_identities.specs.Identities.{flags_in}
use Rattle.report_reader.proofs.ReportReads.{lists_of_all, no_errors, no_normal, no_refusals}
use Rattle.report_reader.proofs.reading.read_lists.Goals as goal

pub returns-in_err-errors : goal.returns-in_err-errors
returns-in_err-errors c =
    let p = err_from_is_err_and c.from_residual.result c.from_residual.ensures.1 in
    rw (p.1, p.2) (no_errors (flags_in c.args.flags) (excuses_in c.args.excuses.now) c.args.text.now _ c.in_err-errors.ensures)

pub returns-in_err-refusals : goal.returns-in_err-refusals
returns-in_err-refusals c =
    let p = err_from_is_err_and c.from_residual-in_err-refusals.result c.from_residual-in_err-refusals.ensures.1 in
    rw (p.1, p.2) (no_refusals (flags_in c.args.flags) (excuses_in c.args.excuses.now) c.args.text.now _ _ _ c.in_ok-errors.ensures c.in_err-refusals.ensures)

pub returns-in_err-normal : goal.returns-in_err-normal
returns-in_err-normal c =
    let p = err_from_is_err_and c.from_residual-in_err-normal.result c.from_residual-in_err-normal.ensures.1 in
    rw (p.1, p.2) (no_normal (flags_in c.args.flags) (excuses_in c.args.excuses.now) c.args.text.now _ _ _ _ _ c.in_ok-errors.ensures c.in_ok-refusals.ensures c.in_err-normal.ensures)

pub returns : goal.returns
returns c = lists_of_all (flags_in c.args.flags) (excuses_in c.args.excuses.now) c.args.text.now _ _ _ _ _ _ c.in_ok-errors.ensures c.in_ok-refusals.ensures c.in_ok-normal.ensures
