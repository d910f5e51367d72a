use Rattle.std.proofs.lemmas.Result.{err_from_is_err_and}
use Rattle.report_identities.proofs.IdentityTexts.{refused_end}
use Rattle.report_identities.proofs.reader.read_end.Goals as goal

pub returns-in_err-reason : goal.returns-in_err-reason
returns-in_err-reason c =
    let p = err_from_is_err_and c.from_residual.result c.from_residual.ensures.1 in
    rw (p.1, p.2) (refused_end c.args.pid c.args.text.now _ c.requires c.in_err-reason.ensures)
