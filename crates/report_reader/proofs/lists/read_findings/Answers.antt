use Rattle.std.proofs.lemmas.Result.{err_from_is_err_and}
use Rattle.tree_excuses.specs.Excuses.{excuses_in}
use Rattle.world_identities.specs.Identities.{flags_in}
use Rattle.report_reader.proofs.Listing.{all_read, goes_on, stopped_scheduled, stopped_shown}
use Rattle.report_reader.proofs.lists.read_findings.Goals as goal

pub returns-in_err-identity : goal.returns-in_err-identity
returns-in_err-identity c =
    let p = err_from_is_err_and c.from_residual.result c.from_residual.ensures.1 in
    rw (p.1, p.2) (
    stopped_shown c.args.kind (flags_in c.args.flags) (excuses_in c.args.excuses.now) c.args.text.now _ _ _ c.findings.invariant (rw c.label-label.ensures at c.in-Some.ensures) c.in_err-identity.ensures.room _ c.in_err-identity.ensures.reads c.in_err-identity.ensures.stops)

pub returns-in_err-schedule : goal.returns-in_err-schedule
returns-in_err-schedule c =
    let p = err_from_is_err_and c.from_residual-in_err-schedule.result c.from_residual-in_err-schedule.ensures.1 in
    rw (p.1, p.2) (
    stopped_scheduled c.args.kind (flags_in c.args.flags) (excuses_in c.args.excuses.now) c.args.text.now _ _ _ c.findings.invariant (rw c.label-label.ensures at c.in-Some.ensures) c.in_ok-identity.ensures.room _ _ c.in_ok-identity.ensures.reads _ c.in_err-schedule.ensures.reads c.in_err-schedule.ensures.stops)

pub findings-preserved : goal.findings-preserved
findings-preserved c =
    rw c.in_ok-put.ensures.ok (
    goes_on c.args.kind (flags_in c.args.flags) (excuses_in c.args.excuses.now) c.args.text.now _ _ _ c.findings.invariant (rw c.label-label.ensures at c.in-Some.ensures) c.in_ok-identity.ensures.room _ _ c.in_ok-identity.ensures.reads _ _ c.in_ok-schedule.ensures.reads)

pub returns : goal.returns
returns c = all_read c.args.kind (flags_in c.args.flags) (excuses_in c.args.excuses.now) c.args.text.now _ _ c.findings.invariant (rw c.label-label.ensures at c.in_default.ensures)
