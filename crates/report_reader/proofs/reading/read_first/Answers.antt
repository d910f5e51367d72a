use Rattle.std.proofs.Common.{arith, length, refl}
use Rattle.std.proofs.lemmas.Result.{err_from_is_err_and}
use Rattle.tree_excuses.specs.Excuses.{excuses_in}
use Rattle.world_identities.specs.Identities.{flags_in}
use Rattle.report_reader.specs.declared.fault.Stop.TheVariants.{Bad}
use Rattle.report_reader.proofs.FirstLines.{reach_bad, reach_on}
use Rattle.report_reader.proofs.ReportReads.{no_end, no_far, no_lists_there, report_read}
use Rattle.report_reader.proofs.reading.read_first.Goals as goal

pub returns-in_default : goal.returns-in_default
returns-in_default c =
    no_far (flags_in c.args.flags) (excuses_in c.args.excuses.now) c.args.depth c.args.text.now (Bad (length c.args.text.now)) (reach_bad c.args.depth (omega arith) c.args.text.now _ refl c.in_default.ensures)

pub returns-in_err-listed : goal.returns-in_err-listed
returns-in_err-listed c =
    let p = err_from_is_err_and c.from_residual.result c.from_residual.ensures.1 in
    rw (p.1, p.2) (
    no_lists_there (flags_in c.args.flags) (excuses_in c.args.excuses.now) c.args.depth c.args.text.now _ _ _ (reach_on c.args.depth (omega arith) c.args.text.now _ _ c.in-Some.ensures) c.in_err-listed.ensures)

pub returns-in_err-rest : goal.returns-in_err-rest
returns-in_err-rest c =
    let p = err_from_is_err_and c.from_residual-in_err-rest.result c.from_residual-in_err-rest.ensures.1 in
    rw (p.1, p.2) (
    no_end (flags_in c.args.flags) (excuses_in c.args.excuses.now) c.args.depth c.args.text.now _ _ _ _ _ (reach_on c.args.depth (omega arith) c.args.text.now _ _ c.in-Some.ensures) c.in_ok-listed.ensures c.in_err-rest.ensures)

pub returns : goal.returns
returns c =
    report_read (flags_in c.args.flags) (excuses_in c.args.excuses.now) c.args.depth c.args.text.now _ _ _ _ _ _ (reach_on c.args.depth (omega arith) c.args.text.now _ _ c.in-Some.ensures) c.in_ok-listed.ensures c.in_ok-rest.ensures c.in_ok-outcome.ensures
