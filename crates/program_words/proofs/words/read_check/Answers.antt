use Rattle.std.proofs.Common.{◌≡◌, ◌∙◌, Some, ap, subst}
use Rattle.std.specs.Prelude.{Err}
use Rattle.std.proofs.lemmas.Result.{err_from_is_err_and}
use Rattle.clap.specs.Values.{kind_of}
use Rattle.clap.specs.Words.{subcommand_rows_of}
use Rattle.clap.specs.declared.error.Error.{Error}
use Rattle.clap.specs.declared.error.kind.ErrorKind.TheVariants.{OutOfMemory}
use Rattle.program_words.specs.inside.Found.{AsksForOne, IsCheckOf}
use Rattle.program_words.proofs.Texts.{if_err}
use Rattle.program_words.proofs.words.read_check.Goals as goal

pub returns-in_default-clause-ok : goal.returns-in_default-clause-ok
returns-in_default-clause-ok c = subst (IsCheckOf (subcommand_rows_of c.args.matches.now)) c.in_default.is c.found_check.ensures

pub returns-in_err-excuses-clause-refused : goal.returns-in_err-excuses-clause-refused
returns-in_err-excuses-clause-refused c =
    let rows = subcommand_rows_of c.args.matches.now in
    let found : IsCheckOf rows (Some (c.in-Some.depth, c.in-Some.flags)) = subst (IsCheckOf rows) c.in-Some.is c.found_check.ensures in
    let p = err_from_is_err_and c.from_residual.result c.from_residual.ensures.1 in
    if_err (λ (e : Error). AsksForOne rows → kind_of e ≡ OutOfMemory) _ c.in_err-excuses.field-0.0 (p.1 ∙ ap Err p.2)
    (λ asks. let can = asks.check (c.in-Some.depth, c.in-Some.flags) found in c.in_err-excuses.ensures.refused can.excuses can.asks)

pub returns-clause-ok : goal.returns-clause-ok
returns-clause-ok c =
    let rows = subcommand_rows_of c.args.matches.now in
    let found : IsCheckOf rows (Some (c.in-Some.depth, c.in-Some.flags)) = subst (IsCheckOf rows) c.in-Some.is c.found_check.ensures in
    (found, c.in_ok-excuses.ensures.ok)
