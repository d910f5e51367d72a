use Rattle.std.proofs.Common.{◌≡◌, ◌∙◌, Some, ap, arith, subst}
use Rattle.std.specs.Prelude.{Err}
use Rattle.std.proofs.lemmas.Result.{err_from_is_err_and}
use Rattle.clap.specs.Values.{kind_of}
use Rattle.clap.specs.Words.{subcommand_rows_of}
use Rattle.clap.specs.declared.error.Error.{Error}
use Rattle.clap.specs.declared.error.kind.ErrorKind.TheVariants.{OutOfMemory}
use Rattle.program_words.specs.inside.Found.{AsksForSplit, IsSplitOf}
use Rattle.program_words.proofs.Texts.{if_err}
use Rattle.program_words.proofs.words.read_split.Goals as goal

pub returns-in_default-clause-ok : goal.returns-in_default-clause-ok
returns-in_default-clause-ok c = subst (IsSplitOf c.args.command.now (subcommand_rows_of c.args.matches.now)) c.in_default.is c.found_split.ensures

pub returns-in_err-excuses-clause-refused : goal.returns-in_err-excuses-clause-refused
returns-in_err-excuses-clause-refused c =
    let command = c.args.command.now in
    let rows = subcommand_rows_of c.args.matches.now in
    let found : IsSplitOf command rows (Some c.in-Some.split) = subst (IsSplitOf command rows) c.in-Some.is c.found_split.ensures in
    let p = err_from_is_err_and c.from_residual.result c.from_residual.ensures.1 in
    if_err (λ (e : Error). AsksForSplit command rows → kind_of e ≡ OutOfMemory) _ c.in_err-excuses.field-0.0 (p.1 ∙ ap Err p.2)
    (λ asks. let can = asks.excused c.in-Some.split found in c.in_err-excuses.ensures.refused can.excuses can.asks)

pub returns-then-split-clause-refused : goal.returns-then-split-clause-refused
returns-then-split-clause-refused c asks =
    let command = c.args.command.now in
    let rows = subcommand_rows_of c.args.matches.now in
    let found : IsSplitOf command rows (Some c.in-Some.split) = subst (IsSplitOf command rows) c.in-Some.is c.found_split.ensures in
    let within = asks.within c.in-Some.split found in
    absurd (omega (arith, within, c.if-split.true))

pub returns-clause-ok : goal.returns-clause-ok
returns-clause-ok c =
    let command = c.args.command.now in
    let rows = subcommand_rows_of c.args.matches.now in
    let found : IsSplitOf command rows (Some c.in-Some.split) = subst (IsSplitOf command rows) c.in-Some.is c.found_split.ensures in
    record {
      found = found;
      excused = c.in_ok-excuses.ensures.ok;
      within = omega (arith, c.if-split.false);
    }
