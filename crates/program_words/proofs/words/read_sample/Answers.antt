use Rattle.std.proofs.Common.{◌≡◌, ◌∙◌, Some, ap, subst, sym, true≢false}
use Rattle.std.specs.Prelude.{Err}
use Rattle.std.proofs.lemmas.Result.{err_from_is_err_and}
use Rattle.clap.specs.Values.{kind_of}
use Rattle.clap.specs.Words.{subcommand_rows_of}
use Rattle.clap.specs.declared.error.Error.{Error}
use Rattle.clap.specs.declared.error.kind.ErrorKind.TheVariants.{OutOfMemory}
use Rattle.program_words.specs.inside.Found.{AreSamplesOf, AsksForOne}
use Rattle.program_words.proofs.Reading.{format_said}
use Rattle.program_words.proofs.Texts.{if_err}
use Rattle.program_words.proofs.words.read_sample.Goals as goal

pub returns-in_default-clause-ok : goal.returns-in_default-clause-ok
returns-in_default-clause-ok c = subst (AreSamplesOf (subcommand_rows_of c.args.matches.now)) c.in_default.is c.found_samples.ensures

pub returns-in_err-excuses-clause-refused : goal.returns-in_err-excuses-clause-refused
returns-in_err-excuses-clause-refused c =
    let rows = subcommand_rows_of c.args.matches.now in
    let found : AreSamplesOf rows (Some (c.in-Some.samples, c.in-Some.printed)) = subst (AreSamplesOf rows) c.in-Some.is c.found_samples.ensures in
    let p = err_from_is_err_and c.from_residual.result c.from_residual.ensures.1 in
    if_err (λ (e : Error). AsksForOne rows → kind_of e ≡ OutOfMemory) _ c.in_err-excuses.field-0.0 (p.1 ∙ ap Err p.2)
    (λ asks. let can = asks.sample (c.in-Some.samples, c.in-Some.printed) found in c.in_err-excuses.ensures.refused can.excuses can.asks)

pub returns-then-is_unknown-clause-refused : goal.returns-then-is_unknown-clause-refused
returns-then-is_unknown-clause-refused c asks =
    let rows = subcommand_rows_of c.args.matches.now in
    let found : AreSamplesOf rows (Some (c.in-Some.samples, c.in-Some.printed)) = subst (AreSamplesOf rows) c.in-Some.is c.found_samples.ensures in
    let unknown = format_said _ _ c.found_format-format.result _ c.found_format-format.ensures c.is_unknown.ensures c.if-is_unknown.true in
    absurd (true≢false (sym unknown ∙ asks.sample_format (c.in-Some.samples, c.in-Some.printed) found))

pub returns-clause-ok : goal.returns-clause-ok
returns-clause-ok c =
    let rows = subcommand_rows_of c.args.matches.now in
    let found : AreSamplesOf rows (Some (c.in-Some.samples, c.in-Some.printed)) = subst (AreSamplesOf rows) c.in-Some.is c.found_samples.ensures in
    let known = format_said _ _ c.found_format-format.result _ c.found_format-format.ensures c.is_unknown.ensures c.if-is_unknown.false in
    (found, (c.in_ok-excuses.ensures.ok, known))
