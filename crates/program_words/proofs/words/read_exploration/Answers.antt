use Rattle.std.proofs.Common.{◌≡◌, ◌∙◌, Some, ap, subst, sym, true≢false}
use Rattle.std.specs.Prelude.{Err}
use Rattle.std.proofs.lemmas.Result.{err_from_is_err_and}
use Rattle.clap.specs.Values.{kind_of}
use Rattle.clap.specs.Words.{subcommand_rows_of}
use Rattle.clap.specs.declared.error.Error.{Error}
use Rattle.clap.specs.declared.error.kind.ErrorKind.TheVariants.{OutOfMemory}
use Rattle.program_words.specs.Words.{is_by_states, report_alone}
use Rattle.program_words.specs.declared.words.Printed.{Printed}
use Rattle.program_words.specs.inside.Found.{AreOptionsOf, AsksForOne}
use Rattle.program_words.proofs.Reading.{alone, format_said, no_cover_of_states, no_job_of_states, no_word_found, nothing_of_tree, word_found}
use Rattle.program_words.proofs.Texts.{if_err}
use Rattle.program_words.proofs.words.read_exploration.Goals as goal

pub returns-in_default-clause-ok : goal.returns-in_default-clause-ok
returns-in_default-clause-ok c = subst (AreOptionsOf (subcommand_rows_of c.args.matches.now)) c.in_default.is c.found_options.ensures

pub returns-in_err-excuses-clause-refused : goal.returns-in_err-excuses-clause-refused
returns-in_err-excuses-clause-refused c =
    let rows = subcommand_rows_of c.args.matches.now in
    let found : AreOptionsOf rows (Some (c.in-Some.options, c.in-Some.printed)) = subst (AreOptionsOf rows) c.in-Some.is c.found_options.ensures in
    let p = err_from_is_err_and c.from_residual.result c.from_residual.ensures.1 in
    if_err (λ (e : Error). AsksForOne rows → kind_of e ≡ OutOfMemory) _ c.in_err-excuses.field-0.0 (p.1 ∙ ap Err p.2)
    (λ asks. let can = asks.explore (c.in-Some.options, c.in-Some.printed) found in c.in_err-excuses.ensures.refused can.excuses can.asks)

pub returns-then-is_unknown-clause-refused : goal.returns-then-is_unknown-clause-refused
returns-then-is_unknown-clause-refused c asks =
    let rows = subcommand_rows_of c.args.matches.now in
    let found : AreOptionsOf rows (Some (c.in-Some.options, c.in-Some.printed)) = subst (AreOptionsOf rows) c.in-Some.is c.found_options.ensures in
    let unknown = format_said _ _ c.found_format-format.result _ c.found_format-format.ensures c.is_unknown.ensures c.if-is_unknown.true in
    absurd (true≢false (sym unknown ∙ asks.format (c.in-Some.options, c.in-Some.printed) found))

pub returns-then-asks_tree_of_states-clause-refused : goal.returns-then-asks_tree_of_states-clause-refused
returns-then-asks_tree_of_states-clause-refused c asks =
    let rows = subcommand_rows_of c.args.matches.now in
    let found : AreOptionsOf rows (Some (c.in-Some.options, c.in-Some.printed)) = subst (AreOptionsOf rows) c.in-Some.is c.found_options.ensures in
    absurd (nothing_of_tree (is_by_states c.in-Some.options.search) c.in-Some.printed.cover c.found_job-job.result _ c.found_job-job.ensures
    (sym c.asks_tree_of_states.ensures ∙ c.if-asks_tree_of_states.true) (asks.states (c.in-Some.options, c.in-Some.printed) found))

pub returns-then-asks_cover_of_terms-clause-refused : goal.returns-then-asks_cover_of_terms-clause-refused
returns-then-asks_cover_of_terms-clause-refused c asks =
    let rows = subcommand_rows_of c.args.matches.now in
    let found : AreOptionsOf rows (Some (c.in-Some.options, c.in-Some.printed)) = subst (AreOptionsOf rows) c.in-Some.is c.found_options.ensures in
    absurd (true≢false (sym c.if-asks_cover_of_terms.true ∙ c.asks_cover_of_terms.ensures ∙ asks.terms (c.in-Some.options, c.in-Some.printed) found))

pub returns-in_default-job-clause-ok : goal.returns-in_default-job-clause-ok
returns-in_default-job-clause-ok c =
    let rows = subcommand_rows_of c.args.matches.now in
    let found : AreOptionsOf rows (Some (c.in-Some.options, c.in-Some.printed)) = subst (AreOptionsOf rows) c.in-Some.is c.found_options.ensures in
    let known = format_said _ _ c.found_format-format.result _ c.found_format-format.ensures c.is_unknown.ensures c.if-is_unknown.false in
    let free = no_cover_of_states (is_by_states c.in-Some.options.search) c.in-Some.printed.cover c.found_job-job.result (sym c.asks_tree_of_states.ensures ∙ c.if-asks_tree_of_states.false) in
    let apart = sym c.asks_cover_of_terms.ensures ∙ c.if-asks_cover_of_terms.false in
    (found, (c.in_ok-excuses.ensures.ok, (known, (no_word_found c.found_job-job.result _ c.found_job-job.ensures c.in_default-job.is, (free, apart)))))

pub returns-then-prints_more-clause-refused : goal.returns-then-prints_more-clause-refused
returns-then-prints_more-clause-refused c asks =
    let rows = subcommand_rows_of c.args.matches.now in
    let found : AreOptionsOf rows (Some (c.in-Some.options, c.in-Some.printed)) = subst (AreOptionsOf rows) c.in-Some.is c.found_options.ensures in
    let line = word_found c.found_job-job.result c.in-Some-job.line _ c.found_job-job.ensures c.in-Some-job.is in
    let none = asks.job (c.in-Some.options, c.in-Some.printed) found c.in-Some-job.line.now line in
    absurd (true≢false (sym c.if-prints_more.true ∙ c.prints_more.ensures ∙ none))

pub returns-clause-ok : goal.returns-clause-ok
returns-clause-ok c =
    let rows = subcommand_rows_of c.args.matches.now in
    let found : AreOptionsOf rows (Some (c.in-Some.options, c.in-Some.printed)) = subst (AreOptionsOf rows) c.in-Some.is c.found_options.ensures in
    let known = format_said _ _ c.found_format-format.result _ c.found_format-format.ensures c.is_unknown.ensures c.if-is_unknown.false in
    let line = word_found c.found_job-job.result c.in-Some-job.line _ c.found_job-job.ensures c.in-Some-job.is in
    let by_tree = no_job_of_states (is_by_states c.in-Some.options.search) c.in-Some.printed.cover c.found_job-job.result c.in-Some-job.line c.in-Some-job.is
    (sym c.asks_tree_of_states.ensures ∙ c.if-asks_tree_of_states.false) in
    let same : c.in-Some.printed ≡ report_alone = alone c.in-Some.printed (sym c.prints_more.ensures ∙ c.if-prints_more.false) in (
      subst (λ (prints : Printed). AreOptionsOf rows (Some (c.in-Some.options, prints))) same found,
      (c.in_ok-excuses.ensures.ok, (known, (line ∙ ap Some (sym c.in_ok-line.ensures.ok), by_tree))),
    )
