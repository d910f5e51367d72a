use Rattle.std.proofs.Common.{◌∙◌, ap, true}
use Rattle.clap.specs.Simple.{App, app_of_fields}
use Rattle.program_words.specs.inside.CommandLine.{program_command}
use Rattle.program_words.proofs.CommandLine.{line_with}
use Rattle.program_words.proofs.command_line.command.Goals as goal

pub returns-clause-line : goal.returns-clause-line
returns-clause-line c =
    let new = ap app_of_fields c.after_help.ensures ∙ ap app_of_fields c.about.ensures ∙ c.new.ensures.app in
    let none = ap app_of_fields c.subcommand_required.ensures ∙ ap (λ (a : App). record a { top = record a.top { subcommand_required = true } }) new in
    let one = line_with program_command _ _ _ _ none c.in_ok-replay_command.ensures.line c.in_ok-subcommand.ensures in
    let two = line_with _ _ _ _ _ one c.in_ok-explore_command.ensures.line c.in_ok-subcommand-2.ensures in
    let three = line_with _ _ _ _ _ two c.in_ok-check_command.ensures.line c.in_ok-subcommand-3.ensures in
    let four = line_with _ _ _ _ _ three c.in_ok-jobs_command.ensures.line c.in_ok-subcommand-4.ensures in
    let five = line_with _ _ _ _ _ four c.in_ok-merge_command.ensures.line c.in_ok-subcommand-5.ensures in
    line_with _ _ _ _ _ five c.in_ok-sample_command.ensures.line c.in_ok-explorer.ensures
