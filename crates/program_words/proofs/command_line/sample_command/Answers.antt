use Rattle.std.proofs.Common.{◌∙◌, ap, codes}
use Rattle.clap.specs.Simple.{app_of_fields}
use Rattle.clap.specs.Words.{new_app}
use Rattle.clap.specs.declared.builder.command.Command.{Command}
use Rattle.clap.specs.declared.builder.command.Command.TheOpen.{Command-F}
use Rattle.program_words.specs.inside.CommandLine.{IsMadeAs}
use Rattle.program_words.proofs.CommandLine.{made_with}
use Rattle.program_words.proofs.command_line.sample_command.Goals as goal

pub returns-clause-line : goal.returns-clause-line
returns-clause-line c =
    let new : IsMadeAs (new_app (codes "sample")) c.after_help.result = record {
      line = ap app_of_fields c.after_help.ensures ∙ ap app_of_fields c.about.ensures ∙ c.new.ensures.app;
      local = ap (λ (f : Command-F Command). f.has_globals) c.after_help.ensures ∙ ap (λ (f : Command-F Command). f.has_globals) c.about.ensures ∙ c.new.ensures.local;
    } in
    let one = made_with _ _ _ _ _ new c.depth_option.ensures c.in_ok-arg.ensures in
    let two = made_with _ _ _ _ _ one c.runs_option.ensures c.in_ok-arg-2.ensures in
    let three = made_with _ _ _ _ _ two c.seed_option.ensures c.in_ok-arg-3.ensures in
    let four = made_with _ _ _ _ _ three c.allow_deadlock_flag.ensures c.in_ok-arg-4.ensures in
    let five = made_with _ _ _ _ _ four c.main_deadlock_flag.ensures c.in_ok-arg-5.ensures in
    let six = made_with _ _ _ _ _ five c.idle_servers_flag.ensures c.in_ok-arg-6.ensures in
    let seven = made_with _ _ _ _ _ six c.normal_option.ensures c.in_ok-arg-7.ensures in
    let eight = made_with _ _ _ _ _ seven c.strict_access_flag.ensures c.in_ok-arg-8.ensures in
    let nine = made_with _ _ _ _ _ eight c.explain_flag.ensures c.in_ok-arg-9.ensures in
    let ten = made_with _ _ _ _ _ nine c.at_once_flag.ensures c.in_ok-arg-10.ensures in
    made_with _ _ _ _ _ ten c.format_option.ensures c.in_ok-sample.ensures
