use Rattle.std.proofs.Common.{◌∙◌, ap}
use Rattle.clap.specs.Simple.{app_of_fields}
use Rattle.clap.specs.Words.{new_app}
use Rattle.clap.specs.declared.builder.command.Command.{Command}
use Rattle.clap.specs.declared.builder.command.Command.TheOpen.{Command-F}
use Rattle.program_words.specs.inside.CommandLine.{IsMadeAs}
use Rattle.program_words.proofs.CommandLine.{made_with}
use Rattle.program_words.proofs.command_line.split_command.Goals as goal

pub returns-clause-line : goal.returns-clause-line
returns-clause-line c =
    let new : IsMadeAs (new_app c.args.name.now) c.after_help.result = record {
      line = ap app_of_fields c.after_help.ensures ∙ ap app_of_fields c.about.ensures ∙ c.new.ensures.app;
      local = ap (λ (f : Command-F Command). f.has_globals) c.after_help.ensures ∙ ap (λ (f : Command-F Command). f.has_globals) c.about.ensures ∙ c.new.ensures.local;
    } in
    let one = made_with _ _ _ _ _ new c.depth_option.ensures c.in_ok-arg.ensures in
    let two = made_with _ _ _ _ _ one c.at_option.ensures c.in_ok-arg-2.ensures in
    let three = made_with _ _ _ _ _ two c.allow_deadlock_flag.ensures c.in_ok-arg-3.ensures in
    let four = made_with _ _ _ _ _ three c.main_deadlock_flag.ensures c.in_ok-arg-4.ensures in
    let five = made_with _ _ _ _ _ four c.idle_servers_flag.ensures c.in_ok-arg-5.ensures in
    let six = made_with _ _ _ _ _ five c.normal_option.ensures c.in_ok-arg-6.ensures in
    made_with _ _ _ _ _ six c.strict_access_flag.ensures c.in_ok-split.ensures
