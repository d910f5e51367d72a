-- What becomes of a command by one more argument, and by one more subcommand.
use Rattle.std.proofs.Common.{◌≡◌, ◌∙◌, ◌||◌, ap, ap₂}
use Rattle.clap.specs.Words.{AddsArg, AddsSubcommand, App, Rule, app_of, with_rule, with_subcommand}
use Rattle.clap.specs.declared.builder.arg.Arg.{Arg}
use Rattle.clap.specs.declared.builder.command.Command.{Command}
use Rattle.program_words.specs.inside.CommandLine.{IsArgument, IsMadeAs}

pub made_with : (app : App) (rule : Rule) (old new : Command) (arg : Arg) → IsMadeAs app old → IsArgument rule arg → AddsArg old arg new → IsMadeAs (with_rule app rule) new
made_with app rule old new arg made is added = record {
  line = added.shape is.local ∙ ap₂ with_rule made.line is.rule_is;
  local = added.globals ∙ ap₂ (λ a b. a || b) made.local is.local;
}

pub line_with : (app sub : App) (old new added : Command) → app_of old ≡ app → IsMadeAs sub added → AddsSubcommand old added new → app_of new ≡ with_subcommand app sub.top
line_with app sub old new added line made adds = adds.shape made.local ∙ ap₂ with_subcommand line (ap (λ (a : App). a.top) made.line)
