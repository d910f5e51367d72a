-- The command line as its parser reads it.
use Rattle.std.specs.Prelude.{◌≡◌, ℕ, List, [], ◌∷◌, codes, Some, true, false}
use Rattle.clap.specs.Simple.{built_leaf, inherited, marked_built, with_leaf_noted}
use Rattle.clap.specs.Words.{App, Rule, Shape, app_of, new_app, new_rule, rule_of, with_rule, with_subcommand}
use Rattle.clap.specs.declared.builder.action.ArgAction.TheVariants.{Append, Set, SetTrue}
use Rattle.clap.specs.declared.builder.arg.Arg.{Arg}
use Rattle.clap.specs.declared.builder.command.Command.{Command}
use Rattle.clap.specs.declared.builder.command.Command.TheViews.{out-Command}
use Rattle.clap.specs.declared.builder.value_parser.ValueParser.TheVariants.{Unsigned}

-- the argument of `replay`, which has to be there
abbrev pub schedule_rule : Rule
schedule_rule = record (new_rule (codes "SCHEDULE")) { required = true; action = Some Set }

-- `replay SCHEDULE`
abbrev pub replay_command : App
replay_command = with_rule (new_app (codes "replay")) schedule_rule

-- `--depth N`, which has to be there
abbrev pub depth_rule : Rule
depth_rule = record (new_rule (codes "depth")) { long = Some (codes "depth"); required = true; action = Some Set; value_names = 1; parser = Some (Unsigned 0 400) }

-- `--nodes N`
abbrev pub nodes_rule : Rule
nodes_rule = record (new_rule (codes "nodes")) { long = Some (codes "nodes"); action = Some Set; value_names = 1; parser = Some (Unsigned 1 10000000); defaults = codes "1000000" ∷ [] }

-- `--workers N`
abbrev pub workers_rule : Rule
workers_rule = record (new_rule (codes "workers")) { long = Some (codes "workers"); action = Some Set; value_names = 1; parser = Some (Unsigned 1 16); defaults = codes "1" ∷ [] }

-- an option without a value
abbrev pub flag_rule : List ℕ → Rule
flag_rule name = record (new_rule name) { long = Some name; action = Some SetTrue }

-- `--runs R`
abbrev pub runs_rule : Rule
runs_rule = record (new_rule (codes "runs")) { long = Some (codes "runs"); action = Some Set; value_names = 1; parser = Some (Unsigned 1 1000000); defaults = codes "1000" ∷ [] }

-- `--seed S`
abbrev pub seed_rule : Rule
seed_rule = record (new_rule (codes "seed")) { long = Some (codes "seed"); action = Some Set; value_names = 1; parser = Some (Unsigned 0 4294967295); defaults = codes "1" ∷ [] }

-- `--normal TERM`, which may come several times
abbrev pub normal_rule : Rule
normal_rule = record (new_rule (codes "normal")) { long = Some (codes "normal"); action = Some Append; value_names = 1 }

-- `--at D`, which has to be there
abbrev pub at_rule : Rule
at_rule = record (new_rule (codes "at")) { long = Some (codes "at"); required = true; action = Some Set; value_names = 1; parser = Some (Unsigned 0 400) }

-- `--job LINE`
abbrev pub job_rule : Rule
job_rule = record (new_rule (codes "job")) { long = Some (codes "job"); action = Some Set; value_names = 1 }

-- `--format FORM`
abbrev pub format_rule : Rule
format_rule = record (new_rule (codes "format")) { long = Some (codes "format"); action = Some Set; value_names = 1 }

-- the options of these commands that say what counts as an error
abbrev pub with_errors : App → App
with_errors app =
    with_rule (with_rule (with_rule (with_rule (with_rule app (flag_rule (codes "allow-deadlock"))) (flag_rule (codes "main-deadlock"))) (flag_rule (codes "idle-servers"))) normal_rule) (flag_rule (codes "strict-access"))

-- `explore` with its options
abbrev pub explore_command : App
explore_command =
    with_rule (with_rule (with_rule (with_rule (with_rule (with_rule (with_errors (with_rule (with_rule (with_rule (new_app (codes "explore")) depth_rule) nodes_rule) workers_rule)) (flag_rule (codes "explain"))) (flag_rule (codes "cover"))) job_rule) (flag_rule (codes "states"))) (flag_rule (codes "at-once"))) format_rule

-- `check` with its options
abbrev pub check_command : App
check_command = with_errors (with_rule (new_app (codes "check")) depth_rule)

-- the command of this name that splits the tree at a level, with its options
abbrev pub split_command : List ℕ → App
split_command name = with_errors (with_rule (with_rule (new_app name) depth_rule) at_rule)

-- `jobs` with its options
abbrev pub jobs_command : App
jobs_command = split_command (codes "jobs")

-- `merge` with its options
abbrev pub merge_command : App
merge_command = split_command (codes "merge")

-- `sample` with its options
abbrev pub sample_command : App
sample_command =
    with_rule (with_rule (with_rule (with_errors (with_rule (with_rule (with_rule (new_app (codes "sample")) depth_rule) runs_rule) seed_rule)) (flag_rule (codes "explain"))) (flag_rule (codes "at-once"))) format_rule

-- the program's name and a subcommand, which has to be there
abbrev pub program_command : App
program_command = record (new_app (codes "schedule_explorer")) { top = record (new_app (codes "schedule_explorer")).top { subcommand_required = true } }

-- the whole
abbrev pub command_line : App
command_line =
    with_subcommand (with_subcommand (with_subcommand (with_subcommand (with_subcommand (with_subcommand program_command replay_command.top) explore_command.top) check_command.top) jobs_command.top) merge_command.top)
    sample_command.top

-- the command is this one, and has no argument that its subcommands have too
pub record IsMadeAs (app : App) (made : Command) : Type 0 where
  pub line : app_of made ≡ app
  pub local : (out-Command made).has_globals ≡ false

-- the argument is read by this rule, and is one of its command alone
pub record IsArgument (rule : Rule) (made : Arg) : Type 0 where
  pub rule_is : rule_of made ≡ rule
  pub local : made.global ≡ false

-- the program's command as its subcommands see it when it is built
abbrev pub program_built : Shape
program_built = with_leaf_noted (marked_built command_line.top)

-- `explore` when it is built, with its option for help
abbrev pub explore_built : Shape
explore_built = built_leaf (inherited program_built explore_command.top)

-- `check` when it is built
abbrev pub check_built : Shape
check_built = built_leaf (inherited program_built check_command.top)

-- the command of this name that splits the tree at a level, when it is built
abbrev pub split_built : List ℕ → Shape
split_built name = built_leaf (inherited program_built (split_command name).top)

-- `sample` when it is built
abbrev pub sample_built : Shape
sample_built = built_leaf (inherited program_built sample_command.top)

-- the commands that split the tree at a level: into its jobs there and what is above them
pub data Splitter : Type 0 where
  listing : Splitter
  merging : Splitter

-- the name of such a command
abbrev pub split_name : Splitter → List ℕ
split_name listing = codes "jobs"
split_name merging = codes "merge"

-- the commands that have options
pub data Level : Type 0 where
  exploring : Level
  checking : Level
  sampling : Level
  splitting : Splitter → Level

-- the name of such a command
abbrev pub name_of : Level → List ℕ
name_of exploring = codes "explore"
name_of checking = codes "check"
name_of sampling = codes "sample"
name_of (splitting which) = split_name which

-- such a command when it is built
abbrev pub built_of : Level → Shape
built_of exploring = explore_built
built_of checking = check_built
built_of sampling = sample_built
built_of (splitting which) = split_built (split_name which)
