use Rattle.std.proofs.Common.{◌≡◌, List, IfErr, subst}
use Rattle.clap.specs.Values.{kind_of}
use Rattle.clap.specs.Words.{Row, subcommand_rows_of}
use Rattle.clap.specs.declared.error.kind.ErrorKind.TheVariants.{OutOfMemory}
use Rattle.tree_excuses.specs.Excuses.{Excuses}
use Rattle.program_words.specs.inside.Found.{AskExcuses}
use Rattle.program_words.proofs.Found.{rows_found}
use Rattle.program_words.proofs.excused.read_excuses.Goals as goal

pub returns-in-Some-clause-refused : goal.returns-in-Some-clause-refused
returns-in-Some-clause-refused c =
    subst (λ (rows : List Row). IfErr c.read_given.result (λ e. (excuses : Excuses) → AskExcuses c.args.flags rows excuses → kind_of e ≡ OutOfMemory))
    (rows_found (subcommand_rows_of c.args.matches.now) _ c.in-Some.ensures.rows)
    c.read_given.ensures.refused
