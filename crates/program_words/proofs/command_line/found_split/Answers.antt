use Rattle.std.proofs.Common.{refl, sym, subst, Some}
use Rattle.clap.specs.Words.{found_of, rows_of}
use Rattle.program_words.specs.declared.command_line.Split.{Split}
use Rattle.program_words.specs.inside.Found.{IsSplitOf}
use Rattle.program_words.proofs.Found.{found_rows, split_of}
use Rattle.program_words.proofs.command_line.found_split.Goals as goal

pub returns : goal.returns
returns c =
    let command = c.args.command.now in
    let found = found_of c.in_ok-given.given.now in
    let rows = found_rows c.args.matches.now command (rows_of found) (c.in_ok-given.ensures.found.0 refl) c.in_ok-given.ensures.rows in
    let split : Split = record { depth = c.in_ok-depth.depth; at = c.in_ok-at.at; flags = c.found_flags.result } in
    subst (λ o. IsSplitOf command o (Some split)) (sym rows) (split_of command (rows_of found) (Some split) (c.in_ok-depth.ensures, (c.in_ok-at.ensures, c.found_flags.ensures)))
