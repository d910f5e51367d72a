use Rattle.std.proofs.Common.{codes, refl, sym, subst, Some}
use Rattle.clap.specs.Words.{found_of, rows_of}
use Rattle.program_words.specs.inside.Found.{IsCheckOf}
use Rattle.program_words.proofs.Found.{found_rows}
use Rattle.program_words.proofs.command_line.found_check.Goals as goal

pub returns : goal.returns
returns c =
    let found = found_of c.in_ok-given.given.now in
    let rows = found_rows c.args.matches.now (codes "check") (rows_of found) (c.in_ok-given.ensures.found.0 refl) c.in_ok-given.ensures.rows in
    subst (λ o. IsCheckOf o (Some (c.in_ok-found_number.field-0, c.found_flags.result))) (sym rows) (c.in_ok-found_number.ensures, c.found_flags.ensures)
