use Rattle.std.proofs.Common.{◌∙◌, codes, refl, sym, ap}
use Rattle.clap.specs.Words.{found_of, rows_of}
use Rattle.clap.proofs.WalkLemmas.{first_value-rows}
use Rattle.program_words.specs.inside.Found.{schedule_in}
use Rattle.program_words.proofs.Found.{found_rows}
use Rattle.program_words.proofs.command_line.found_schedule.Goals as goal

pub returns : goal.returns
returns c =
    let found = found_of c.in_ok-subcommand_matches.field-0.now in
    let rows = found_rows c.args.matches.now (codes "replay") (rows_of found) (c.in_ok-subcommand_matches.ensures.found.0 refl) c.in_ok-subcommand_matches.ensures.rows in
    c.get_str.ensures ∙ first_value-rows found (codes "SCHEDULE") ∙ sym (ap schedule_in rows)
