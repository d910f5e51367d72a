use Rattle.std.proofs.Common.{codes, refl, sym, subst, Some}
use Rattle.clap.specs.Words.{found_of, rows_of}
use Rattle.tree_findings.specs.declared.options.Options.{Options}
use Rattle.program_words.specs.inside.Found.{AreOptionsOf, AreRead}
use Rattle.program_words.proofs.Found.{found_rows}
use Rattle.program_words.proofs.command_line.found_options.Goals as goal

pub returns : goal.returns
returns c =
    let found = found_of c.in_ok-given.given.now in
    let rows = found_rows c.args.matches.now (codes "explore") (rows_of found) (c.in_ok-given.ensures.found.0 refl) c.in_ok-given.ensures.rows in
    let options : Options = record {
      depth = c.in_ok-found_number.field-0;
      nodes = c.in_ok-found_number-2.field-0;
      budget = 64;
      workers = c.in_ok-found_number-3.field-0;
      search = c.found_search.result;
      flags = c.found_flags.result;
    } in
    let read : AreRead (rows_of found) options c.found_printed.result = record {
      depth = c.in_ok-found_number.ensures;
      nodes = c.in_ok-found_number-2.ensures;
      budget = refl;
      workers = c.in_ok-found_number-3.ensures;
      search = c.found_search.ensures;
      flags = c.found_flags.ensures;
      prints = c.found_printed.ensures;
    } in
    subst (λ o. AreOptionsOf o (Some (options, c.found_printed.result))) (sym rows) read
