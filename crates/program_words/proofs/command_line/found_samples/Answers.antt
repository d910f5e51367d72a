use Rattle.std.proofs.Common.{◌∙◌, ap, codes, false, refl, sym, subst, Some}
use Rattle.clap.specs.Words.{found_of, rows_of}
use Rattle.search_samples.specs.declared.sample.Samples.{Samples}
use Rattle.program_words.specs.declared.words.Printed.{Printed}
use Rattle.program_words.specs.inside.Found.{AreSamplesOf, AreSamplesRead, asks_terms}
use Rattle.program_words.proofs.Found.{flag_of, found_rows}
use Rattle.program_words.proofs.command_line.found_samples.Goals as goal

pub returns : goal.returns
returns c =
    let found = found_of c.in_ok-given.given.now in
    let rows = found_rows c.args.matches.now (codes "sample") (rows_of found) (c.in_ok-given.ensures.found.0 refl) c.in_ok-given.ensures.rows in
    let samples : Samples = record {
      depth = c.in_ok-depth.depth;
      runs = c.in_ok-runs.runs;
      seed = c.in_ok-seed.seed;
      delivery = c.found_delivery.result;
      flags = c.found_flags.result;
    } in
    let printed : Printed = record { explained = c.get_flag.result; cover = false; terms = c.asks_terms.result } in
    let read : AreSamplesRead (rows_of found) samples printed = record {
      depth = c.in_ok-depth.ensures;
      runs = c.in_ok-runs.ensures;
      seed = c.in_ok-seed.ensures;
      at_once = c.found_delivery.ensures;
      flags = c.found_flags.ensures;
      explained = flag_of found (codes "explain") c.get_flag.result c.get_flag.ensures.value c.get_flag.ensures.other;
      no_cover = refl;
      terms = c.asks_terms.ensures ∙ ap asks_terms c.format_of.ensures;
    } in
    subst (λ o. AreSamplesOf o (Some (samples, printed))) (sym rows) read
