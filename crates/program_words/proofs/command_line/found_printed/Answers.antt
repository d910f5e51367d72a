use Rattle.std.proofs.Common.{◌∙◌, ap, codes}
use Rattle.clap.specs.Words.{found_of}
use Rattle.program_words.specs.inside.Found.{asks_terms}
use Rattle.program_words.proofs.Found.{flag_of}
use Rattle.program_words.proofs.command_line.found_printed.Goals as goal

pub returns : goal.returns
returns c =
    let found = found_of c.args.matches.now in
    record {
      explained = flag_of found (codes "explain") c.get_flag.result c.get_flag.ensures.value c.get_flag.ensures.other;
      cover = flag_of found (codes "cover") c.get_flag-2.result c.get_flag-2.ensures.value c.get_flag-2.ensures.other;
      terms = c.asks_terms.ensures ∙ ap asks_terms c.format_of.ensures;
    }
