use Rattle.std.proofs.Common.{codes, subst}
use Rattle.clap.specs.Words.{found_of, one_of, rows_of}
use Rattle.program_words.specs.inside.Found.{ReadsFlag}
use Rattle.program_words.proofs.Found.{flag_of}
use Rattle.program_words.proofs.command_line.found_delivery.Goals as goal

pub returns-then-at_once : goal.returns-then-at_once
returns-then-at_once c =
    let found = found_of c.args.matches.now in
    subst (ReadsFlag (one_of (codes "at-once") (rows_of found))) c.if-at_once.true (flag_of found (codes "at-once") c.get_flag-at_once.result c.get_flag-at_once.ensures.value c.get_flag-at_once.ensures.other)

pub returns-else-at_once : goal.returns-else-at_once
returns-else-at_once c =
    let found = found_of c.args.matches.now in
    subst (ReadsFlag (one_of (codes "at-once") (rows_of found))) c.if-at_once.false (flag_of found (codes "at-once") c.get_flag-at_once.result c.get_flag-at_once.ensures.value c.get_flag-at_once.ensures.other)
