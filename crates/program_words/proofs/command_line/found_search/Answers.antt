use Rattle.std.proofs.Common.{codes, subst, true≢false}
use Rattle.clap.specs.Words.{found_of, one_of, rows_of}
use Rattle.program_words.specs.inside.Found.{ReadsFlag}
use Rattle.program_words.proofs.Found.{flag_of}
use Rattle.program_words.proofs.command_line.found_search.Goals as goal

pub returns-then-at_once : goal.returns-then-at_once
returns-then-at_once c =
    let found = found_of c.args.matches.now in
    record {
      at_once = subst (ReadsFlag (one_of (codes "at-once") (rows_of found))) c.if-at_once.true (flag_of found (codes "at-once") c.get_flag-at_once.result c.get_flag-at_once.ensures.value c.get_flag-at_once.ensures.other);
      states = λ later. absurd (true≢false later);
    }

pub returns-then-states : goal.returns-then-states
returns-then-states c =
    let found = found_of c.args.matches.now in
    record {
      at_once = subst (ReadsFlag (one_of (codes "at-once") (rows_of found))) c.if-at_once.false (flag_of found (codes "at-once") c.get_flag-at_once.result c.get_flag-at_once.ensures.value c.get_flag-at_once.ensures.other);
      states = λ later. subst (ReadsFlag (one_of (codes "states") (rows_of found))) c.if-states.true (flag_of found (codes "states") c.get_flag-states.result c.get_flag-states.ensures.value c.get_flag-states.ensures.other);
    }

pub returns-else-states : goal.returns-else-states
returns-else-states c =
    let found = found_of c.args.matches.now in
    record {
      at_once = subst (ReadsFlag (one_of (codes "at-once") (rows_of found))) c.if-at_once.false (flag_of found (codes "at-once") c.get_flag-at_once.result c.get_flag-at_once.ensures.value c.get_flag-at_once.ensures.other);
      states = λ later. subst (ReadsFlag (one_of (codes "states") (rows_of found))) c.if-states.false (flag_of found (codes "states") c.get_flag-states.result c.get_flag-states.ensures.value c.get_flag-states.ensures.other);
    }
