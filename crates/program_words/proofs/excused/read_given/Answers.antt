use Rattle.std.proofs.Common.{◌∙◌, ◌&&◌, ◌||◌, sym, ap, codes}
use Rattle.clap.specs.Words.{found_of, rows_of}
use Rattle.program_words.proofs.Found.{flag_of}
use Rattle.program_words.proofs.Rows.{neither}
use Rattle.program_words.proofs.Texts.{two_refused}
use Rattle.program_words.proofs.excused.read_given.Goals as goal

pub returns-then-are_two-clause-refused : goal.returns-then-are_two-clause-refused
returns-then-are_two-clause-refused c excuses asks =
    let found = found_of c.args.given.now in
    let main_reads = flag_of found (codes "main-deadlock") c.get_flag-main_deadlock.result c.get_flag-main_deadlock.ensures.value c.get_flag-main_deadlock.ensures.other in
    let idle_reads = flag_of found (codes "idle-servers") c.get_flag-idle_servers.result c.get_flag-idle_servers.ensures.value c.get_flag-idle_servers.ensures.other in
    absurd (two_refused c.args.flags (rows_of found) excuses c.get_flag-main_deadlock.result c.get_flag-idle_servers.result main_reads idle_reads (sym c.are_two.ensures ∙ c.if-are_two.true) asks)

pub returns-clause-ok : goal.returns-clause-ok
returns-clause-ok c =
    let found = found_of c.args.given.now in
    let main = c.get_flag-main_deadlock.result in
    let idle = c.get_flag-idle_servers.result in
    let allowed = c.args.flags.allow_deadlock in
    let apart = neither (allowed && (main || idle)) (main && idle) (sym c.are_two.ensures ∙ c.if-are_two.false) in
    record {
      main = main;
      idle = idle;
      main_is = flag_of found (codes "main-deadlock") main c.get_flag-main_deadlock.ensures.value c.get_flag-main_deadlock.ensures.other;
      idle_is = flag_of found (codes "idle-servers") idle c.get_flag-idle_servers.ensures.value c.get_flag-idle_servers.ensures.other;
      one = apart.1;
      main_deadlock = c.is_main_excused.ensures;
      normal = c.in_ok-normal.ensures.ok.texts_are;
      in_range = record { few = c.in_ok-normal.ensures.ok.few; lawful = c.in_ok-normal.ensures.ok.lawful; apart = ap (λ b. allowed && b) c.is_main_excused.ensures ∙ apart.0 };
    }
