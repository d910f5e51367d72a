use Rattle.std.proofs.Common.{codes}
use Rattle.clap.specs.Words.{found_of}
use Rattle.program_words.proofs.Found.{flag_of}
use Rattle.program_words.proofs.command_line.found_flags.Goals as goal

pub returns : goal.returns
returns c =
    let found = found_of c.args.matches.now in
    record {
      allow_deadlock = flag_of found (codes "allow-deadlock") c.get_flag.result c.get_flag.ensures.value c.get_flag.ensures.other;
      strict_access = flag_of found (codes "strict-access") c.get_flag-2.result c.get_flag-2.ensures.value c.get_flag-2.ensures.other;
      idle_servers = flag_of found (codes "idle-servers") c.get_flag-3.result c.get_flag-3.ensures.value c.get_flag-3.ensures.other;
    }
