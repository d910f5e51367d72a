use Rattle.std.proofs.Common.{◌≡◌, [], ◌++◌, false, drop}
use Rattle.std.specs.List.{flat_map}
use Rattle.term_core.specs.inside.Writing.{Owes}
use Rattle.report_terms.specs.Strings.{pid_after_comma, strings_of_pids}
use Rattle.report_terms.proofs.strings.write_pid_strings.Given as goal

-- the sink is sound, and the pids that are left are still to be written
abbrev pub invariant-loop-pid : goal.invariant-loop-pid
invariant-loop-pid g l =
    (g.W.Sink.has_failed l.sink ≡ false) × Owes (g.W.Sink.contents l.fn.sink) (g.W.Sink.contents l.sink) (flat_map pid_after_comma (drop l.pid-index l.others) ++ []) (strings_of_pids l.fn.pids)
