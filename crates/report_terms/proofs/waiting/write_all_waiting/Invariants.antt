use Rattle.std.proofs.Common.{◌≡◌, false, drop}
use Rattle.term_core.specs.inside.Writing.{Owes}
use Rattle.report_terms.specs.TermsReport.{waits_lines}
use Rattle.report_terms.proofs.waiting.write_all_waiting.Given as goal

-- the sink is sound, and the lines of the processes that are left are still to be written
abbrev pub invariant-loop-pid : goal.invariant-loop-pid
invariant-loop-pid g l =
    (g.W.Sink.has_failed l.sink ≡ false) × Owes (g.W.Sink.contents l.fn.sink) (g.W.Sink.contents l.sink) (waits_lines l.fn.world.history (drop l.pid-index l.processes)) (waits_lines l.fn.world.history l.fn.processes)
