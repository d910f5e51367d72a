use Rattle.std.proofs.Common.{◌≡◌, [], ◌++◌, false, drop}
use Rattle.std.specs.List.{flat_map}
use Rattle.term_core.specs.inside.Writing.{Owes}
use Rattle.report_text.specs.IdentityText.{pid_behind_blank, text_of_unread}
use Rattle.report_text.proofs.identity_text.write_unread.Given as goal

-- the sink is sound, and the processes that are left are still to be written
abbrev pub invariant-loop-pid : goal.invariant-loop-pid
invariant-loop-pid g l =
    (g.W.Sink.has_failed l.sink ≡ false) × Owes (g.W.Sink.contents l.fn.sink) (g.W.Sink.contents l.sink) (flat_map pid_behind_blank (drop l.pid-index l.processes) ++ []) (text_of_unread l.fn.processes)
