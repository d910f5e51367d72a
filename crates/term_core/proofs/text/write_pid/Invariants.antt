use Rattle.std.proofs.Common.{◌≡◌, [], ◌++◌, false, drop}
use Rattle.std.specs.List.{flat_map}
use Rattle.term_core.specs.Text.{dotted, text_of_pid}
use Rattle.term_core.specs.inside.Writing.{Owes}
use Rattle.term_core.proofs.text.write_pid.Given as goal

-- the sink is sound, and the numbers that are left are still to be written
abbrev pub invariant-loop-number : goal.invariant-loop-number
invariant-loop-number g l =
    (g.S.Sink.has_failed l.sink ≡ false) × Owes (g.S.Sink.contents l.fn.sink) (g.S.Sink.contents l.sink) (flat_map dotted (drop l.number-index l.number-items) ++ []) (text_of_pid l.fn.pid)
