use Rattle.std.proofs.Common.{◌≡◌, false, length}
use Rattle.term_core.specs.inside.Writing.{Owes}
use Rattle.term_core.proofs.stream.write_all.Given as goal

-- the sink is sound, and what is left is still to be written
abbrev pub invariant-loop-rest : goal.invariant-loop-rest
invariant-loop-rest g l =
    (g.S.Sink.has_failed l.sink ≡ false) × Owes (g.S.Sink.contents l.fn.sink) (g.S.Sink.contents l.sink) l.rest l.fn.bytes

abbrev pub decreases-loop-rest : goal.decreases-loop-rest
decreases-loop-rest g l = length l.rest
