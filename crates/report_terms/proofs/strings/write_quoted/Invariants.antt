use Rattle.std.proofs.Common.{◌≡◌, [], ◌∷◌, ◌++◌, false, drop}
use Rattle.std.specs.List.{flat_map}
use Rattle.term_core.specs.inside.Writing.{Owes}
use Rattle.report_terms.specs.Strings.{escaped_byte, quoted}
use Rattle.report_terms.proofs.strings.write_quoted.Given as goal

-- the sink is sound, and the bytes that are left and the closing mark are still to be written
abbrev pub invariant-loop-byte : goal.invariant-loop-byte
invariant-loop-byte g l =
    (g.W.Sink.has_failed l.sink ≡ false) × Owes (g.W.Sink.contents l.fn.sink) (g.W.Sink.contents l.sink) (flat_map escaped_byte (drop l.byte-index l.text) ++ 34 ∷ []) (quoted l.fn.text)
