use Rattle.std.proofs.Common.{◌≡◌, [], ◌∷◌, ◌++◌, false, drop}
use Rattle.std.specs.List.{flat_map}
use Rattle.term_core.specs.TermText.{text_of_atom, printed_byte}
use Rattle.term_core.specs.inside.Writing.{Owes}
use Rattle.term_core.proofs.text.write_atom.Given as goal

-- the sink is sound, and the bytes that are left and the closing quote are still to be written
abbrev pub invariant-loop-byte : goal.invariant-loop-byte
invariant-loop-byte g l =
    (g.S.Sink.has_failed l.sink ≡ false) × Owes (g.S.Sink.contents l.fn.sink) (g.S.Sink.contents l.sink) (flat_map printed_byte (drop l.byte-index l.bytes) ++ 39 ∷ []) (text_of_atom l.fn.atom)
