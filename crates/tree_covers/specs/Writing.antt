-- What was written of a text that takes memory to be made.
use Rattle.std.specs.Prelude.{◌≡◌, ℕ, Bool, false, List, Option, Result, Ok, Err}
use Rattle.term_core.specs.Stream.{AppendsBeginning, WritesAll, BreaksOff}
use Rattle.tree_covers.specs.declared.fault.WriteCoverFault.{WriteCoverFault}
use Rattle.tree_covers.specs.declared.fault.WriteCoverFault.TheVariants.{Memory, Write}

-- the whole text was written; or memory ran out, and the sink, which is sound, got a beginning of it; or the sink has failed within it
abbrev pub IsWritten : List ℕ → (old new : Option (List ℕ)) → Bool → Result (Unit {0}) WriteCoverFault → Type 0
IsWritten text old new failed (Ok done) = WritesAll old new failed text
IsWritten text old new failed (Err Memory) = (failed ≡ false) × AppendsBeginning old new text
IsWritten text old new failed (Err Write) = BreaksOff old new failed text
