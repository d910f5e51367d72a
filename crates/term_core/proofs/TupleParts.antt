-- The parts of tuples.
use Rattle.std.proofs.Common.{◌≡◌, List}
use Rattle.term_core.specs.Meaning.{Meaning, meanings_of, parts_of, parts_of-meanings_of}

-- the parts of the tuple of some terms are these
pub parts_of_tuple : (ms : List Meaning) → parts_of (meanings_of ms) ≡ ms
parts_of_tuple ms = parts_of-meanings_of ms
