-- No part of a term is deeper than the term has nodes.
use Rattle.std.specs.Prelude.{◌≤◌, List, [], ◌∷◌, map}
use Rattle.std.proofs.Common.{arith}
use denote.Param.Weighed.{most}
use Rattle.term_core.specs.Meaning.{node_count, sum_of_nodes}
use Rattle.term_core.specs.Term.{meaning_of}
use Rattle.term_core.specs.declared.term.Term.{Term}
use Rattle.term_core.specs.declared.term.Term.TheVariants.{Int, Atom, Ref, Pid, Tuple, Nil, Cons}
use Rattle.term_core.specs.declared.term.Pair.TheDeep.{deep-Term}

pub deep_le : (t : Term) → deep-Term t ≤ node_count (meaning_of t)
deep_le (Int n) = omega arith
deep_le (Atom a) = omega arith
deep_le (Ref r) = omega arith
deep_le (Pid p) = omega arith
deep_le (Tuple ts) = omega arith
deep_le Nil = omega arith
deep_le (Cons p) = omega arith

pub most_le : (ts : List Term) → most deep-Term ts ≤ sum_of_nodes (map meaning_of ts)
most_le [] = omega arith
most_le (t ∷ ts) = omega (arith, deep_le t, most_le ts)
