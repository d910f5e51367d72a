-- What a term holds, where it is of a kind.
use Rattle.std.specs.Prelude.{ℕ, ◌==◌, Bool, false, List, Option, Some, None}
use Rattle.std.specs.Cmp.Lexicographic.{pointwise}
use Rattle.term_core.specs.Meaning.{Meaning, Atom, Tuple, Cons, parts_of}

-- whether two texts are the same, byte by byte
abbrev pub same_text : List ℕ → List ℕ → Bool
same_text = pointwise ◌==◌

-- whether a term is the atom of this text
abbrev pub is_the_atom : List ℕ → Meaning → Bool
is_the_atom text (Atom t) = same_text t text
is_the_atom text m = false

-- the parts of the tuple that a term is
abbrev pub tuple_in : Meaning → Option (List Meaning)
tuple_in (Tuple parts) = Some (parts_of parts)
tuple_in m = None

-- the head and the tail of the list cell that a term is
abbrev pub cell_in : Meaning → Option (Meaning × Meaning)
cell_in (Cons head tail) = Some (head, tail)
cell_in m = None
