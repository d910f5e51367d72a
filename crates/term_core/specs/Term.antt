-- What a term means: the value that contracts see.
use Rattle.std.specs.Prelude.{List, [], ◌∷◌}
use Rattle.term_core.specs.Meaning.{Meaning, meanings_of}
use Rattle.term_core.specs.Meaning as terms
use Rattle.term_core.specs.declared.term.Term.{Term}
use Rattle.term_core.specs.declared.term.Term.TheVariants.{Int, Atom, Ref, Pid, Tuple, Nil, Cons}

abbrev pub meaning_of : Term → Meaning
meaning_of (Int n) = terms.Int n
meaning_of (Atom a) = terms.Atom a
meaning_of (Ref r) = terms.Ref r.0 r.1
meaning_of (Pid p) = terms.Pid p
meaning_of (Tuple ts) = terms.Tuple (meanings_of ts.value)
meaning_of Nil = terms.Nil
meaning_of (Cons p) = terms.Cons p.value.0 p.value.1

-- the list of these heads that goes on with the tail
abbrev pub list_onto : List Meaning → Meaning → Meaning
list_onto [] tail = tail
list_onto (head ∷ heads) tail = terms.Cons head (list_onto heads tail)
