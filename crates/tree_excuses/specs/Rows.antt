-- Worked rows: which patterns match which terms.
use Rattle.std.specs.Prelude.{◌≡◌, true, false, pos, List, [], ◌∷◌, codes}
use Rattle.term_core.specs.Meaning.{Meaning, Int, Atom, Tuple, Nil, Cons, meanings_of}
use Rattle.tree_excuses.specs.Patterns.{any, matches}

-- a pattern matches a term
abbrev pub Matches : Meaning → Meaning → Type 0
Matches p m = matches p m ≡ true

-- and misses another
abbrev pub Misses : Meaning → Meaning → Type 0
Misses p m = matches p m ≡ false

abbrev one : Meaning
one = Int (pos 1)

abbrev two : Meaning
two = Int (pos 2)

abbrev shutdown : Meaning
shutdown = Atom (codes "shutdown")

abbrev tuple : List Meaning → Meaning
tuple ms = Tuple (meanings_of ms)

abbrev list : List Meaning → Meaning
list [] = Nil
list (m ∷ ms) = Cons m (list ms)

-- `'_'` matches any term, an atom too; but in a term it is an atom like any other, and `'$1'` is one in a pattern too
abbrev pub AtomRows : Type 0
AtomRows =
    Matches any one
    × Matches any shutdown
    × Matches any (tuple (shutdown ∷ one ∷ []))
    × Matches any any
    × Misses shutdown any
    × Misses (Atom (codes "$1")) one

-- `{shutdown,'_'}` matches each pair that begins with `shutdown`, and no tuple of another size
abbrev pub TupleRows : Type 0
TupleRows =
    Matches (tuple (shutdown ∷ any ∷ [])) (tuple (shutdown ∷ one ∷ []))
    × Matches (tuple (shutdown ∷ any ∷ [])) (tuple (shutdown ∷ list (one ∷ two ∷ []) ∷ []))
    × Misses (tuple (shutdown ∷ any ∷ [])) (tuple (one ∷ one ∷ []))
    × Misses (tuple (shutdown ∷ any ∷ [])) shutdown
    × Misses (tuple (shutdown ∷ any ∷ [])) (tuple (shutdown ∷ []))
    × Misses (tuple (shutdown ∷ any ∷ [])) (tuple (shutdown ∷ one ∷ two ∷ []))
    × Misses (tuple (any ∷ one ∷ [])) (tuple (shutdown ∷ two ∷ []))

-- `['_'|'_']` matches each list cell, and `['_','_']` each list of two
abbrev pub ListRows : Type 0
ListRows =
    Matches (Cons any any) (list (one ∷ two ∷ []))
    × Matches (Cons any any) (Cons one two)
    × Misses (Cons any any) Nil
    × Misses (Cons any any) (tuple (one ∷ two ∷ []))
    × Matches (list (any ∷ any ∷ [])) (list (one ∷ two ∷ []))
    × Misses (list (any ∷ any ∷ [])) (list (one ∷ []))
    × Misses (list (any ∷ any ∷ [])) (list (one ∷ two ∷ one ∷ []))
    × Misses (list (one ∷ any ∷ [])) (list (two ∷ two ∷ []))
    × Misses (Cons any Nil) (Cons one two)
