-- Words for terms: those that are answered and sent, and what an argument of a call is.
use Rattle.std.specs.Prelude.{ℕ, ℤ, pos, negsuc, Bool, true, false, ◌==◌, List, [], ◌∷◌, Option, Some, None, option_map, if◌then◌else◌, codes}
use Rattle.term_core.specs.Meaning as terms
use Rattle.term_core.specs.Meaning.{Meaning, Int, Tuple, Nil, Cons, meanings_of, parts_of}
use Rattle.term_core.specs.Term.{list_onto}
use Rattle.world_model.specs.Names.{Name, Pid, Ref, same_name}

-- ---- terms that are given

abbrev pub atom : Name → Meaning
atom text = terms.Atom text

abbrev pub truth : Bool → Meaning
truth true = atom (codes "true")
truth false = atom (codes "false")

abbrev pub process : Pid → Meaning
process p = terms.Pid p

abbrev pub reference : Ref → Meaning
reference r = terms.Ref r.pid r.number

abbrev pub number : ℕ → Meaning
number n = Int (pos n)

abbrev pub tuple : List Meaning → Meaning
tuple parts = Tuple (meanings_of parts)

abbrev pub list_of : List Meaning → Meaning
list_of items = list_onto items Nil

-- the answer of what only does
abbrev pub ok : Meaning
ok = truth true

-- a process, or the atom in its place
abbrev pub process_or : Name → Option Pid → Meaning
process_or text None = atom text
process_or text (Some p) = process p

-- ---- what an argument is

abbrev pub atom_in : Meaning → Option Name
atom_in (terms.Atom text) = Some text
atom_in m = None

abbrev pub process_in : Meaning → Option Pid
process_in (terms.Pid p) = Some p
process_in m = None

abbrev pub reference_in : Meaning → Option Ref
reference_in (terms.Ref p n) = Some (record { pid = p; number = n })
reference_in m = None

abbrev pub integer_in : Meaning → Option ℤ
integer_in (Int n) = Some n
integer_in m = None

-- the parts of a tuple
abbrev pub parts_in : Meaning → Option (List Meaning)
parts_in (Tuple parts) = Some (parts_of parts)
parts_in m = None

-- whether it is the atom of this text
abbrev pub is_atom : Name → Meaning → Bool
is_atom text (terms.Atom other) = same_name other text
is_atom text m = false

abbrev pub boolean_in : Meaning → Option Bool
boolean_in m = if is_atom (codes "true") m then Some true else (if is_atom (codes "false") m then Some false else None)

-- a first item before others, if all are there
abbrev pub before : {A : Type 0} → Option A → Option (List A) → Option (List A)
before None others = None
before (Some x) others = option_map (λ xs. x ∷ xs) others

-- what the items of a proper list are, if each is such a thing
abbrev pub each_in : {A : Type 0} → (Meaning → Option A) → Meaning → Option (List A)
each_in read Nil = Some []
each_in read (Cons head tail) = before (read head) (each_in read tail)
each_in read m = None

-- the items of a proper list
abbrev pub items_in : Meaning → Option (List Meaning)
items_in m = each_in (λ item. Some item) m

-- a position among the parts of a tuple, from 1 on; 0 means what is below
abbrev pub position_of : ℤ → ℕ
position_of (pos n) = n
position_of (negsuc n) = 0

abbrev pub if_positive : ℕ → Option ℕ
if_positive n = if n == 0 then None else Some n

-- an integer from 1 on
abbrev pub positive_in : Meaning → Option ℕ
positive_in (Int n) = if_positive (position_of n)
positive_in m = None
