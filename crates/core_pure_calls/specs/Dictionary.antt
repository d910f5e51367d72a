-- The process dictionary (Erlang reference manual, module erlang, `put/2`, `get/0`, `get/1`, `get_keys/0`, `get_keys/1`, `erase/0`, `erase/1`): what a process keeps for itself, one value for each key.
use Rattle.std.specs.Prelude.{List, [], ◌∷◌, ◌++◌, map, codes, if◌then◌else◌}
use Rattle.term_core.specs.Meaning.{Meaning, Atom, Tuple, meanings_of}
use Rattle.core_pure_calls.specs.Comparing.{are_equal, is_greater, is_less}
use Rattle.core_pure_calls.specs.Lists.{list_of}

-- the keys with their values, in the order of the keys
abbrev pub Dictionary : Type 0
Dictionary = List (Meaning × Meaning)

-- the value of a key, or `'undefined'`
abbrev pub value_of : Meaning → Dictionary → Meaning
value_of key [] = Atom (codes "undefined")
value_of key (e ∷ es) = if are_equal e.0 key then e.1 else value_of key es

-- what is kept under lesser keys
abbrev pub below : Meaning → Dictionary → Dictionary
below key [] = []
below key (e ∷ es) = if is_less e.0 key then e ∷ below key es else below key es

-- what is kept under greater keys
abbrev pub above : Meaning → Dictionary → Dictionary
above key [] = []
above key (e ∷ es) = if is_greater e.0 key then e ∷ above key es else above key es

-- with this value for a key
abbrev pub with_value : Meaning → Meaning → Dictionary → Dictionary
with_value key value d = below key d ++ (key, value) ∷ above key d

-- without a key
abbrev pub without_key : Meaning → Dictionary → Dictionary
without_key key d = below key d ++ above key d

-- the keys with this value
abbrev pub keys_with : Meaning → Dictionary → List Meaning
keys_with value [] = []
keys_with value (e ∷ es) = if are_equal e.1 value then e.0 ∷ keys_with value es else keys_with value es

-- a key with its value, as a term
abbrev pub pair_of : Meaning × Meaning → Meaning
pair_of e = Tuple (meanings_of (e.0 ∷ e.1 ∷ []))

-- all of it, as `get/0` and `erase/0` give it
abbrev pub all_of : Dictionary → Meaning
all_of d = list_of (map pair_of d)

-- all keys, as `get_keys/0` gives them
abbrev pub keys_of : Dictionary → Meaning
keys_of d = list_of (map (λ e. e.0) d)
