-- A term as contracts see it: its kind and its parts, without where they lie in memory.
use Rattle.std.specs.Prelude.{◌≡◌, ℕ, ◌+◌, ℤ, List, [], ◌∷◌, refl}

-- the seven kinds of terms; an atom is the bytes of its text, a pid the list of its numbers
mutual
  pub data Meaning : Type 0 where
    Int : (number : ℤ) → Meaning
    Atom : (text : List ℕ) → Meaning
    Ref : (pid : List ℕ) (number : ℕ) → Meaning
    Pid : (pid : List ℕ) → Meaning
    Tuple : (parts : Meanings) → Meaning
    Nil : Meaning
    Cons : (head tail : Meaning) → Meaning

  pub data Meanings : Type 0 where
    NoMore : Meanings
    Also : (first : Meaning) (others : Meanings) → Meanings

-- the parts of a tuple, from a list
abbrev pub meanings_of : List Meaning → Meanings
meanings_of [] = NoMore
meanings_of (m ∷ ms) = Also m (meanings_of ms)

-- the parts of a tuple, as a list
abbrev pub parts_of : Meanings → List Meaning
parts_of NoMore = []
parts_of (Also m ms) = m ∷ parts_of ms

pub parts_of-meanings_of : (ms : List Meaning) → parts_of (meanings_of ms) ≡ ms
parts_of-meanings_of [] = refl
parts_of-meanings_of (m ∷ ms) = λ i. m ∷ parts_of-meanings_of ms i

-- the size of a term in nodes: 1 for each integer, atom, reference, pid, nil, tuple and cell, and the nodes of its parts
abbrev mutual
  pub node_count : Meaning → ℕ
  node_count (Int n) = 1
  node_count (Atom t) = 1
  node_count (Ref p n) = 1
  node_count (Pid p) = 1
  node_count (Tuple ms) = 1 + node_counts ms
  node_count Nil = 1
  node_count (Cons a b) = 1 + (node_count a + node_count b)

  pub node_counts : Meanings → ℕ
  node_counts NoMore = 0
  node_counts (Also m ms) = node_count m + node_counts ms

-- the nodes of several terms together
abbrev pub sum_of_nodes : List Meaning → ℕ
sum_of_nodes ms = node_counts (meanings_of ms)
