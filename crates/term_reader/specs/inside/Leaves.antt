-- The leaves of terms at the beginning of a text.
use Rattle.std.specs.Prelude.{◌≡◌, ◌⊎◌, ℕ, ◌≤◌, true, List, [], ◌∷◌, ◌++◌, drop, slice_index, Option, MatchOption}
use Rattle.std.specs.List.{flat_map, before_first, position_or_len}
use Rattle.term_core.specs.Meaning.{Meaning, Int, Atom, Ref, Pid, Tuple, Nil, Cons}
use Rattle.term_core.specs.Term.{meaning_of}
use Rattle.term_core.specs.Text.{dotted}
use Rattle.term_core.specs.TermText.{text_of_term}
use Rattle.term_core.specs.declared.term.Term.{Term}
use Rattle.term_reader.specs.Lawful.{AreNumbers, IsLawful, item_of, marks}
use Rattle.term_reader.specs.declared.leaves.Leaf.{Leaf}
use Rattle.term_reader.specs.declared.leaves.Leaf.TheVariants.{Read, Bad}

-- nothing, or a mark and more
abbrev pub Ends : List ℕ → Type 0
Ends [] = Unit {0}
Ends (byte ∷ bytes) = marks byte ≡ true

-- both are empty, or begin with the same byte
abbrev pub IsAlike : List ℕ → List ℕ → Type 0
IsAlike [] [] = Unit {0}
IsAlike [] (b ∷ bs) = ⊥
IsAlike (a ∷ xs) [] = ⊥
IsAlike (a ∷ xs) (b ∷ bs) = a ≡ b

-- what comes before the first mark
abbrev pub word_of : List ℕ → List ℕ
word_of text = before_first marks text

-- the rest
abbrev pub behind_word : List ℕ → List ℕ
behind_word text = drop (position_or_len marks text) text

-- each number after a dot
abbrev pub text_of_numbers : List ℕ → List ℕ
text_of_numbers numbers = flat_map dotted numbers

-- a text is that of these numbers
abbrev pub IsOfNumbers : List ℕ → List ℕ → Type 0
IsOfNumbers text numbers = AreNumbers numbers × (text ≡ text_of_numbers numbers)

-- a text is that of no numbers
abbrev pub IsOfNoNumbers : List ℕ → Type 0
IsOfNoNumbers text = (numbers : List ℕ) → AreNumbers numbers → text ≡ text_of_numbers numbers → ⊥

-- the first byte is one of `1` to `9`
abbrev pub BeginsNumber : List ℕ → Type 0
BeginsNumber bytes = (49 ≤ slice_index bytes 0) × (slice_index bytes 0 ≤ 57)

-- and so may be the one after a sign
abbrev pub BeginsInteger : List ℕ → Type 0
BeginsInteger bytes = BeginsNumber bytes ⊎ ((slice_index bytes 0 ≡ 45) × BeginsNumber (drop 1 bytes))

-- an integer, a pid or a reference
abbrev pub IsWord : Meaning → Type 0
IsWord (Int n) = Unit {0}
IsWord (Atom text) = ⊥
IsWord (Ref pid number) = Unit {0}
IsWord (Pid pid) = Unit {0}
IsWord (Tuple parts) = ⊥
IsWord Nil = ⊥
IsWord (Cons head tail) = ⊥

-- one of these, or an atom
abbrev pub IsLeaf : Meaning → Type 0
IsLeaf (Int n) = Unit {0}
IsLeaf (Atom text) = Unit {0}
IsLeaf (Ref pid number) = Unit {0}
IsLeaf (Pid pid) = Unit {0}
IsLeaf (Tuple parts) = ⊥
IsLeaf Nil = ⊥
IsLeaf (Cons head tail) = ⊥

-- the word is the text of this term, or of none
abbrev pub ReadsWord : List ℕ → Option Term → Type 0
ReadsWord word found = MatchOption found
    ((m : Meaning) → IsWord m → IsLawful m → word ≡ text_of_term m → ⊥)
    (λ term. IsWord (meaning_of term) × IsLawful (meaning_of term) × (word ≡ text_of_term (meaning_of term)))

-- the text begins with the text of this leaf, and with that of no other before a mark or the end, also if other bytes followed
pub record Reads (text : List ℕ) (term : Meaning) (behind : List ℕ) : Type 0 where
  pub leaf : IsLeaf term
  pub lawful : IsLawful term
  pub parts : text ≡ text_of_term term ++ behind
  pub only : (left : List ℕ) (m : Meaning) (rest : List ℕ) → IsAlike behind left → IsLeaf m → IsLawful m → Ends rest → text_of_term term ++ left ≡ text_of_term m ++ rest → (term ≡ m) × (left ≡ rest)

-- no text that begins with this item begins with the text of a leaf
abbrev pub NoLeaf : List ℕ → Type 0
NoLeaf text = (other : List ℕ) (m : Meaning) (rest : List ℕ) → item_of other ≡ item_of text → IsLeaf m → IsLawful m → Ends rest → other ≡ text_of_term m ++ rest → ⊥

abbrev pub ReadsLeaf : List ℕ → Leaf → Type 0
ReadsLeaf text (Read term behind) = Reads text (meaning_of term) behind.now
ReadsLeaf text Bad = NoLeaf text
