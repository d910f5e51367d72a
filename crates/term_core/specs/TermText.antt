-- The texts of atoms, references and terms, as bytes.
use Rattle.std.specs.Prelude.{ℕ, ◌+◌, ◌/◌, ◌%◌, ◌==◌, nat_lt, if◌then◌else◌, List, [], ◌∷◌, ◌++◌}
use Rattle.std.specs.List.{flat_map}
use Rattle.std.specs.Fmt.{decimal, signed_decimal}
use Rattle.term_core.specs.Meaning.{Meaning, Meanings, Int, Atom, Ref, Pid, Tuple, Nil, Cons, NoMore, Also}
use Rattle.term_core.specs.Text.{text_of_pid}

-- below 32 a backslash and three octal digits, else the byte itself
abbrev pub plain_byte : ℕ → List ℕ
plain_byte c = if nat_lt c 32 then 92 ∷ (48 + c / 64) ∷ (48 + c / 8 % 8) ∷ (48 + c % 8) ∷ [] else c ∷ []

-- a byte of an atom as it is printed: `'` and `\` after a backslash, 8 to 13, 27 and 127 by their letters, and all others plain
abbrev pub printed_byte : ℕ → List ℕ
printed_byte c =
    if c == 39 then 92 ∷ 39 ∷ [] else
    (if c == 92 then 92 ∷ 92 ∷ [] else
    (if c == 8 then 92 ∷ 98 ∷ [] else
    (if c == 9 then 92 ∷ 116 ∷ [] else
    (if c == 10 then 92 ∷ 110 ∷ [] else
    (if c == 11 then 92 ∷ 118 ∷ [] else
    (if c == 12 then 92 ∷ 102 ∷ [] else
    (if c == 13 then 92 ∷ 114 ∷ [] else
    (if c == 27 then 92 ∷ 101 ∷ [] else
    (if c == 127 then 92 ∷ 100 ∷ [] else
    plain_byte c)))))))))

-- an atom in single quotes
abbrev pub text_of_atom : List ℕ → List ℕ
text_of_atom text = 39 ∷ (flat_map printed_byte text ++ 39 ∷ [])

-- `#`, the pid, and the number after a dot
abbrev pub text_of_reference : List ℕ → ℕ → List ℕ
text_of_reference pid number = 35 ∷ (text_of_pid pid ++ 46 ∷ decimal number)

-- a last tail that is not nil
abbrev pub behind_bar : List ℕ → List ℕ
behind_bar text = 124 ∷ (text ++ 93 ∷ [])

-- tuples as `{a,b}`, lists as `[a,b]`, and as `[a,b|t]` where the last tail is not nil
abbrev mutual
  pub text_of_term : Meaning → List ℕ
  text_of_term (Int n) = signed_decimal n
  text_of_term (Atom text) = text_of_atom text
  text_of_term (Ref pid number) = text_of_reference pid number
  text_of_term (Pid pid) = text_of_pid pid
  text_of_term (Tuple parts) = text_of_tuple parts
  text_of_term Nil = 91 ∷ 93 ∷ []
  text_of_term (Cons head tail) = 91 ∷ (text_of_term head ++ text_of_tail tail)

  -- what comes after the head of a list cell
  pub text_of_tail : Meaning → List ℕ
  text_of_tail (Int n) = behind_bar (signed_decimal n)
  text_of_tail (Atom text) = behind_bar (text_of_atom text)
  text_of_tail (Ref pid number) = behind_bar (text_of_reference pid number)
  text_of_tail (Pid pid) = behind_bar (text_of_pid pid)
  text_of_tail (Tuple parts) = behind_bar (text_of_tuple parts)
  text_of_tail Nil = 93 ∷ []
  text_of_tail (Cons head tail) = 44 ∷ (text_of_term head ++ text_of_tail tail)

  pub text_of_tuple : Meanings → List ℕ
  text_of_tuple NoMore = 123 ∷ 125 ∷ []
  text_of_tuple (Also first others) = 123 ∷ (text_of_term first ++ text_of_others others)

  -- what comes after the first part of a tuple
  pub text_of_others : Meanings → List ℕ
  text_of_others NoMore = 125 ∷ []
  text_of_others (Also first others) = 44 ∷ (text_of_term first ++ text_of_others others)

-- the end of a list with this last tail
abbrev pub text_of_end : Meaning → List ℕ
text_of_end (Int n) = behind_bar (signed_decimal n)
text_of_end (Atom text) = behind_bar (text_of_atom text)
text_of_end (Ref pid number) = behind_bar (text_of_reference pid number)
text_of_end (Pid pid) = behind_bar (text_of_pid pid)
text_of_end (Tuple parts) = behind_bar (text_of_tuple parts)
text_of_end Nil = 93 ∷ []
text_of_end (Cons head tail) = behind_bar (text_of_term (Cons head tail))
