-- What begins with the text of a leaf begins with that of no other.
use Rattle.std.proofs.Common.{◌≡◌, ◌≢◌, ◌==◌, ◌⊎◌, inl, inr, ℕ, ◌+◌, ◌-◌, ◌*◌, ◌≤◌, ◌<◌, true, if◌then◌else◌, List, [], ◌∷◌, ◌++◌, length, get_or, ap, ap₂, sym, refl, ◌∙◌, arith, append_assoc, ℤ}
use Rattle.std.proofs.lemmas.Bool.Decides.{nat_tests}
use Rattle.std.specs.Fmt.{signed_decimal}
use Rattle.std.specs.List.{flat_map}
use Rattle.term_core.specs.Integers.{has_64_bits}
use Rattle.term_core.specs.Meaning.{Meaning, Int, Atom, Ref, Pid, Tuple, Nil, Cons}
use Rattle.term_core.specs.TermText.{text_of_term, printed_byte}
use Rattle.term_reader.proofs.IntegerTexts.{integer_first}
use Rattle.term_reader.proofs.LeafTexts.{lacks-word, word_injective}
use Rattle.term_reader.proofs.QuotedTexts.{no_quote}
use Rattle.term_reader.proofs.Words.{word-append, behind_word-append}
use Rattle.term_reader.specs.Lawful.{IsLawful}
use Rattle.term_reader.specs.inside.Leaves.{Ends, word_of, behind_word, IsWord, IsLeaf}

-- BYTES OF ATOMS

-- the byte that an escape by a letter means
abbrev of_letter : ℕ → ℕ
of_letter l = if l == 98 then 8 else (if l == 116 then 9 else (if l == 110 then 10 else (if l == 118 then 11 else (if l == 102 then 12 else (if l == 114 then 13 else (if l == 101 then 27 else (if l == 100 then 127 else l)))))))

abbrev second : List ℕ → ℕ
second bytes = get_or bytes 1 0

-- the byte that is printed at the beginning of a text
abbrev printed_at : List ℕ → ℕ
printed_at bytes = if get_or bytes 0 0 == 92 then (if second bytes == 48 then (get_or bytes 2 0 - 48) * 8 + (get_or bytes 3 0 - 48) else of_letter (second bytes)) else get_or bytes 0 0

printed_at-printed : (byte : ℕ) (rest : List ℕ) → printed_at (printed_byte byte ++ rest) ≡ byte
printed_at-printed byte rest = grind (arith, nat_tests)

append_cancel : (a r s : List ℕ) → a ++ r ≡ a ++ s → r ≡ s
append_cancel [] r s e = e
append_cancel (x ∷ xs) r s e = append_cancel xs r s (cc)

printed_injective : (a b : ℕ) (r s : List ℕ) → printed_byte a ++ r ≡ printed_byte b ++ s → (a ≡ b) × (r ≡ s)
printed_injective a b r s e =
    let same : a ≡ b = sym (printed_at-printed a r) ∙ ap printed_at e ∙ printed_at-printed b s in
    (same, append_cancel (printed_byte b) r s (ap (λ c. printed_byte c ++ r) (sym same) ∙ e))

pub quoted_injective : (t u r s : List ℕ) → flat_map printed_byte t ++ 39 ∷ r ≡ flat_map printed_byte u ++ 39 ∷ s → (t ≡ u) × (r ≡ s)
quoted_injective [] [] r s e = (refl, cc)
quoted_injective [] (b ∷ u) r s e = absurd (no_quote b r (flat_map printed_byte u ++ 39 ∷ s) (e ∙ append_assoc (printed_byte b) (flat_map printed_byte u) (39 ∷ s)))
quoted_injective (a ∷ t) [] r s e = absurd (no_quote a s (flat_map printed_byte t ++ 39 ∷ r) (sym e ∙ append_assoc (printed_byte a) (flat_map printed_byte t) (39 ∷ r)))
quoted_injective (a ∷ t) (b ∷ u) r s e =
    let first = printed_injective a b (flat_map printed_byte t ++ 39 ∷ r) (flat_map printed_byte u ++ 39 ∷ s) (sym (append_assoc (printed_byte a) (flat_map printed_byte t) (39 ∷ r)) ∙ e ∙ append_assoc (printed_byte b) (flat_map printed_byte u) (39 ∷ s)) in
    let others = quoted_injective t u r s first.1 in
    (ap₂ ◌∷◌ first.0 others.0, others.1)

atom_injective : (t u r s : List ℕ) → text_of_term (Atom t) ++ r ≡ text_of_term (Atom u) ++ s → (Atom t ≡ Atom u) × (r ≡ s)
atom_injective t u r s e =
    let same : (flat_map printed_byte t ++ 39 ∷ []) ++ r ≡ (flat_map printed_byte u ++ 39 ∷ []) ++ s = cc in
    let k = quoted_injective t u r s (sym (append_assoc (flat_map printed_byte t) (39 ∷ []) r) ∙ same ∙ append_assoc (flat_map printed_byte u) (39 ∷ []) s) in
    (ap Atom k.0, k.1)

-- LEAVES

words_injective : (x y : Meaning) (r s : List ℕ) → IsWord x → IsWord y → IsLawful x → IsLawful y → Ends r → Ends s → text_of_term x ++ r ≡ text_of_term y ++ s → (x ≡ y) × (r ≡ s)
words_injective x y r s v w l j f g e =
    let a = lacks-word x v l in
    let b = lacks-word y w j in (
      word_injective x y v w l j (sym (word-append (text_of_term x) r a f) ∙ ap word_of e ∙ word-append (text_of_term y) s b g),
      sym (behind_word-append (text_of_term x) r a f) ∙ ap behind_word e ∙ behind_word-append (text_of_term y) s b g,
    )

first_of_integer : (ds behind r : List ℕ) (a : ℕ) → (0 < length ds) × (45 ≤ get_or ds 0 0) × (get_or ds 0 0 ≤ 57) → (a < 45) ⊎ (57 < a) → a ∷ r ≡ ds ++ behind → ⊥
first_of_integer [] behind r a f other e = omega (arith, f.0)
first_of_integer (d ∷ ds) behind r a f (inl low) e = omega (arith, f.1, ap (λ bs. get_or bs 0 0) e)
first_of_integer (d ∷ ds) behind r a f (inr high) e = omega (arith, f.2, ap (λ bs. get_or bs 0 0) e)

pub no_integer : (n : ℤ) (behind r : List ℕ) (a : ℕ) → has_64_bits n ≡ true → (a < 45) ⊎ (57 < a) → a ∷ r ≡ signed_decimal n ++ behind → ⊥
no_integer n behind r a h other e = first_of_integer (signed_decimal n) behind r a (integer_first n h) other e

pub first_bytes : (a b : ℕ) (r s : List ℕ) → a ≢ b → a ∷ r ≡ b ∷ s → ⊥
first_bytes a b r s other e = other (ap (λ bs. get_or bs 0 0) e)

pub leaves_injective : (x y : Meaning) (r s : List ℕ) → IsLeaf x → IsLeaf y → IsLawful x → IsLawful y → Ends r → Ends s → text_of_term x ++ r ≡ text_of_term y ++ s → (x ≡ y) × (r ≡ s)
leaves_injective (Int v) (Int w) r s h k l j f g e = words_injective (Int v) (Int w) r s tt tt l j f g e
leaves_injective (Int v) (Atom u) r s h k l j f g e = absurd (no_integer v r _ 39 l (inl (omega arith)) (sym e))
leaves_injective (Int v) (Ref q w) r s h k l j f g e = words_injective (Int v) (Ref q w) r s tt tt l j f g e
leaves_injective (Int v) (Pid q) r s h k l j f g e = words_injective (Int v) (Pid q) r s tt tt l j f g e
leaves_injective (Int v) (Tuple ns) r s h k l j f g e = absurd k
leaves_injective (Int v) Nil r s h k l j f g e = absurd k
leaves_injective (Int v) (Cons c d) r s h k l j f g e = absurd k
leaves_injective (Atom t) (Int w) r s h k l j f g e = absurd (no_integer w s _ 39 j (inl (omega arith)) e)
leaves_injective (Atom t) (Atom u) r s h k l j f g e = atom_injective t u r s e
leaves_injective (Atom t) (Ref q w) r s h k l j f g e = absurd (first_bytes 39 35 _ _ (omega arith) e)
leaves_injective (Atom t) (Pid q) r s h k l j f g e = absurd (first_bytes 39 80 _ _ (omega arith) e)
leaves_injective (Atom t) (Tuple ns) r s h k l j f g e = absurd k
leaves_injective (Atom t) Nil r s h k l j f g e = absurd k
leaves_injective (Atom t) (Cons c d) r s h k l j f g e = absurd k
leaves_injective (Ref p v) (Int w) r s h k l j f g e = words_injective (Ref p v) (Int w) r s tt tt l j f g e
leaves_injective (Ref p v) (Atom u) r s h k l j f g e = absurd (first_bytes 35 39 _ _ (omega arith) e)
leaves_injective (Ref p v) (Ref q w) r s h k l j f g e = words_injective (Ref p v) (Ref q w) r s tt tt l j f g e
leaves_injective (Ref p v) (Pid q) r s h k l j f g e = words_injective (Ref p v) (Pid q) r s tt tt l j f g e
leaves_injective (Ref p v) (Tuple ns) r s h k l j f g e = absurd k
leaves_injective (Ref p v) Nil r s h k l j f g e = absurd k
leaves_injective (Ref p v) (Cons c d) r s h k l j f g e = absurd k
leaves_injective (Pid p) (Int w) r s h k l j f g e = words_injective (Pid p) (Int w) r s tt tt l j f g e
leaves_injective (Pid p) (Atom u) r s h k l j f g e = absurd (first_bytes 80 39 _ _ (omega arith) e)
leaves_injective (Pid p) (Ref q w) r s h k l j f g e = words_injective (Pid p) (Ref q w) r s tt tt l j f g e
leaves_injective (Pid p) (Pid q) r s h k l j f g e = words_injective (Pid p) (Pid q) r s tt tt l j f g e
leaves_injective (Pid p) (Tuple ns) r s h k l j f g e = absurd k
leaves_injective (Pid p) Nil r s h k l j f g e = absurd k
leaves_injective (Pid p) (Cons c d) r s h k l j f g e = absurd k
leaves_injective (Tuple ms) y r s h k l j f g e = absurd h
leaves_injective Nil y r s h k l j f g e = absurd h
leaves_injective (Cons a b) y r s h k l j f g e = absurd h

-- an atom and another leaf, whatever follows
pub atoms_injective : (t : List ℕ) (m : Meaning) (r s : List ℕ) → IsLeaf m → IsLawful m → text_of_term (Atom t) ++ r ≡ text_of_term m ++ s → (Atom t ≡ m) × (r ≡ s)
atoms_injective t (Int w) r s h l e = absurd (no_integer w s _ 39 l (inl (omega arith)) e)
atoms_injective t (Atom u) r s h l e = atom_injective t u r s e
atoms_injective t (Ref q w) r s h l e = absurd (first_bytes 39 35 _ _ (omega arith) e)
atoms_injective t (Pid q) r s h l e = absurd (first_bytes 39 80 _ _ (omega arith) e)
atoms_injective t (Tuple ms) r s h l e = absurd h
atoms_injective t Nil r s h l e = absurd h
atoms_injective t (Cons a b) r s h l e = absurd h

pub leaf_byte : (x : Meaning) (r : List ℕ) → IsLeaf x → IsLawful x → get_or (text_of_term x ++ r) 0 0 ≤ 80
leaf_byte (Int v) r h l = low (signed_decimal v) (integer_first v l)
  where
    low : (ds : List ℕ) → (0 < length ds) × (45 ≤ get_or ds 0 0) × (get_or ds 0 0 ≤ 57) → get_or (ds ++ r) 0 0 ≤ 80
    low [] f = absurd (omega (arith, f.0))
    low (d ∷ ds) f = omega (arith, f.2)
leaf_byte (Atom t) r h l = omega arith
leaf_byte (Ref p v) r h l = omega arith
leaf_byte (Pid p) r h l = omega arith
leaf_byte (Tuple ms) r h l = absurd h
leaf_byte Nil r h l = absurd h
leaf_byte (Cons a b) r h l = absurd h
