-- The texts of leaves.
use Rattle.std.proofs.Common.{◌≡◌, ◌≢◌, ℕ, suc, ◌≤◌, ◌<◌, ◌^◌, true, false, List, [], ◌∷◌, ◌++◌, length, get_or, slice_index, ap, ap₂, sym, refl, ◌∙◌, arith, ne_eqb, append-nil, ℤ, pos, negsuc, length-append}
use Rattle.std.proofs.lemmas.Fmt.{signed_decimal_injective}
use Rattle.std.specs.Fmt.{decimal, signed_decimal}
use Rattle.term_core.proofs.NumberTexts.{IsDigit, all_digits-decimal}
use Rattle.term_core.proofs.Pieces.{all-append, all_weaker}
use Rattle.term_core.specs.Integers.{has_64_bits}
use Rattle.term_core.specs.Meaning.{Meaning, Int, Atom, Ref, Pid, Tuple, Nil, Cons}
use Rattle.term_core.specs.TermText.{text_of_term}
use Rattle.term_reader.proofs.DottedTexts.{numbers_injective, text_of_numbers-push}
use Rattle.term_reader.proofs.IntegerTexts.{integer_first, bits_below, bits_below_negative}
use Rattle.term_reader.proofs.Words.{LacksMarks}
use Rattle.term_reader.specs.Lawful.{AreNumbers, IsLawful, marks}
use Rattle.term_reader.specs.inside.Leaves.{text_of_numbers, IsWord, IsLeaf}

-- BYTES OF WORDS

no_mark : (byte : ℕ) → byte ≢ 44 → byte < 93 → marks byte ≡ false
no_mark byte other low = rw (ne_eqb byte 44 other, ne_eqb byte 93 (omega arith), ne_eqb byte 124 (omega arith), ne_eqb byte 125 (omega arith)) refl

lacks-decimal : (n : ℕ) → n < 2 ^ 64 → LacksMarks (decimal n)
lacks-decimal n h = all_weaker IsDigit (λ byte. marks byte ≡ false) (λ byte d. no_mark byte (omega arith) (omega arith)) (decimal n) (all_digits-decimal n h)

lacks-integer : (n : ℤ) → has_64_bits n ≡ true → LacksMarks (signed_decimal n)
lacks-integer (pos n) h = lacks-decimal n (omega (arith, bits_below n h))
lacks-integer (negsuc n) h = (refl, lacks-decimal (suc n) (omega (arith, bits_below_negative n h)))

lacks-numbers : (ns : List ℕ) → AreNumbers ns → LacksMarks (text_of_numbers ns)
lacks-numbers [] h = tt
lacks-numbers (n ∷ ns) h = (refl, all-append (λ byte. marks byte ≡ false) (decimal n) (text_of_numbers ns) (lacks-decimal n h.0) (lacks-numbers ns h.1))

-- no byte of the text of a word is a mark
pub lacks-word : (m : Meaning) → IsWord m → IsLawful m → LacksMarks (text_of_term m)
lacks-word (Int n) w l = lacks-integer n l
lacks-word (Atom t) w l = absurd w
lacks-word (Ref p n) w l = (refl, (refl, all-append (λ byte. marks byte ≡ false) (text_of_numbers p) (46 ∷ decimal n) (lacks-numbers p l.0) (refl, lacks-decimal n l.1)))
lacks-word (Pid p) w l = (refl, lacks-numbers p l)
lacks-word (Tuple parts) w l = absurd w
lacks-word Nil w l = absurd w
lacks-word (Cons h t) w l = absurd w

-- ONE TEXT, ONE WORD

pub not_that : (ds r : List ℕ) (a : ℕ) → (0 < length ds) × (45 ≤ get_or ds 0 0) × (get_or ds 0 0 ≤ 57) → (a < 45) → a ∷ r ≡ ds → ⊥
not_that ds r a first low e = omega (arith, first.1, ap (λ w. get_or w 0 0) e)

pub not_this : (ds r : List ℕ) (a : ℕ) → (0 < length ds) × (45 ≤ get_or ds 0 0) × (get_or ds 0 0 ≤ 57) → (57 < a) → a ∷ r ≡ ds → ⊥
not_this ds r a first high e = omega (arith, first.2, ap (λ w. get_or w 0 0) e)

same_last : (xs ys : List ℕ) (x y : ℕ) → xs ++ x ∷ [] ≡ ys ++ y ∷ [] → (xs ≡ ys) × (x ≡ y)
same_last [] [] x y e = (refl, cc)
same_last [] (b ∷ ys) x y e = absurd (omega (arith, ap length e, length-append ys (y ∷ [])))
same_last (a ∷ xs) [] x y e = absurd (omega (arith, ap length e, length-append xs (x ∷ [])))
same_last (a ∷ xs) (b ∷ ys) x y e =
    let first : a ≡ b = cc in
    let rest : xs ++ x ∷ [] ≡ ys ++ y ∷ [] = cc in
    let same = same_last xs ys x y rest in (ap₂ ◌∷◌ first same.0, same.1)

-- the number of a reference is one more after those of its pid
pub numbers_of_reference : (p : List ℕ) (n : ℕ) → text_of_numbers p ++ 46 ∷ decimal n ≡ text_of_numbers (p ++ n ∷ [])
numbers_of_reference p n = ap (λ w. text_of_numbers p ++ 46 ∷ w) (sym (append-nil (decimal n))) ∙ sym (text_of_numbers-push p n []) ∙ append-nil (text_of_numbers (p ++ n ∷ []))

pub all_numbers : (p : List ℕ) (n : ℕ) → AreNumbers p → n < 2 ^ 64 → AreNumbers (p ++ n ∷ [])
all_numbers p n h k = all-append (λ i. i < 2 ^ 64) p (n ∷ []) h (k, tt)

same_reference : (p q : List ℕ) (n k : ℕ) → AreNumbers p → AreNumbers q → n < 2 ^ 64 → k < 2 ^ 64 → text_of_numbers p ++ 46 ∷ decimal n ≡ text_of_numbers q ++ 46 ∷ decimal k → (p ≡ q) × (n ≡ k)
same_reference p q n k h j low small e =
    same_last p q n k (numbers_injective (p ++ n ∷ []) (q ++ k ∷ []) (all_numbers p n h low) (all_numbers q k j small) (sym (numbers_of_reference p n) ∙ e ∙ numbers_of_reference q k))

same_integer : (n k : ℤ) → has_64_bits n ≡ true → has_64_bits k ≡ true → signed_decimal n ≡ signed_decimal k → n ≡ k
same_integer (pos n) (pos k) h j e = signed_decimal_injective (pos n) (pos k) (bits_below n h) (bits_below k j) e
same_integer (pos n) (negsuc k) h j e = signed_decimal_injective (pos n) (negsuc k) (bits_below n h) (bits_below_negative k j) e
same_integer (negsuc n) (pos k) h j e = signed_decimal_injective (negsuc n) (pos k) (bits_below_negative n h) (bits_below k j) e
same_integer (negsuc n) (negsuc k) h j e = signed_decimal_injective (negsuc n) (negsuc k) (bits_below_negative n h) (bits_below_negative k j) e

-- two lawful words with one text are one
pub word_injective : (x y : Meaning) → IsWord x → IsWord y → IsLawful x → IsLawful y → text_of_term x ≡ text_of_term y → x ≡ y
word_injective (Int n) (Int k) v w l j e = ap Int (same_integer n k l j e)
word_injective (Int n) (Ref q k) v w l j e = absurd (not_that _ _ 35 (integer_first n l) (omega arith) (sym e))
word_injective (Int n) (Pid q) v w l j e = absurd (not_this _ _ 80 (integer_first n l) (omega arith) (sym e))
word_injective (Ref p n) (Int k) v w l j e = absurd (not_that _ _ 35 (integer_first k j) (omega arith) e)
word_injective (Ref p n) (Ref q k) v w l j e = let same = same_reference p q n k l.0 j.0 l.1 j.1 (cc) in ap₂ Ref same.0 same.1
word_injective (Ref p n) (Pid q) v w l j e = absurd (omega (arith, ap (λ bs. get_or bs 0 0) e))
word_injective (Pid p) (Int k) v w l j e = absurd (not_this _ _ 80 (integer_first k j) (omega arith) e)
word_injective (Pid p) (Ref q k) v w l j e = absurd (omega (arith, ap (λ bs. get_or bs 0 0) e))
word_injective (Pid p) (Pid q) v w l j e = ap Pid (numbers_injective p q l j (cc))
word_injective (Int n) (Atom t) v w l j e = absurd w
word_injective (Int n) (Tuple t) v w l j e = absurd w
word_injective (Int n) Nil v w l j e = absurd w
word_injective (Int n) (Cons h t) v w l j e = absurd w
word_injective (Ref p n) (Atom t) v w l j e = absurd w
word_injective (Ref p n) (Tuple t) v w l j e = absurd w
word_injective (Ref p n) Nil v w l j e = absurd w
word_injective (Ref p n) (Cons h t) v w l j e = absurd w
word_injective (Pid p) (Atom t) v w l j e = absurd w
word_injective (Pid p) (Tuple t) v w l j e = absurd w
word_injective (Pid p) Nil v w l j e = absurd w
word_injective (Pid p) (Cons h t) v w l j e = absurd w
word_injective (Atom s) y v w l j e = absurd v
word_injective (Tuple s) y v w l j e = absurd v
word_injective Nil y v w l j e = absurd v
word_injective (Cons a b) y v w l j e = absurd v

-- LEAVES

pub leaf_of_word : (m : Meaning) → IsWord m → IsLeaf m
leaf_of_word (Int n) w = tt
leaf_of_word (Atom t) w = absurd w
leaf_of_word (Ref p n) w = tt
leaf_of_word (Pid p) w = tt
leaf_of_word (Tuple parts) w = absurd w
leaf_of_word Nil w = absurd w
leaf_of_word (Cons h t) w = absurd w

-- a leaf that begins with no quote is a word
pub word_of_leaf : (m : Meaning) (text rest : List ℕ) → slice_index text 0 ≢ 39 → IsLeaf m → text ≡ text_of_term m ++ rest → IsWord m
word_of_leaf (Int n) text rest other l e = tt
word_of_leaf (Atom t) text rest other l e = absurd (other (ap (λ bs. get_or bs 0 0) e))
word_of_leaf (Ref p n) text rest other l e = tt
word_of_leaf (Pid p) text rest other l e = tt
word_of_leaf (Tuple parts) text rest other l e = absurd l
word_of_leaf Nil text rest other l e = absurd l
word_of_leaf (Cons h t) text rest other l e = absurd l
