-- The leaves that are read at the beginning of a text.
use Rattle.std.proofs.Common.{◌≡◌, ◌≢◌, inl, ℕ, ◌<◌, List, [], ◌∷◌, ◌++◌, length, get_or, slice_index, ap, sym, ◌∙◌, subst, arith, append_assoc, IsUtf8, length-append}
use Rattle.std.specs.Fmt.{decimal}
use Rattle.std.specs.List.{flat_map}
use Rattle.term_core.specs.Meaning.{Meaning, Int, Atom, Ref, Pid, Tuple, Nil, Cons}
use Rattle.term_core.specs.TermText.{text_of_term, printed_byte}
use Rattle.term_reader.proofs.IntegerTexts.{integer_first}
use Rattle.term_reader.proofs.Items.{alike_ends, alike_items, alike_other, item_quote, same_word}
use Rattle.term_reader.proofs.LeafLaws.{atoms_injective, leaves_injective, no_integer}
use Rattle.term_reader.proofs.LeafTexts.{all_numbers, lacks-word, leaf_of_word, not_that, not_this, numbers_of_reference, word_of_leaf}
use Rattle.term_reader.proofs.Words.{behind_word_ends, word-append, word-append-behind}
use Rattle.term_reader.specs.Lawful.{AreNumbers, IsLawful}
use Rattle.term_reader.specs.inside.Bytes.{ReadsBytes}
use Rattle.term_reader.specs.inside.Leaves.{text_of_numbers, word_of, behind_word, IsWord, IsLeaf, Reads, NoLeaf}

-- WORDS

-- a word that is the text of a term
pub reads_word : (text : List ℕ) (x : Meaning) → slice_index text 0 ≢ 39 → IsWord x → IsLawful x → word_of text ≡ text_of_term x → Reads text x (behind_word text)
reads_word text x other w l f = record {
  leaf = leaf_of_word x w;
  lawful = l;
  parts = sym (word-append-behind text) ∙ ap (λ a. a ++ behind_word text) f;
  only = λ left m rest alike leaf j ends e. leaves_injective x m left rest (leaf_of_word x w) leaf l j (alike_ends (behind_word text) left alike (behind_word_ends text)) ends e;
}

-- and one that is none
pub no_word : (text : List ℕ) → slice_index text 0 ≢ 39 → ((m : Meaning) → IsWord m → IsLawful m → word_of text ≡ text_of_term m → ⊥) → NoLeaf text
no_word text other none = λ o m rest item leaf j ends e.
    let v = word_of_leaf m o rest (alike_other text o 39 (alike_items text o item) other) leaf e in
    none m v j (sym (same_word text o other item) ∙ ap word_of e ∙ word-append (text_of_term m) rest (lacks-word m v j) ends)

-- PIDS AND REFERENCES

pub no_pid : (text : List ℕ) → ((ns : List ℕ) → AreNumbers ns → text ≡ text_of_numbers ns → ⊥) → (m : Meaning) → IsWord m → IsLawful m → 80 ∷ text ≡ text_of_term m → ⊥
no_pid text none (Int n) w l e = not_this _ _ 80 (integer_first n l) (omega arith) e
no_pid text none (Atom t) w l e = w
no_pid text none (Ref p n) w l e = omega (arith, ap (λ bs. get_or bs 0 0) e)
no_pid text none (Pid p) w l e = none p l (cc)
no_pid text none (Tuple parts) w l e = w
no_pid text none Nil w l e = w
no_pid text none (Cons h t) w l e = w

-- a reference is a pid with a number more
reference_is : (text : List ℕ) (m : Meaning) → IsWord m → IsLawful m → 35 ∷ text ≡ text_of_term m → (p : List ℕ) × (n : ℕ) × AreNumbers (p ++ n ∷ []) × (text ≡ 80 ∷ text_of_numbers (p ++ n ∷ []))
reference_is text (Int n) w l e = absurd (not_that _ _ 35 (integer_first n l) (omega arith) e)
reference_is text (Atom t) w l e = absurd w
reference_is text (Ref p n) w l e =
    let same : text ≡ 80 ∷ (text_of_numbers p ++ 46 ∷ decimal n) = cc in
    (p, n, all_numbers p n l.0 l.1, same ∙ ap (λ w. 80 ∷ w) (numbers_of_reference p n))
reference_is text (Pid p) w l e = absurd (omega (arith, ap (λ bs. get_or bs 0 0) e))
reference_is text (Tuple parts) w l e = absurd w
reference_is text Nil w l e = absurd w
reference_is text (Cons h t) w l e = absurd w

pub no_reference_pid : (text : List ℕ) → slice_index text 0 ≢ 80 → (m : Meaning) → IsWord m → IsLawful m → 35 ∷ text ≡ text_of_term m → ⊥
no_reference_pid text other m w l e = let r = reference_is text m w l e in other (ap (λ bs. get_or bs 0 0) r.3)

pub no_reference_numbers : (text numbers : List ℕ) → text ≡ 80 ∷ numbers → ((ns : List ℕ) → AreNumbers ns → numbers ≡ text_of_numbers ns → ⊥) → (m : Meaning) → IsWord m → IsLawful m → 35 ∷ text ≡ text_of_term m → ⊥
no_reference_numbers text numbers f none m w l e = let r = reference_is text m w l e in let same = sym f ∙ r.3 in none (r.0 ++ r.1 ∷ []) r.2 (cc)

pub no_reference_number : (text numbers : List ℕ) → text ≡ 80 ∷ numbers → numbers ≡ [] → (m : Meaning) → IsWord m → IsLawful m → 35 ∷ text ≡ text_of_term m → ⊥
no_reference_number text numbers f none m w l e =
    let r = reference_is text m w l e in
    let same = sym f ∙ r.3 ∙ ap (λ w. 80 ∷ w) (sym (numbers_of_reference r.0 r.1)) in
    omega (arith, ap length same, ap length none, length-append (text_of_numbers r.0) (46 ∷ decimal r.1))

-- ATOMS

only_atom : (inside bytes behind : List ℕ) → ReadsBytes inside bytes behind → (m : Meaning) (rest : List ℕ) → IsLeaf m → IsLawful m → 39 ∷ inside ≡ text_of_term m ++ rest → (Atom bytes ≡ m) × (behind ≡ rest)
only_atom inside bytes behind r (Int n) rest leaf l e = absurd (no_integer n rest inside 39 l (inl (omega arith)) e)
only_atom inside bytes behind r (Atom t) rest leaf l e =
    let same : inside ≡ (flat_map printed_byte t ++ 39 ∷ []) ++ rest = cc in
    let is = r.only t rest (same ∙ append_assoc (flat_map printed_byte t) (39 ∷ []) rest) in
    (ap Atom is.0, is.1)
only_atom inside bytes behind r (Ref p n) rest leaf l e = absurd (omega (arith, ap (λ bs. get_or bs 0 0) e))
only_atom inside bytes behind r (Pid p) rest leaf l e = absurd (omega (arith, ap (λ bs. get_or bs 0 0) e))
only_atom inside bytes behind r (Tuple parts) rest leaf l e = absurd leaf
only_atom inside bytes behind r Nil rest leaf l e = absurd leaf
only_atom inside bytes behind r (Cons h t) rest leaf l e = absurd leaf

pub reads_atom : (inside bytes behind : List ℕ) → ReadsBytes inside bytes behind → IsUtf8 bytes → Reads (39 ∷ inside) (Atom bytes) behind
reads_atom inside bytes behind r text = record {
  leaf = tt;
  lawful = text;
  parts = ap (λ w. 39 ∷ w) (r.parts ∙ sym (append_assoc (flat_map printed_byte bytes) (39 ∷ []) behind));
  only = λ left m rest alike leaf l ends e. atoms_injective bytes m left rest leaf l e;
}

-- bytes that are no text are no atom
pub no_text : (inside bytes behind : List ℕ) → ReadsBytes inside bytes behind → ¬ (IsUtf8 bytes) → NoLeaf (39 ∷ inside)
no_text inside bytes behind r none = λ other m rest item leaf l ends e.
    let is = only_atom inside bytes behind r m rest leaf l (sym (item_quote inside other item) ∙ e) in
    none (subst IsLawful (sym is.0) l)

-- nor is what has no closing quote
pub no_atom : (inside : List ℕ) → ((others rest : List ℕ) → inside ≡ flat_map printed_byte others ++ 39 ∷ rest → ⊥) → NoLeaf (39 ∷ inside)
no_atom inside none other m rest item leaf l ends e = no_leaf m leaf l (sym (item_quote inside other item) ∙ e)
  where
    no_leaf : (m : Meaning) → IsLeaf m → IsLawful m → 39 ∷ inside ≡ text_of_term m ++ rest → ⊥
    no_leaf (Int n) leaf l e = no_integer n rest inside 39 l (inl (omega arith)) e
    no_leaf (Atom t) leaf l e = let same : inside ≡ (flat_map printed_byte t ++ 39 ∷ []) ++ rest = cc in none t rest (same ∙ append_assoc (flat_map printed_byte t) (39 ∷ []) rest)
    no_leaf (Ref p n) leaf l e = omega (arith, ap (λ bs. get_or bs 0 0) e)
    no_leaf (Pid p) leaf l e = omega (arith, ap (λ bs. get_or bs 0 0) e)
    no_leaf (Tuple parts) leaf l e = leaf
    no_leaf Nil leaf l e = leaf
    no_leaf (Cons h t) leaf l e = leaf

pub reads_atom_as : (inside bytes behind text : List ℕ) (x : Meaning) → ReadsBytes inside bytes behind → bytes ≡ text → IsUtf8 text → x ≡ Atom text → Reads (39 ∷ inside) x behind
reads_atom_as inside bytes behind text x r e utf8 f = subst (λ (m : Meaning). Reads (39 ∷ inside) m behind) (ap Atom e ∙ sym f) (reads_atom inside bytes behind r (subst IsUtf8 (sym e) utf8))

leaf_some : (m : Meaning) → IsLeaf m → IsLawful m → 0 < length (text_of_term m)
leaf_some (Int n) leaf l = (integer_first n l).0
leaf_some (Atom t) leaf l = omega arith
leaf_some (Ref p n) leaf l = omega arith
leaf_some (Pid p) leaf l = omega arith
leaf_some (Tuple parts) leaf l = absurd leaf
leaf_some Nil leaf l = absurd leaf
leaf_some (Cons h t) leaf l = absurd leaf

-- a leaf that was read leaves fewer bytes
pub leaf_shortens : (text : List ℕ) (x : Meaning) (behind : List ℕ) → Reads text x behind → length behind < length text
leaf_shortens text x behind r = omega (arith, ap length r.parts, length-append (text_of_term x) behind, leaf_some x r.leaf r.lawful)
