-- A text is that of one lawful term alone.
use Rattle.std.proofs.Common.{◌≡◌, ℕ, List, [], ◌∷◌, ◌++◌, get_or, ap, ap₂, sym, refl, ◌∙◌, arith, append_assoc}
use Rattle.term_core.specs.Meaning.{Meaning, Meanings, Int, Atom, Ref, Pid, Tuple, Nil, Cons, NoMore, Also}
use Rattle.term_core.specs.TermText.{text_of_term, text_of_tail, text_of_tuple, text_of_others}
use Rattle.term_reader.proofs.LeafLaws.{first_bytes, leaf_byte, leaves_injective}
use Rattle.term_reader.proofs.Marks.{never_first, others_ends, tail_ends, bar_text, IsLast}
use Rattle.term_reader.specs.Lawful.{IsLawful, AreLawful}
use Rattle.term_reader.specs.inside.Leaves.{Ends}

tuple_byte : (ms : Meanings) (r : List ℕ) → get_or (text_of_tuple ms ++ r) 0 0 ≡ 123
tuple_byte NoMore r = refl
tuple_byte (Also m ms) r = refl

-- two last tails after bars
bars : (x y : Meaning) (r s : List ℕ) → IsLast x → IsLast y → text_of_tail x ++ r ≡ text_of_tail y ++ s → text_of_term x ++ 93 ∷ r ≡ text_of_term y ++ 93 ∷ s
bars x y r s v w e = let same = sym (bar_text x r v) ∙ e ∙ bar_text y s w in cc

behind_bars : {X : Type 0} (x y : X) (r s : List ℕ) → (x ≡ y) × (93 ∷ r ≡ 93 ∷ s) → (x ≡ y) × (r ≡ s)
behind_bars x y r s k = let behind : 93 ∷ r ≡ 93 ∷ s = k.1 in (k.0, cc)

mutual
  one_term : (x y : Meaning) (r s : List ℕ) → IsLawful x → IsLawful y → Ends r → Ends s → text_of_term x ++ r ≡ text_of_term y ++ s → (x ≡ y) × (r ≡ s)
  one_term (Int v) (Int w) r s l j f g e = leaves_injective (Int v) (Int w) r s tt tt l j f g e
  one_term (Int v) (Atom u) r s l j f g e = leaves_injective (Int v) (Atom u) r s tt tt l j f g e
  one_term (Int v) (Ref q w) r s l j f g e = leaves_injective (Int v) (Ref q w) r s tt tt l j f g e
  one_term (Int v) (Pid q) r s l j f g e = leaves_injective (Int v) (Pid q) r s tt tt l j f g e
  one_term (Int v) (Tuple ns) r s l j f g e = absurd (omega (arith, leaf_byte (Int v) r tt l, tuple_byte ns s, ap (λ bs. get_or bs 0 0) e))
  one_term (Int v) Nil r s l j f g e = absurd (omega (arith, leaf_byte (Int v) r tt l, ap (λ bs. get_or bs 0 0) e))
  one_term (Int v) (Cons c d) r s l j f g e = absurd (omega (arith, leaf_byte (Int v) r tt l, ap (λ bs. get_or bs 0 0) e))
  one_term (Atom t) (Int w) r s l j f g e = leaves_injective (Atom t) (Int w) r s tt tt l j f g e
  one_term (Atom t) (Atom u) r s l j f g e = leaves_injective (Atom t) (Atom u) r s tt tt l j f g e
  one_term (Atom t) (Ref q w) r s l j f g e = leaves_injective (Atom t) (Ref q w) r s tt tt l j f g e
  one_term (Atom t) (Pid q) r s l j f g e = leaves_injective (Atom t) (Pid q) r s tt tt l j f g e
  one_term (Atom t) (Tuple ns) r s l j f g e = absurd (omega (arith, leaf_byte (Atom t) r tt l, tuple_byte ns s, ap (λ bs. get_or bs 0 0) e))
  one_term (Atom t) Nil r s l j f g e = absurd (omega (arith, leaf_byte (Atom t) r tt l, ap (λ bs. get_or bs 0 0) e))
  one_term (Atom t) (Cons c d) r s l j f g e = absurd (omega (arith, leaf_byte (Atom t) r tt l, ap (λ bs. get_or bs 0 0) e))
  one_term (Ref p v) (Int w) r s l j f g e = leaves_injective (Ref p v) (Int w) r s tt tt l j f g e
  one_term (Ref p v) (Atom u) r s l j f g e = leaves_injective (Ref p v) (Atom u) r s tt tt l j f g e
  one_term (Ref p v) (Ref q w) r s l j f g e = leaves_injective (Ref p v) (Ref q w) r s tt tt l j f g e
  one_term (Ref p v) (Pid q) r s l j f g e = leaves_injective (Ref p v) (Pid q) r s tt tt l j f g e
  one_term (Ref p v) (Tuple ns) r s l j f g e = absurd (omega (arith, leaf_byte (Ref p v) r tt l, tuple_byte ns s, ap (λ bs. get_or bs 0 0) e))
  one_term (Ref p v) Nil r s l j f g e = absurd (omega (arith, leaf_byte (Ref p v) r tt l, ap (λ bs. get_or bs 0 0) e))
  one_term (Ref p v) (Cons c d) r s l j f g e = absurd (omega (arith, leaf_byte (Ref p v) r tt l, ap (λ bs. get_or bs 0 0) e))
  one_term (Pid p) (Int w) r s l j f g e = leaves_injective (Pid p) (Int w) r s tt tt l j f g e
  one_term (Pid p) (Atom u) r s l j f g e = leaves_injective (Pid p) (Atom u) r s tt tt l j f g e
  one_term (Pid p) (Ref q w) r s l j f g e = leaves_injective (Pid p) (Ref q w) r s tt tt l j f g e
  one_term (Pid p) (Pid q) r s l j f g e = leaves_injective (Pid p) (Pid q) r s tt tt l j f g e
  one_term (Pid p) (Tuple ns) r s l j f g e = absurd (omega (arith, leaf_byte (Pid p) r tt l, tuple_byte ns s, ap (λ bs. get_or bs 0 0) e))
  one_term (Pid p) Nil r s l j f g e = absurd (omega (arith, leaf_byte (Pid p) r tt l, ap (λ bs. get_or bs 0 0) e))
  one_term (Pid p) (Cons c d) r s l j f g e = absurd (omega (arith, leaf_byte (Pid p) r tt l, ap (λ bs. get_or bs 0 0) e))
  one_term (Tuple ms) (Int w) r s l j f g e = absurd (omega (arith, leaf_byte (Int w) s tt j, tuple_byte ms r, ap (λ bs. get_or bs 0 0) e))
  one_term (Tuple ms) (Atom u) r s l j f g e = absurd (omega (arith, leaf_byte (Atom u) s tt j, tuple_byte ms r, ap (λ bs. get_or bs 0 0) e))
  one_term (Tuple ms) (Ref q w) r s l j f g e = absurd (omega (arith, leaf_byte (Ref q w) s tt j, tuple_byte ms r, ap (λ bs. get_or bs 0 0) e))
  one_term (Tuple ms) (Pid q) r s l j f g e = absurd (omega (arith, leaf_byte (Pid q) s tt j, tuple_byte ms r, ap (λ bs. get_or bs 0 0) e))
  one_term (Tuple ms) (Tuple ns) r s l j f g e = let k = one_tuple ms ns r s l j e in (ap Tuple k.0, k.1)
  one_term (Tuple ms) Nil r s l j f g e = absurd (omega (arith, tuple_byte ms r, ap (λ bs. get_or bs 0 0) e))
  one_term (Tuple ms) (Cons c d) r s l j f g e = absurd (omega (arith, tuple_byte ms r, ap (λ bs. get_or bs 0 0) e))
  one_term Nil (Int w) r s l j f g e = absurd (omega (arith, leaf_byte (Int w) s tt j, ap (λ bs. get_or bs 0 0) e))
  one_term Nil (Atom u) r s l j f g e = absurd (omega (arith, leaf_byte (Atom u) s tt j, ap (λ bs. get_or bs 0 0) e))
  one_term Nil (Ref q w) r s l j f g e = absurd (omega (arith, leaf_byte (Ref q w) s tt j, ap (λ bs. get_or bs 0 0) e))
  one_term Nil (Pid q) r s l j f g e = absurd (omega (arith, leaf_byte (Pid q) s tt j, ap (λ bs. get_or bs 0 0) e))
  one_term Nil (Tuple ns) r s l j f g e = absurd (omega (arith, tuple_byte ns s, ap (λ bs. get_or bs 0 0) e))
  one_term Nil Nil r s l j f g e = (refl, cc)
  one_term Nil (Cons c d) r s l j f g e = let same : 93 ∷ r ≡ (text_of_term c ++ text_of_tail d) ++ s = cc in absurd (never_first c 93 r (text_of_tail d ++ s) j.0 (omega arith) (omega arith) (omega arith) (same ∙ append_assoc (text_of_term c) (text_of_tail d) s))
  one_term (Cons a b) (Int w) r s l j f g e = absurd (omega (arith, leaf_byte (Int w) s tt j, ap (λ bs. get_or bs 0 0) e))
  one_term (Cons a b) (Atom u) r s l j f g e = absurd (omega (arith, leaf_byte (Atom u) s tt j, ap (λ bs. get_or bs 0 0) e))
  one_term (Cons a b) (Ref q w) r s l j f g e = absurd (omega (arith, leaf_byte (Ref q w) s tt j, ap (λ bs. get_or bs 0 0) e))
  one_term (Cons a b) (Pid q) r s l j f g e = absurd (omega (arith, leaf_byte (Pid q) s tt j, ap (λ bs. get_or bs 0 0) e))
  one_term (Cons a b) (Tuple ns) r s l j f g e = absurd (omega (arith, tuple_byte ns s, ap (λ bs. get_or bs 0 0) e))
  one_term (Cons a b) Nil r s l j f g e = let same : 93 ∷ s ≡ (text_of_term a ++ text_of_tail b) ++ r = cc in absurd (never_first a 93 s (text_of_tail b ++ r) l.0 (omega arith) (omega arith) (omega arith) (same ∙ append_assoc (text_of_term a) (text_of_tail b) r))
  one_term (Cons a b) (Cons c d) r s l j f g e =
      let same : (text_of_term a ++ text_of_tail b) ++ r ≡ (text_of_term c ++ text_of_tail d) ++ s = cc in
      let first = one_term a c (text_of_tail b ++ r) (text_of_tail d ++ s) l.0 j.0 (tail_ends b r) (tail_ends d s) (sym (append_assoc (text_of_term a) (text_of_tail b) r) ∙ same ∙ append_assoc (text_of_term c) (text_of_tail d) s) in
      let rest = one_tail b d r s l.1 j.1 first.1 in
      (ap₂ Cons first.0 rest.0, rest.1)

  one_tuple : (ms ns : Meanings) (r s : List ℕ) → AreLawful ms → AreLawful ns → text_of_tuple ms ++ r ≡ text_of_tuple ns ++ s → (ms ≡ ns) × (r ≡ s)
  one_tuple NoMore NoMore r s l j e = (refl, cc)
  one_tuple NoMore (Also n ns) r s l j e = let same : 125 ∷ r ≡ (text_of_term n ++ text_of_others ns) ++ s = cc in absurd (never_first n 125 r (text_of_others ns ++ s) j.0 (omega arith) (omega arith) (omega arith) (same ∙ append_assoc (text_of_term n) (text_of_others ns) s))
  one_tuple (Also m ms) NoMore r s l j e = let same : 125 ∷ s ≡ (text_of_term m ++ text_of_others ms) ++ r = cc in absurd (never_first m 125 s (text_of_others ms ++ r) l.0 (omega arith) (omega arith) (omega arith) (same ∙ append_assoc (text_of_term m) (text_of_others ms) r))
  one_tuple (Also m ms) (Also n ns) r s l j e =
      let same : (text_of_term m ++ text_of_others ms) ++ r ≡ (text_of_term n ++ text_of_others ns) ++ s = cc in
      let first = one_term m n (text_of_others ms ++ r) (text_of_others ns ++ s) l.0 j.0 (others_ends ms r) (others_ends ns s) (sym (append_assoc (text_of_term m) (text_of_others ms) r) ∙ same ∙ append_assoc (text_of_term n) (text_of_others ns) s) in
      let rest = one_others ms ns r s l.1 j.1 first.1 in
      (ap₂ Also first.0 rest.0, rest.1)

  one_others : (ms ns : Meanings) (r s : List ℕ) → AreLawful ms → AreLawful ns → text_of_others ms ++ r ≡ text_of_others ns ++ s → (ms ≡ ns) × (r ≡ s)
  one_others NoMore NoMore r s l j e = (refl, cc)
  one_others NoMore (Also n ns) r s l j e = absurd (first_bytes 125 44 _ _ (omega arith) e)
  one_others (Also m ms) NoMore r s l j e = absurd (first_bytes 44 125 _ _ (omega arith) e)
  one_others (Also m ms) (Also n ns) r s l j e =
      let same : (text_of_term m ++ text_of_others ms) ++ r ≡ (text_of_term n ++ text_of_others ns) ++ s = cc in
      let first = one_term m n (text_of_others ms ++ r) (text_of_others ns ++ s) l.0 j.0 (others_ends ms r) (others_ends ns s) (sym (append_assoc (text_of_term m) (text_of_others ms) r) ∙ same ∙ append_assoc (text_of_term n) (text_of_others ns) s) in
      let rest = one_others ms ns r s l.1 j.1 first.1 in
      (ap₂ Also first.0 rest.0, rest.1)

  one_tail : (x y : Meaning) (r s : List ℕ) → IsLawful x → IsLawful y → text_of_tail x ++ r ≡ text_of_tail y ++ s → (x ≡ y) × (r ≡ s)
  one_tail (Int v) (Int w) r s l j e = behind_bars _ _ r s (leaves_injective (Int v) (Int w) (93 ∷ r) (93 ∷ s) tt tt l j refl refl (bars (Int v) (Int w) r s tt tt e))
  one_tail (Int v) (Atom u) r s l j e = behind_bars _ _ r s (leaves_injective (Int v) (Atom u) (93 ∷ r) (93 ∷ s) tt tt l j refl refl (bars (Int v) (Atom u) r s tt tt e))
  one_tail (Int v) (Ref q w) r s l j e = behind_bars _ _ r s (leaves_injective (Int v) (Ref q w) (93 ∷ r) (93 ∷ s) tt tt l j refl refl (bars (Int v) (Ref q w) r s tt tt e))
  one_tail (Int v) (Pid q) r s l j e = behind_bars _ _ r s (leaves_injective (Int v) (Pid q) (93 ∷ r) (93 ∷ s) tt tt l j refl refl (bars (Int v) (Pid q) r s tt tt e))
  one_tail (Int v) (Tuple ns) r s l j e = absurd (omega (arith, leaf_byte (Int v) (93 ∷ r) tt l, tuple_byte ns (93 ∷ s), ap (λ bs. get_or bs 0 0) (bars (Int v) (Tuple ns) r s tt tt e)))
  one_tail (Int v) Nil r s l j e = absurd (first_bytes 124 93 _ _ (omega arith) e)
  one_tail (Int v) (Cons c d) r s l j e = absurd (first_bytes 124 44 _ _ (omega arith) e)
  one_tail (Atom t) (Int w) r s l j e = behind_bars _ _ r s (leaves_injective (Atom t) (Int w) (93 ∷ r) (93 ∷ s) tt tt l j refl refl (bars (Atom t) (Int w) r s tt tt e))
  one_tail (Atom t) (Atom u) r s l j e = behind_bars _ _ r s (leaves_injective (Atom t) (Atom u) (93 ∷ r) (93 ∷ s) tt tt l j refl refl (bars (Atom t) (Atom u) r s tt tt e))
  one_tail (Atom t) (Ref q w) r s l j e = behind_bars _ _ r s (leaves_injective (Atom t) (Ref q w) (93 ∷ r) (93 ∷ s) tt tt l j refl refl (bars (Atom t) (Ref q w) r s tt tt e))
  one_tail (Atom t) (Pid q) r s l j e = behind_bars _ _ r s (leaves_injective (Atom t) (Pid q) (93 ∷ r) (93 ∷ s) tt tt l j refl refl (bars (Atom t) (Pid q) r s tt tt e))
  one_tail (Atom t) (Tuple ns) r s l j e = absurd (omega (arith, leaf_byte (Atom t) (93 ∷ r) tt l, tuple_byte ns (93 ∷ s), ap (λ bs. get_or bs 0 0) (bars (Atom t) (Tuple ns) r s tt tt e)))
  one_tail (Atom t) Nil r s l j e = absurd (first_bytes 124 93 _ _ (omega arith) e)
  one_tail (Atom t) (Cons c d) r s l j e = absurd (first_bytes 124 44 _ _ (omega arith) e)
  one_tail (Ref p v) (Int w) r s l j e = behind_bars _ _ r s (leaves_injective (Ref p v) (Int w) (93 ∷ r) (93 ∷ s) tt tt l j refl refl (bars (Ref p v) (Int w) r s tt tt e))
  one_tail (Ref p v) (Atom u) r s l j e = behind_bars _ _ r s (leaves_injective (Ref p v) (Atom u) (93 ∷ r) (93 ∷ s) tt tt l j refl refl (bars (Ref p v) (Atom u) r s tt tt e))
  one_tail (Ref p v) (Ref q w) r s l j e = behind_bars _ _ r s (leaves_injective (Ref p v) (Ref q w) (93 ∷ r) (93 ∷ s) tt tt l j refl refl (bars (Ref p v) (Ref q w) r s tt tt e))
  one_tail (Ref p v) (Pid q) r s l j e = behind_bars _ _ r s (leaves_injective (Ref p v) (Pid q) (93 ∷ r) (93 ∷ s) tt tt l j refl refl (bars (Ref p v) (Pid q) r s tt tt e))
  one_tail (Ref p v) (Tuple ns) r s l j e = absurd (omega (arith, leaf_byte (Ref p v) (93 ∷ r) tt l, tuple_byte ns (93 ∷ s), ap (λ bs. get_or bs 0 0) (bars (Ref p v) (Tuple ns) r s tt tt e)))
  one_tail (Ref p v) Nil r s l j e = absurd (first_bytes 124 93 _ _ (omega arith) e)
  one_tail (Ref p v) (Cons c d) r s l j e = absurd (first_bytes 124 44 _ _ (omega arith) e)
  one_tail (Pid p) (Int w) r s l j e = behind_bars _ _ r s (leaves_injective (Pid p) (Int w) (93 ∷ r) (93 ∷ s) tt tt l j refl refl (bars (Pid p) (Int w) r s tt tt e))
  one_tail (Pid p) (Atom u) r s l j e = behind_bars _ _ r s (leaves_injective (Pid p) (Atom u) (93 ∷ r) (93 ∷ s) tt tt l j refl refl (bars (Pid p) (Atom u) r s tt tt e))
  one_tail (Pid p) (Ref q w) r s l j e = behind_bars _ _ r s (leaves_injective (Pid p) (Ref q w) (93 ∷ r) (93 ∷ s) tt tt l j refl refl (bars (Pid p) (Ref q w) r s tt tt e))
  one_tail (Pid p) (Pid q) r s l j e = behind_bars _ _ r s (leaves_injective (Pid p) (Pid q) (93 ∷ r) (93 ∷ s) tt tt l j refl refl (bars (Pid p) (Pid q) r s tt tt e))
  one_tail (Pid p) (Tuple ns) r s l j e = absurd (omega (arith, leaf_byte (Pid p) (93 ∷ r) tt l, tuple_byte ns (93 ∷ s), ap (λ bs. get_or bs 0 0) (bars (Pid p) (Tuple ns) r s tt tt e)))
  one_tail (Pid p) Nil r s l j e = absurd (first_bytes 124 93 _ _ (omega arith) e)
  one_tail (Pid p) (Cons c d) r s l j e = absurd (first_bytes 124 44 _ _ (omega arith) e)
  one_tail (Tuple ms) (Int w) r s l j e = absurd (omega (arith, leaf_byte (Int w) (93 ∷ s) tt j, tuple_byte ms (93 ∷ r), ap (λ bs. get_or bs 0 0) (bars (Tuple ms) (Int w) r s tt tt e)))
  one_tail (Tuple ms) (Atom u) r s l j e = absurd (omega (arith, leaf_byte (Atom u) (93 ∷ s) tt j, tuple_byte ms (93 ∷ r), ap (λ bs. get_or bs 0 0) (bars (Tuple ms) (Atom u) r s tt tt e)))
  one_tail (Tuple ms) (Ref q w) r s l j e = absurd (omega (arith, leaf_byte (Ref q w) (93 ∷ s) tt j, tuple_byte ms (93 ∷ r), ap (λ bs. get_or bs 0 0) (bars (Tuple ms) (Ref q w) r s tt tt e)))
  one_tail (Tuple ms) (Pid q) r s l j e = absurd (omega (arith, leaf_byte (Pid q) (93 ∷ s) tt j, tuple_byte ms (93 ∷ r), ap (λ bs. get_or bs 0 0) (bars (Tuple ms) (Pid q) r s tt tt e)))
  one_tail (Tuple ms) (Tuple ns) r s l j e = let k = behind_bars _ _ r s (one_tuple ms ns (93 ∷ r) (93 ∷ s) l j (bars (Tuple ms) (Tuple ns) r s tt tt e)) in (ap Tuple k.0, k.1)
  one_tail (Tuple ms) Nil r s l j e = absurd (first_bytes 124 93 _ _ (omega arith) e)
  one_tail (Tuple ms) (Cons c d) r s l j e = absurd (first_bytes 124 44 _ _ (omega arith) e)
  one_tail Nil (Int w) r s l j e = absurd (first_bytes 93 124 _ _ (omega arith) e)
  one_tail Nil (Atom u) r s l j e = absurd (first_bytes 93 124 _ _ (omega arith) e)
  one_tail Nil (Ref q w) r s l j e = absurd (first_bytes 93 124 _ _ (omega arith) e)
  one_tail Nil (Pid q) r s l j e = absurd (first_bytes 93 124 _ _ (omega arith) e)
  one_tail Nil (Tuple ns) r s l j e = absurd (first_bytes 93 124 _ _ (omega arith) e)
  one_tail Nil Nil r s l j e = (refl, cc)
  one_tail Nil (Cons c d) r s l j e = absurd (first_bytes 93 44 _ _ (omega arith) e)
  one_tail (Cons a b) (Int w) r s l j e = absurd (first_bytes 44 124 _ _ (omega arith) e)
  one_tail (Cons a b) (Atom u) r s l j e = absurd (first_bytes 44 124 _ _ (omega arith) e)
  one_tail (Cons a b) (Ref q w) r s l j e = absurd (first_bytes 44 124 _ _ (omega arith) e)
  one_tail (Cons a b) (Pid q) r s l j e = absurd (first_bytes 44 124 _ _ (omega arith) e)
  one_tail (Cons a b) (Tuple ns) r s l j e = absurd (first_bytes 44 124 _ _ (omega arith) e)
  one_tail (Cons a b) Nil r s l j e = absurd (first_bytes 44 93 _ _ (omega arith) e)
  one_tail (Cons a b) (Cons c d) r s l j e =
      let same : (text_of_term a ++ text_of_tail b) ++ r ≡ (text_of_term c ++ text_of_tail d) ++ s = cc in
      let first = one_term a c (text_of_tail b ++ r) (text_of_tail d ++ s) l.0 j.0 (tail_ends b r) (tail_ends d s) (sym (append_assoc (text_of_term a) (text_of_tail b) r) ∙ same ∙ append_assoc (text_of_term c) (text_of_tail d) s) in
      let rest = one_tail b d r s l.1 j.1 first.1 in
      (ap₂ Cons first.0 rest.0, rest.1)

-- a text is that of one lawful term alone
pub term_injective : (x y : Meaning) → IsLawful x → IsLawful y → text_of_term x ≡ text_of_term y → x ≡ y
term_injective x y l j e = (one_term x y [] [] l j tt tt (ap (λ w. w ++ []) e)).0
