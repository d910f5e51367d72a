-- The codes of meanings, by which proofs distinguish values.
use Rattle.std.specs.Prelude.{◌≡◌, ℕ, zero, suc, pos, negsuc, List, [], ◌∷◌, refl}
use Rattle.std.specs.Coded.{Coded, code_by}
use base.Stored.{Gv, gnil, gnum, gcons}
use denote.Struct.Codes.{itself}
use Rattle.term_core.specs.Meaning.{Meaning, Int, Atom, Ref, Pid, Tuple, Nil, Cons, Meanings, NoMore, Also}

abbrev numbers : List ℕ → Gv
numbers [] = gnil
numbers (n ∷ ns) = gcons (gnum n) (numbers ns)

abbrev mutual
  pub code_of : Meaning → Gv
  code_of (Int (pos n)) = gcons (gnum 0) (gnum n)
  code_of (Int (negsuc n)) = gcons (gnum 1) (gnum n)
  code_of (Atom t) = gcons (gnum 2) (numbers t)
  code_of (Ref p n) = gcons (gnum 3) (gcons (gnum n) (numbers p))
  code_of (Pid p) = gcons (gnum 4) (numbers p)
  code_of (Tuple ms) = gcons (gnum 5) (codes_of ms)
  code_of Nil = gnil
  code_of (Cons a b) = gcons (gnum 6) (gcons (code_of a) (gcons (code_of b) gnil))

  pub codes_of : Meanings → Gv
  codes_of NoMore = gnil
  codes_of (Also m ms) = gcons (code_of m) (codes_of ms)

abbrev number_in : Gv → ℕ
number_in gnil = 0
number_in (gnum n) = n
number_in (gcons a b) = 0

abbrev numbers_in : Gv → List ℕ
numbers_in gnil = []
numbers_in (gnum n) = []
numbers_in (gcons a b) = number_in a ∷ numbers_in b

abbrev head_in : Gv → Gv
head_in gnil = gnil
head_in (gnum n) = gnil
head_in (gcons a b) = a

abbrev tail_in : Gv → Gv
tail_in gnil = gnil
tail_in (gnum n) = gnil
tail_in (gcons a b) = b

abbrev cell_in : Meanings → Meaning
cell_in NoMore = Nil
cell_in (Also a NoMore) = Nil
cell_in (Also a (Also b ms)) = Cons a b

abbrev by_tag : ℕ → Gv → Meanings → Meaning
by_tag zero g ms = Int (pos (number_in g))
by_tag (suc zero) g ms = Int (negsuc (number_in g))
by_tag (suc (suc zero)) g ms = Atom (numbers_in g)
by_tag (suc (suc (suc zero))) g ms = Ref (numbers_in (tail_in g)) (number_in (head_in g))
by_tag (suc (suc (suc (suc zero)))) g ms = Pid (numbers_in g)
by_tag (suc (suc (suc (suc (suc zero))))) g ms = Tuple ms
by_tag (suc (suc (suc (suc (suc (suc n)))))) g ms = cell_in ms

pub record Found : Type 0 where
  pub one : Meaning
  pub many : Meanings

abbrev found_in : Gv → Found
found_in gnil = record { one = Nil; many = NoMore }
found_in (gnum n) = record { one = Nil; many = NoMore }
found_in (gcons a b) = record { one = by_tag (number_in a) b (found_in b).many; many = Also (found_in a).one (found_in b).many }

pub numbers_in-numbers : (ns : List ℕ) → numbers_in (numbers ns) ≡ ns
numbers_in-numbers [] = refl
numbers_in-numbers (n ∷ ns) = λ i. n ∷ numbers_in-numbers ns i

mutual
  pub found_in-code_of : (m : Meaning) → (found_in (code_of m)).one ≡ m
  found_in-code_of (Int (pos n)) = refl
  found_in-code_of (Int (negsuc n)) = refl
  found_in-code_of (Atom t) = λ i. Atom (numbers_in-numbers t i)
  found_in-code_of (Ref p n) = λ i. Ref (numbers_in-numbers p i) n
  found_in-code_of (Pid p) = λ i. Pid (numbers_in-numbers p i)
  found_in-code_of (Tuple ms) = λ i. Tuple (found_in-codes_of ms i)
  found_in-code_of Nil = refl
  found_in-code_of (Cons a b) = λ i. Cons (found_in-code_of a i) (found_in-code_of b i)

  pub found_in-codes_of : (ms : Meanings) → (found_in (codes_of ms)).many ≡ ms
  found_in-codes_of NoMore = refl
  found_in-codes_of (Also m ms) = λ i. Also (found_in-code_of m i) (found_in-codes_of ms i)

abbrev pub coded_meaning : Coded Meaning
coded_meaning = code_by Gv itself code_of (λ g. (found_in g).one) found_in-code_of
