-- The order of terms is total, and answers Equal only where the two are the same.
use Rattle.std.specs.Prelude.{◌≡◌, ℕ, ◌<◌, ℤ, pos, negsuc, ◌<ℤ◌, List, [], ◌∷◌, length}
use Rattle.std.proofs.Common.{refl, sym, ◌∙◌, subst, arith}
use Rattle.std.proofs.lemmas.Int.{ints}
use Rattle.std.specs.declared.cmp.Ordering.{Ordering}
use Rattle.std.specs.declared.cmp.Ordering.TheVariants.{Equal, Less, Greater}
use Rattle.std.specs.Ordering.{nat_cmp, int_cmp, ordering_then, MatchOrdering}
use Rattle.std.specs.Cmp.{IsTotalOrder, int_cmp_total, on_total, then_total, ranked, int_ranked, nat_cmp_is}
use Rattle.std.specs.Cmp.Lexicographic.{slice_cmp, lists_total}
use Rattle.term_core.specs.Meaning.{Meaning, Meanings, Int, Atom, Ref, Pid, Tuple, Nil, Cons, NoMore, Also, parts_of, meanings_of, parts_of-meanings_of}
use Rattle.term_core.specs.Order.{order_of_lists, order_of_sizes, order_of_terms, order_of_parts, order_of_pairs, order_of_items}

-- ---- orderings one after another

-- nothing is decided after the last
pub then_Equal : (o : Ordering) → ordering_then o Equal ≡ o
then_Equal Less = refl
then_Equal Equal = refl
then_Equal Greater = refl

-- three in a row, grouped either way
then_then : (o p q : Ordering) → ordering_then (ordering_then o p) q ≡ ordering_then o (ordering_then p q)
then_then Less p q = refl
then_then Equal p q = refl
then_then Greater p q = refl

-- both are Equal where the two in a row are
pub first_Equal : (o p : Ordering) → ordering_then o p ≡ Equal → o ≡ Equal
first_Equal Less p e = cc
first_Equal Equal p e = refl
first_Equal Greater p e = cc

pub second_Equal : (o p : Ordering) → ordering_then o p ≡ Equal → p ≡ Equal
second_Equal Less p e = cc
second_Equal Equal p e = e
second_Equal Greater p e = cc

-- ---- what Equal says of numbers

same_by : (m n : ℕ) (o : Ordering) → MatchOrdering o (m < n) (m ≡ n) (n < m) → o ≡ Equal → m ≡ n
same_by m n Less h e = cc
same_by m n Equal h e = h
same_by m n Greater h e = cc

-- Equal says that the two numbers are the same
pub same_number : (m n : ℕ) → nat_cmp m n ≡ Equal → m ≡ n
same_number m n e = same_by m n (nat_cmp m n) (ranked m n _ refl) e

same_integer_by : (m n : ℤ) (o : Ordering) → MatchOrdering o (m <ℤ n) (m ≡ n) (n <ℤ m) → o ≡ Equal → m ≡ n
same_integer_by m n Less h e = cc
same_integer_by m n Equal h e = h
same_integer_by m n Greater h e = cc

-- and the two integers
pub same_integer : (m n : ℤ) → int_cmp m n ≡ Equal → m ≡ n
same_integer m n e = same_integer_by m n (int_cmp m n) (int_ranked m n _ refl) e

-- and the two texts or pids
pub same_list : (xs ys : List ℕ) → order_of_lists xs ys ≡ Equal → xs ≡ ys
same_list [] [] e = refl
same_list [] (y ∷ ys) e = cc
same_list (x ∷ xs) [] e = cc
same_list (x ∷ xs) (y ∷ ys) e =
    λ i. same_number x y (first_Equal _ _ e) i ∷ same_list xs ys (second_Equal _ _ e) i

-- ---- Equal terms are one

mutual
  -- the two terms are the same
  pub same_term : (a b : Meaning) → order_of_terms a b ≡ Equal → a ≡ b
  same_term (Int m) (Int n) e = λ i. Int (same_integer m n e i)
  same_term (Atom t) (Atom u) e = λ i. Atom (same_list t u e i)
  same_term (Ref p m) (Ref q n) e =
      λ i. Ref (same_list p q (first_Equal _ _ e) i) (same_number m n (second_Equal _ _ e) i)
  same_term (Pid p) (Pid q) e = λ i. Pid (same_list p q e i)
  same_term (Tuple xs) (Tuple ys) e = λ i. Tuple (same_parts xs ys (second_Equal _ _ e) i)
  same_term Nil Nil e = refl
  same_term (Cons a b) (Cons c d) e =
      λ i. Cons (same_term a c (first_Equal _ _ e) i) (same_term b d (second_Equal _ _ e) i)
  same_term a b e = cc

  same_parts : (xs ys : Meanings) → order_of_parts xs ys ≡ Equal → xs ≡ ys
  same_parts NoMore NoMore e = refl
  same_parts NoMore (Also b ys) e = cc
  same_parts (Also a xs) NoMore e = cc
  same_parts (Also a xs) (Also b ys) e =
      λ i. Also (same_term a b (first_Equal _ _ e) i) (same_parts xs ys (second_Equal _ _ e) i)

-- ---- the order is total: it is the order of lists of integers at a code that no other code begins

by_rank : (m n : ℕ) (o : Ordering) → MatchOrdering o (pos m <ℤ pos n) (pos m ≡ pos n) (pos n <ℤ pos m) → MatchOrdering o (m < n) (m ≡ n) (n < m)
by_rank m n Less h = omega (arith, ints)
by_rank m n Equal h = cc
by_rank m n Greater h = omega (arith, ints)

-- natural numbers are ordered as the integers that they are
int_cmp-pos : (m n : ℕ) → int_cmp (pos m) (pos n) ≡ nat_cmp m n
int_cmp-pos m n = nat_cmp_is m n _ (by_rank m n _ (int_ranked (pos m) (pos n) _ refl))

-- each number, and then an end that is below each number
abbrev pub list_code : List ℕ → List ℤ → List ℤ
list_code [] rest = negsuc 0 ∷ rest
list_code (n ∷ ns) rest = pos n ∷ list_code ns rest

abbrev mutual
  -- a term before what follows it: its kind, a size where it has one, and its parts
  term_code : Meaning → List ℤ → List ℤ
  term_code (Int n) rest = pos 0 ∷ n ∷ rest
  term_code (Atom t) rest = pos 1 ∷ list_code t rest
  term_code (Ref p n) rest = pos 2 ∷ list_code p (pos n ∷ rest)
  term_code (Pid p) rest = pos 3 ∷ list_code p rest
  term_code (Tuple ms) rest = pos 4 ∷ pos (length (parts_of ms)) ∷ parts_code ms rest
  term_code Nil rest = pos 5 ∷ rest
  term_code (Cons a b) rest = pos 6 ∷ term_code a (term_code b rest)

  parts_code : Meanings → List ℤ → List ℤ
  parts_code NoMore rest = rest
  parts_code (Also m ms) rest = term_code m (parts_code ms rest)

-- the order of codes
abbrev pub code_cmp : List ℤ → List ℤ → Ordering
code_cmp = slice_cmp int_cmp

-- codes of lists are ordered as the lists, and then by what follows
pub code_cmp-list : (xs ys : List ℕ) (r s : List ℤ) → code_cmp (list_code xs r) (list_code ys s) ≡ ordering_then (order_of_lists xs ys) (code_cmp r s)
code_cmp-list [] [] r s = refl
code_cmp-list [] (b ∷ ys) r s = refl
code_cmp-list (a ∷ xs) [] r s = refl
code_cmp-list (a ∷ xs) (b ∷ ys) r s =
    (λ i. ordering_then (int_cmp-pos a b i) (code_cmp-list xs ys r s i)) ∙ sym (then_then (nat_cmp a b) (order_of_lists xs ys) (code_cmp r s))

-- tuples that are not distinguished by their sizes have as many parts
length_Equal : (xs ys : Meanings) → order_of_sizes xs ys ≡ Equal → length (parts_of xs) ≡ length (parts_of ys)
length_Equal xs ys e = same_number _ _ e

-- what comes after a size is compared only where the two sizes are the same
then_by : (o p q : Ordering) → (o ≡ Equal → p ≡ q) → ordering_then o p ≡ ordering_then o q
then_by Less p q f = refl
then_by Equal p q f = f refl
then_by Greater p q f = refl

mutual
  -- codes of terms are ordered as the terms, and then by what follows
  code_cmp-term : (a b : Meaning) (r s : List ℤ) → code_cmp (term_code a r) (term_code b s) ≡ ordering_then (order_of_terms a b) (code_cmp r s)
  code_cmp-term (Int m) (Int n) r s = refl
  code_cmp-term (Atom t) (Atom u) r s = code_cmp-list t u r s
  code_cmp-term (Ref p m) (Ref q n) r s =
      code_cmp-list p q (pos m ∷ r) (pos n ∷ s) ∙ (λ i. ordering_then (order_of_lists p q) (ordering_then (int_cmp-pos m n i) (code_cmp r s))) ∙ sym (then_then (order_of_lists p q) (nat_cmp m n) (code_cmp r s))
  code_cmp-term (Pid p) (Pid q) r s = code_cmp-list p q r s
  code_cmp-term (Tuple xs) (Tuple ys) r s =
      (λ i. ordering_then (int_cmp-pos (length (parts_of xs)) (length (parts_of ys)) i) (code_cmp (parts_code xs r) (parts_code ys s))) ∙ then_by (order_of_sizes xs ys) _ _ (λ e. code_cmp-parts xs ys r s (length_Equal xs ys e)) ∙ sym (then_then (order_of_sizes xs ys) (order_of_parts xs ys) (code_cmp r s))
  code_cmp-term Nil Nil r s = refl
  code_cmp-term (Cons a b) (Cons c d) r s =
      code_cmp-term a c (term_code b r) (term_code d s) ∙ (λ i. ordering_then (order_of_terms a c) (code_cmp-term b d r s i)) ∙ sym (then_then (order_of_terms a c) (order_of_terms b d) (code_cmp r s))
  code_cmp-term a b r s = refl

  code_cmp-parts : (xs ys : Meanings) (r s : List ℤ) → length (parts_of xs) ≡ length (parts_of ys) → code_cmp (parts_code xs r) (parts_code ys s) ≡ ordering_then (order_of_parts xs ys) (code_cmp r s)
  code_cmp-parts NoMore NoMore r s e = refl
  code_cmp-parts NoMore (Also b ys) r s e = cc
  code_cmp-parts (Also a xs) NoMore r s e = cc
  code_cmp-parts (Also a xs) (Also b ys) r s e =
      code_cmp-term a b (parts_code xs r) (parts_code ys s) ∙ (λ i. ordering_then (order_of_terms a b) (code_cmp-parts xs ys r s (cc) i)) ∙ sym (then_then (order_of_terms a b) (order_of_parts xs ys) (code_cmp r s))

-- so the order of terms is that of their codes
code_cmp-whole : (a b : Meaning) → code_cmp (term_code a []) (term_code b []) ≡ order_of_terms a b
code_cmp-whole a b = code_cmp-term a b [] [] ∙ then_Equal (order_of_terms a b)

-- the order of terms is total
pub terms_total : IsTotalOrder order_of_terms
terms_total = subst IsTotalOrder (λ i a b. code_cmp-whole a b i) (on_total (λ a. term_code a []) (lists_total int_cmp_total))

-- so is that of list cells
pub pairs_total : IsTotalOrder order_of_pairs
pairs_total = then_total (on_total (λ p. p.0) terms_total) (on_total (λ p. p.1) terms_total)

-- and that of lists of terms
pub items_total : IsTotalOrder order_of_items
items_total = lists_total terms_total

-- ---- the parts of a tuple as a list

-- a tuple has as many parts as the list that it was made of
pub length-parts_of : (ms : List Meaning) → length (parts_of (meanings_of ms)) ≡ length ms
length-parts_of ms = λ i. length (parts_of-meanings_of ms i)

-- parts are ordered as the lists that they were made of
pub order_of_parts-meanings_of : (xs ys : List Meaning) → order_of_parts (meanings_of xs) (meanings_of ys) ≡ order_of_items xs ys
order_of_parts-meanings_of [] [] = refl
order_of_parts-meanings_of [] (y ∷ ys) = refl
order_of_parts-meanings_of (x ∷ xs) [] = refl
order_of_parts-meanings_of (x ∷ xs) (y ∷ ys) = λ i. ordering_then (order_of_terms x y) (order_of_parts-meanings_of xs ys i)

-- two tuples as the lists of their parts
pub order_of_terms-Tuple : (xs ys : List Meaning) → order_of_terms (Tuple (meanings_of xs)) (Tuple (meanings_of ys)) ≡ ordering_then (nat_cmp (length xs) (length ys)) (order_of_items xs ys)
order_of_terms-Tuple xs ys =
    λ i. ordering_then (nat_cmp (length-parts_of xs i) (length-parts_of ys i)) (order_of_parts-meanings_of xs ys i)

-- Equal list cells are the same
pub same_pair : (p q : Meaning × Meaning) → order_of_pairs p q ≡ Equal → p ≡ q
same_pair p q e = λ i. (same_term p.0 q.0 (first_Equal _ _ e) i, same_term p.1 q.1 (second_Equal _ _ e) i)

-- and Equal lists of terms
pub same_items : (xs ys : List Meaning) → order_of_items xs ys ≡ Equal → xs ≡ ys
same_items [] [] e = refl
same_items [] (y ∷ ys) e = cc
same_items (x ∷ xs) [] e = cc
same_items (x ∷ xs) (y ∷ ys) e =
    λ i. same_term x y (first_Equal _ _ e) i ∷ same_items xs ys (second_Equal _ _ e) i
