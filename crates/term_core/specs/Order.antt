-- The order of terms (Erlang reference manual, "Term Comparisons"): the kinds first, and within a kind the parts.
use Rattle.std.specs.Prelude.{ℕ, List, length}
use Rattle.std.specs.declared.cmp.Ordering.{Ordering}
use Rattle.std.specs.declared.cmp.Ordering.TheVariants.{Equal, Less, Greater}
use Rattle.std.specs.Ordering.{nat_cmp, int_cmp, ordering_then}
use Rattle.std.specs.Cmp.Lexicographic.{slice_cmp}
use Rattle.term_core.specs.Meaning.{Meaning, Meanings, Int, Atom, Ref, Pid, Tuple, Nil, Cons, NoMore, Also, parts_of}

-- two texts by their characters, and two pids number by number: the first difference decides, and a prefix comes before its longer ones
abbrev pub order_of_lists : List ℕ → List ℕ → Ordering
order_of_lists = slice_cmp nat_cmp

-- references by pid, then by number
abbrev pub order_of_references : List ℕ → ℕ → List ℕ → ℕ → Ordering
order_of_references p m q n = ordering_then (order_of_lists p q) (nat_cmp m n)

-- the kinds: integer < atom < reference < pid < tuple < nil < list cell
abbrev pub rank_of : Meaning → ℕ
rank_of (Int n) = 0
rank_of (Atom t) = 1
rank_of (Ref p n) = 2
rank_of (Pid p) = 3
rank_of (Tuple ms) = 4
rank_of Nil = 5
rank_of (Cons a b) = 6

-- tuples by their sizes
abbrev pub order_of_sizes : Meanings → Meanings → Ordering
order_of_sizes xs ys = nat_cmp (length (parts_of xs)) (length (parts_of ys))

abbrev mutual
  -- two terms of one kind by its rule, and two of different kinds by rank
  pub order_of_terms : Meaning → Meaning → Ordering
  order_of_terms (Int m) (Int n) = int_cmp m n
  order_of_terms (Atom t) (Atom u) = order_of_lists t u
  order_of_terms (Ref p m) (Ref q n) = order_of_references p m q n
  order_of_terms (Pid p) (Pid q) = order_of_lists p q
  order_of_terms (Tuple xs) (Tuple ys) = ordering_then (order_of_sizes xs ys) (order_of_parts xs ys)
  order_of_terms (Cons a b) (Cons c d) = ordering_then (order_of_terms a c) (order_of_terms b d)
  order_of_terms a b = nat_cmp (rank_of a) (rank_of b)

  -- the first parts that differ decide
  pub order_of_parts : Meanings → Meanings → Ordering
  order_of_parts NoMore NoMore = Equal
  order_of_parts NoMore (Also b ys) = Less
  order_of_parts (Also a xs) NoMore = Greater
  order_of_parts (Also a xs) (Also b ys) = ordering_then (order_of_terms a b) (order_of_parts xs ys)

-- two list cells, each the pair of its head and its tail: by head, then by tail
abbrev pub order_of_pairs : Meaning × Meaning → Meaning × Meaning → Ordering
order_of_pairs p q = ordering_then (order_of_terms p.0 q.0) (order_of_terms p.1 q.1)

-- two lists of terms, item by item, a prefix before its longer ones
abbrev pub order_of_items : List Meaning → List Meaning → Ordering
order_of_items = slice_cmp order_of_terms
