-- What patterns match.
use Rattle.std.proofs.Common.{◌≡◌, ◌<◌, ℕ, suc, length, arith, Bool, true, false, ◌&&◌, ◌||◌, refl, sym, ap, ◌∙◌, subst}
use Rattle.std.specs.Ordering.{MatchOrdering, is_eq, nat_cmp, ordering_then}
use Rattle.std.specs.declared.cmp.Ordering.{Ordering}
use Rattle.std.specs.declared.cmp.Ordering.TheVariants.{Less, Equal, Greater}
use Rattle.std.specs.Cmp.{Equal-is, nat_cmp_is, ranked, tied_itself}
use Rattle.term_core.specs.Meaning.{Meaning, Meanings, Int, Atom, Ref, Pid, Tuple, Nil, Cons, NoMore, Also, parts_of}
use Rattle.term_core.specs.Order.{order_of_parts, order_of_sizes, order_of_terms}
use Rattle.term_core.specs.inside.OrderLaws.{terms_total}
use Rattle.term_core.specs.inside.OrderLaws as terms
use Rattle.world_model.specs.Names.{same_term}
use Rattle.tree_excuses.specs.Patterns.{all_match, has_any, is_any, matches, one_has_any}
use Rattle.tree_excuses.specs.Laws.{AnyMatchesAll, EachMatchesItself, PlainMatchesItselfAlone}

-- ---- '_' matches all

pub any_matches : AnyMatchesAll
any_matches m = refl

-- ---- a term without '_' matches itself alone

first_false : (a b : Bool) → (a || b) ≡ false → a ≡ false
first_false false b e = refl
first_false true b e = e

second_false : (a b : Bool) → (a || b) ≡ false → b ≡ false
second_false false b e = e
second_false true b e = absurd cc

or_false : (a b : Bool) → a ≡ false → (a || b) ≡ b
or_false false b e = refl
or_false true b e = absurd cc

-- two in a row decide nothing where neither does
both_equal : (o p : Ordering) → (is_eq o && is_eq p) ≡ is_eq (ordering_then o p)
both_equal Less p = refl
both_equal Equal p = refl
both_equal Greater p = refl

-- and of three, where it is not the second, and neither the first nor the third
swapped : (s o p : Ordering) → (is_eq o && is_eq (ordering_then s p)) ≡ is_eq (ordering_then s (ordering_then o p))
swapped Equal o p = both_equal o p
swapped Less Less p = refl
swapped Less Equal p = refl
swapped Less Greater p = refl
swapped Greater Less p = refl
swapped Greater Equal p = refl
swapped Greater Greater p = refl

-- the lists of parts of which one has no more are not the same
shorter : (s : Ordering) → false ≡ is_eq (ordering_then s Less)
shorter Less = refl
shorter Equal = refl
shorter Greater = refl

longer : (s : Ordering) → false ≡ is_eq (ordering_then s Greater)
longer Less = refl
longer Equal = refl
longer Greater = refl

-- one part more in both changes nothing
without_one : (m n : ℕ) (o : Ordering) → MatchOrdering o (suc m < suc n) (suc m ≡ suc n) (suc n < suc m) → MatchOrdering o (m < n) (m ≡ n) (n < m)
without_one m n Less h = omega arith
without_one m n Equal h = omega arith
without_one m n Greater h = omega arith

one_more : (m n : ℕ) → nat_cmp m n ≡ nat_cmp (suc m) (suc n)
one_more m n = sym (nat_cmp_is m n _ (without_one m n _ (ranked (suc m) (suc n) _ refl)))

mutual
  pub plain_matches : PlainMatchesItselfAlone
  plain_matches (Tuple ps) (Tuple ms) h = plain_parts ps ms h
  plain_matches (Cons p q) (Cons a b) h =
      (λ i. plain_matches p a (first_false (has_any p) (has_any q) h) i && plain_matches q b (second_false (has_any p) (has_any q) h) i) ∙ both_equal (order_of_terms p a) (order_of_terms q b)
  plain_matches (Atom t) m h = or_false (is_any (Atom t)) (same_term (Atom t) m) h
  plain_matches p m h = refl

  plain_parts : (ps ms : Meanings) → one_has_any ps ≡ false → all_match ps ms ≡ is_eq (ordering_then (order_of_sizes ps ms) (order_of_parts ps ms))
  plain_parts NoMore NoMore h = refl
  plain_parts NoMore (Also m ms) h = shorter (order_of_sizes NoMore (Also m ms))
  plain_parts (Also p ps) NoMore h = longer (order_of_sizes (Also p ps) NoMore)
  plain_parts (Also p ps) (Also m ms) h =
      (λ i. plain_matches p m (first_false (has_any p) (one_has_any ps) h) i && plain_parts ps ms (second_false (has_any p) (one_has_any ps) h) i) ∙ swapped (order_of_sizes ps ms) (order_of_terms p m) (order_of_parts ps ms) ∙ ap (λ s. is_eq (ordering_then s (order_of_parts (Also p ps) (Also m ms)))) (one_more (length (parts_of ps)) (length (parts_of ms)))

-- ---- each term matches itself

second_true : (a b : Bool) → b ≡ true → (a || b) ≡ true
second_true false b e = e
second_true true b e = refl

both_true : (a b : Bool) → a ≡ true → b ≡ true → (a && b) ≡ true
both_true true b e f = f
both_true false b e f = e

same_itself : (m : Meaning) → same_term m m ≡ true
same_itself m = ap is_eq (tied_itself terms_total m)

mutual
  matches_own : (m : Meaning) → matches m m ≡ true
  matches_own (Tuple ms) = all_match_own ms
  matches_own (Cons a b) = both_true (matches a a) (matches b b) (matches_own a) (matches_own b)
  matches_own (Atom t) = second_true (is_any (Atom t)) (same_term (Atom t) (Atom t)) (same_itself (Atom t))
  matches_own (Int n) = same_itself (Int n)
  matches_own (Ref p n) = same_itself (Ref p n)
  matches_own (Pid p) = same_itself (Pid p)
  matches_own Nil = same_itself Nil

  all_match_own : (ms : Meanings) → all_match ms ms ≡ true
  all_match_own NoMore = refl
  all_match_own (Also m ms) = both_true (matches m m) (all_match ms ms) (matches_own m) (all_match_own ms)

pub itself_matches : EachMatchesItself
itself_matches p m h = subst (λ x. matches p x ≡ true) (terms.same_term p m ((Equal-is (order_of_terms p m)).0 h)) (matches_own p)
