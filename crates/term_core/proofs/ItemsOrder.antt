-- Steps along two lists of terms that are compared part by part.
use Rattle.std.proofs.Common.{Global, ◌≡◌, ℕ, zero, suc, ◌+◌, ◌<◌, true, false, List, [], ◌∷◌, length, get_or, drop, map, refl, sym, ap, ◌∙◌, arith, add-one}
use Rattle.std.specs.declared.cmp.Ordering.{Ordering}
use Rattle.std.specs.declared.sync.Arc.{Arc}
use Rattle.std.specs.declared.cmp.Ordering.TheVariants.{Less, Equal, Greater}
use Rattle.std.specs.Ordering.{ordering_then, nat_cmp, is_ne}
use Rattle.std.specs.Cmp.{nat_cmp_total, tied_itself}
use Rattle.std.specs.Cmp.Lexicographic.{slice_cmp}
use Rattle.term_core.specs.Meaning.{Meaning, meanings_of}
use Rattle.term_core.specs.Meaning as terms
use Rattle.term_core.specs.Term.{meaning_of}
use Rattle.term_core.specs.Order.{order_of_terms, order_of_items}
use Rattle.term_core.specs.inside.OrderLaws.{order_of_terms-Tuple}
use Rattle.term_core.specs.declared.term.Term.{Term}
use Rattle.term_core.specs.declared.term.Term.TheVariants.{Tuple}

-- the rest of a list from a place on: its item, and the rest after it
pub drop-map : (xs : List Term) (i : ℕ) (x : Term) → i < length xs → x ≡ get_or xs i x → drop i (map meaning_of xs) ≡ meaning_of x ∷ drop (suc i) (map meaning_of xs)
drop-map [] i x h e = absurd (omega arith)
drop-map (z ∷ zs) zero x h e = λ j. meaning_of (sym e j) ∷ map meaning_of zs
drop-map (z ∷ zs) (suc i) x h e = drop-map zs i x (omega arith) e

-- the items at a place decide, unless they are equal
step : (xs ys : List Term) (vs ws : List Meaning) (i : ℕ) (x y : Term) → map meaning_of xs ≡ vs → map meaning_of ys ≡ ws → i < length xs → i < length ys → x ≡ get_or xs i x → y ≡ get_or ys i y → order_of_items (drop i vs) (drop i ws) ≡ ordering_then (order_of_terms (meaning_of x) (meaning_of y)) (order_of_items (drop (i + 1) vs) (drop (i + 1) ws))
step xs ys vs ws i x y p q h k e f =
    rw (add-one, ← p, ← q) (λ j. order_of_items (drop-map xs i x h e j) (drop-map ys i y k f j))

-- the first decides where it is not Equal
decided : (o p : Ordering) → is_ne o ≡ true → ordering_then o p ≡ o
decided Less p h = refl
decided Equal p h = cc
decided Greater p h = refl

-- and the second where it is
level : (o p : Ordering) → is_ne o ≡ false → ordering_then o p ≡ p
level Less p h = cc
level Equal p h = refl
level Greater p h = cc

length-map : (xs : List Term) → length (map meaning_of xs) ≡ length xs
length-map [] = refl
length-map (x ∷ xs) = ap suc (length-map xs)

-- lists of as many terms mean lists of as many meanings
same_sizes : (xs ys : List Term) (vs ws : List Meaning) → map meaning_of xs ≡ vs → map meaning_of ys ≡ ws → length xs ≡ length ys → length vs ≡ length ws
same_sizes xs ys vs ws p q e = rw (← p, ← q) (length-map xs ∙ e ∙ sym (length-map ys))

level_sizes : (m n : ℕ) (o : Ordering) → m ≡ n → ordering_then (nat_cmp m n) o ≡ o
level_sizes m n o e = rw (e) (level (nat_cmp n n) o (ap is_ne (tied_itself nat_cmp_total n)))

module _ (xs ys : List Term) (vs ws : List Meaning) (i : ℕ) (x y : Term) (r : Ordering) where
  -- the place decides
  pub differs : map meaning_of xs ≡ vs → map meaning_of ys ≡ ws → length xs ≡ length ys → i < length xs → x ≡ get_or xs i x → y ≡ get_or ys i y → order_of_items (drop i vs) (drop i ws) ≡ order_of_items vs ws → r ≡ order_of_terms (meaning_of x) (meaning_of y) → is_ne r ≡ true → r ≡ ordering_then (nat_cmp (length vs) (length ws)) (order_of_items vs ws)
  differs p q l h e f g is ne =
      let k : i < length ys = omega arith in
      let here = step xs ys vs ws i x y p q h k e f in
      let so = decided r (order_of_items (drop (i + 1) vs) (drop (i + 1) ws)) ne in
      let sizes = level_sizes (length vs) (length ws) (order_of_items vs ws) (same_sizes xs ys vs ws p q l) in
      sym (sizes ∙ sym g ∙ here ∙ ap (λ o. ordering_then o (order_of_items (drop (i + 1) vs) (drop (i + 1) ws))) (sym is) ∙ so)

  -- the next place decides
  pub goes_on : map meaning_of xs ≡ vs → map meaning_of ys ≡ ws → length xs ≡ length ys → i < length xs → x ≡ get_or xs i x → y ≡ get_or ys i y → order_of_items (drop i vs) (drop i ws) ≡ order_of_items vs ws → r ≡ order_of_terms (meaning_of x) (meaning_of y) → is_ne r ≡ false → order_of_items (drop (i + 1) vs) (drop (i + 1) ws) ≡ order_of_items vs ws
  goes_on p q l h e f g is ne =
      let k : i < length ys = omega arith in
      let here = step xs ys vs ws i x y p q h k e f in
      let so = level r (order_of_items (drop (i + 1) vs) (drop (i + 1) ws)) ne in
      sym (sym g ∙ here ∙ ap (λ o. ordering_then o (order_of_items (drop (i + 1) vs) (drop (i + 1) ws))) (sym is) ∙ so)

-- two tuples, from what their parts say
pub tuples : (a b left right : Term) (ps qs : Arc (List Meaning) Global) (xs ys : List Meaning) (r : Ordering) → left ≡ Tuple ps → right ≡ Tuple qs → xs ≡ ps.value → ys ≡ qs.value → order_of_terms (meaning_of left) (meaning_of right) ≡ order_of_terms (meaning_of a) (meaning_of b) → r ≡ ordering_then (nat_cmp (length xs) (length ys)) (order_of_items xs ys) → r ≡ order_of_terms (meaning_of a) (meaning_of b)
tuples a b left right ps qs xs ys r p q f g e is =
    is ∙ sym (order_of_terms-Tuple xs ys) ∙ (λ i. order_of_terms (terms.Tuple (meanings_of (f i))) (terms.Tuple (meanings_of (g i)))) ∙ (λ i. order_of_terms (meaning_of (sym p i)) (meaning_of (sym q i))) ∙ e

-- two lists of terms, item by item
pub order_of_items-map : (xs ys : List Term) → slice_cmp (λ x y. order_of_terms (meaning_of x) (meaning_of y)) xs ys ≡ order_of_items (map meaning_of xs) (map meaning_of ys)
order_of_items-map [] [] = refl
order_of_items-map [] (y ∷ ys) = refl
order_of_items-map (x ∷ xs) [] = refl
order_of_items-map (x ∷ xs) (y ∷ ys) =
    ap (ordering_then (order_of_terms (meaning_of x) (meaning_of y))) (order_of_items-map xs ys)
