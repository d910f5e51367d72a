-- What is put into a process dictionary is there until it is put anew or erased, and what is under other keys stays.
use Rattle.std.proofs.Common.{◌≡◌, ◌∙◌, Bool, true, false, List, [], ◌∷◌, ◌++◌, refl, sym, ap, if◌then◌else◌}
use Rattle.std.specs.Prelude.{codes}
use Rattle.std.specs.Cmp.{tied_itself}
use Rattle.std.specs.Ordering.{is_eq, is_lt, is_gt}
use Rattle.std.specs.declared.cmp.Ordering.{Ordering}
use Rattle.std.specs.declared.cmp.Ordering.TheVariants.{Less, Equal, Greater}
use Rattle.term_core.proofs.Equality.{terms_same}
use Rattle.term_core.specs.Meaning.{Meaning, Atom}
use Rattle.term_core.specs.Order.{order_of_terms}
use Rattle.term_core.specs.inside.OrderLaws.{terms_total}
use Rattle.core_pure_calls.specs.Comparing.{are_equal, is_greater, is_less}
use Rattle.core_pure_calls.specs.Dictionary.{Dictionary, above, below, value_of, with_value, without_key}

-- ---- orderings

less_is_apart : (o : Ordering) → is_lt o ≡ true → is_eq o ≡ false
less_is_apart Less e = refl
less_is_apart Equal e = absurd cc
less_is_apart Greater e = absurd cc

greater_is_apart : (o : Ordering) → is_gt o ≡ true → is_eq o ≡ false
greater_is_apart Less e = absurd cc
greater_is_apart Equal e = absurd cc
greater_is_apart Greater e = refl

not_both : (o : Ordering) → is_lt o ≡ true → is_gt o ≡ true → ⊥
not_both Less e f = cc
not_both Equal e f = cc
not_both Greater e f = cc

neither : (o : Ordering) → is_lt o ≡ false → is_gt o ≡ false → is_eq o ≡ true
neither Less e f = absurd cc
neither Equal e f = refl
neither Greater e f = absurd cc

is_itself : (m : Meaning) → are_equal m m ≡ true
is_itself m = ap is_eq (tied_itself terms_total m)

are_one : (a b : Meaning) → are_equal a b ≡ true → a ≡ b
are_one a b e = (terms_same a b (are_equal a b) refl).0 e

-- ---- a key and what is below it and above it

below_lacks : (key : Meaning) (d rest : Dictionary) → value_of key (below key d ++ rest) ≡ value_of key rest
below_lacks key [] rest = refl
below_lacks key (e ∷ es) rest = by (below_lacks key es rest) (is_less e.0 key) refl
  where
    by : value_of key (below key es ++ rest) ≡ value_of key rest
        → (b : Bool) → is_less e.0 key ≡ b → value_of key ((if b then e ∷ below key es else below key es) ++ rest) ≡ value_of key rest
    by left true p = ap (λ (q : Bool). if q then e.1 else value_of key (below key es ++ rest)) (less_is_apart (order_of_terms e.0 key) p) ∙ left
    by left false p = left

above_lacks : (key : Meaning) (d : Dictionary) → value_of key (above key d) ≡ Atom (codes "undefined")
above_lacks key [] = refl
above_lacks key (e ∷ es) = by (above_lacks key es) (is_greater e.0 key) refl
  where
    by : value_of key (above key es) ≡ Atom (codes "undefined")
        → (b : Bool) → is_greater e.0 key ≡ b → value_of key (if b then e ∷ above key es else above key es) ≡ Atom (codes "undefined")
    by left true p = ap (λ (q : Bool). if q then e.1 else value_of key (above key es)) (greater_is_apart (order_of_terms e.0 key) p) ∙ left
    by left false p = left

-- a key that comes after another is not below that
below_lacks_greater : (other key : Meaning) → is_greater other key ≡ true → (d rest : Dictionary) → value_of other (below key d ++ rest) ≡ value_of other rest
below_lacks_greater other key g [] rest = refl
below_lacks_greater other key g (e ∷ es) rest = by (below_lacks_greater other key g es rest) (is_less e.0 key) (are_equal e.0 other) refl refl
  where
    by : value_of other (below key es ++ rest) ≡ value_of other rest
        → (b q : Bool) → is_less e.0 key ≡ b → are_equal e.0 other ≡ q → value_of other ((if b then e ∷ below key es else below key es) ++ rest) ≡ value_of other rest
    by left true true p s = absurd (not_both (order_of_terms other key) (ap (λ (m : Meaning). is_less m key) (sym (are_one e.0 other s)) ∙ p) g)
    by left true false p s = ap (λ (x : Bool). if x then e.1 else value_of other (below key es ++ rest)) s ∙ left
    by left false q p s = left

-- an entry of another key plays no part
passed : (other : Meaning) (e : Meaning × Meaning) → are_equal e.0 other ≡ false → (xs ys : Dictionary) → value_of other (xs ++ e ∷ ys) ≡ value_of other (xs ++ ys)
passed other e s [] ys = ap (λ (x : Bool). if x then e.1 else value_of other ys) s
passed other e s (x ∷ xs) ys = ap (λ (m : Meaning). if are_equal x.0 other then x.1 else m) (passed other e s xs ys)

module _ (other key : Meaning) (apart : are_equal key other ≡ false) where
  stays : (d : Dictionary) → value_of other (below key d ++ above key d) ≡ value_of other d
  stays [] = refl
  stays (e ∷ es) = by (stays es) (is_less e.0 key) (is_greater e.0 key) (are_equal e.0 other) refl refl refl
    where
      none : is_less e.0 key ≡ false → is_greater e.0 key ≡ false → are_equal e.0 other ≡ true → ⊥
      none p r s =
          let is_key : e.0 ≡ key = are_one e.0 key (neither (order_of_terms e.0 key) p r) in
          let both : false ≡ true = sym apart ∙ ap (λ (m : Meaning). are_equal m other) (sym is_key) ∙ s in
          cc

      by : value_of other (below key es ++ above key es) ≡ value_of other es
          → (l g q : Bool) → is_less e.0 key ≡ l → is_greater e.0 key ≡ g → are_equal e.0 other ≡ q
          → value_of other ((if l then e ∷ below key es else below key es) ++ (if g then e ∷ above key es else above key es)) ≡ (if q then e.1 else value_of other es)
      by left true true q p r s = absurd (not_both (order_of_terms e.0 key) p r)
      by left true false true p r s = ap (λ (x : Bool). if x then e.1 else value_of other (below key es ++ above key es)) s
      by left true false false p r s = ap (λ (x : Bool). if x then e.1 else value_of other (below key es ++ above key es)) s ∙ left
      by left false true true p r s =
          below_lacks_greater other key (ap (λ (m : Meaning). is_greater m key) (sym (are_one e.0 other s)) ∙ r) es (e ∷ above key es)
          ∙ ap (λ (x : Bool). if x then e.1 else value_of other (above key es)) s
      by left false true false p r s = passed other e s (below key es) (above key es) ∙ left
      by left false false true p r s = absurd (none p r s)
      by left false false false p r s = left

-- ---- the laws

pub put_is_got : (key value : Meaning) (d : Dictionary) → value_of key (with_value key value d) ≡ value
put_is_got key value d = below_lacks key d ((key, value) ∷ above key d) ∙ ap (λ (x : Bool). if x then value else value_of key (above key d)) (is_itself key)

pub put_leaves_others : (key value other : Meaning) (d : Dictionary) → are_equal key other ≡ false → value_of other (with_value key value d) ≡ value_of other d
put_leaves_others key value other d apart = passed other (key, value) apart (below key d) (above key d) ∙ stays other key apart d

pub erased_is_gone : (key : Meaning) (d : Dictionary) → value_of key (without_key key d) ≡ Atom (codes "undefined")
erased_is_gone key d = below_lacks key d (above key d) ∙ above_lacks key d

pub erase_leaves_others : (key other : Meaning) (d : Dictionary) → are_equal key other ≡ false → value_of other (without_key key d) ≡ value_of other d
erase_leaves_others key other d apart = stays other key apart d
