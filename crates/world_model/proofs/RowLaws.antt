-- The rows of a table: changes under two keys may be made in either order.
use Rattle.std.proofs.Common.{◌≡◌, Bool, true, false, cond, List, [], ◌∷◌, refl, sym, ap, ◌∙◌, true≢false}
use Rattle.std.specs.declared.cmp.Ordering.{Ordering}
use Rattle.std.specs.declared.cmp.Ordering.TheVariants.{Less, Equal, Greater}
use Rattle.std.specs.Ordering.{is_eq}
use Rattle.std.specs.FinMap.{get, get-insert, get-remove, same_map, IsAntisymmetric}
use Rattle.std.specs.Cmp.{IsTotalOrder}
use Rattle.term_core.specs.Order.{order_of_terms}
use Rattle.term_core.specs.inside.OrderLaws.{terms_total}
use Rattle.term_core.specs.inside.OrderLaws.{same_term as same_by_order}
use Rattle.world_model.specs.Rows.{Key, Object, same_key, Rows, RowChange, rewritten, listed, some_if, under, with_row, rows_rewritten}

-- all that is asked of the order of keys
pub keys_total : IsTotalOrder order_of_terms
keys_total = terms_total

pub keys_apart : IsAntisymmetric order_of_terms
keys_apart = same_by_order

is_equal : (r : Ordering) → is_eq r ≡ true → r ≡ Equal
is_equal Less e = absurd cc
is_equal Equal e = refl
is_equal Greater e = absurd cc

pub keys_same : (k l : Key) → same_key k l ≡ true → k ≡ l
keys_same k l e = keys_apart k l (is_equal (order_of_terms k l) e)

pub listed_some : (xs : List Object) → listed (some_if xs) ≡ xs
listed_some [] = refl
listed_some (x ∷ xs) = refl

-- what is under each key after objects were put under one
pub get-with_row : (k : Key) (xs : List Object) (rows : Rows) (q : Key) → get (with_row k xs rows) q ≡ cond (same_key q k) (some_if xs) (get rows q)
get-with_row k [] rows q = get-remove keys_total rows k q
get-with_row k (x ∷ xs) rows q = get-insert keys_total rows k (x ∷ xs) q

pub turned : (k l : Key) → same_key k l ≡ true → same_key l k ≡ true
turned k l e =
    let same = keys_same k l e in
    sym (λ i. same_key (same i) (sym same i)) ∙ e

pub other_way : (k l : Key) → same_key k l ≡ false → same_key l k ≡ false
other_way k l e =
    elim (same_key l k) as (λ b. same_key l k ≡ b → b ≡ false) [
      | true ↦ λ same. absurd (true≢false (sym (turned l k same) ∙ e))
      | false ↦ λ same. refl
    ] refl

cond_swap : {A : Type 0} (a b : Bool) (x y z : A) → (a ≡ true → b ≡ true → ⊥) → cond a x (cond b y z) ≡ cond b y (cond a x z)
cond_swap true true x y z apart = absurd (apart refl refl)
cond_swap true false x y z apart = refl
cond_swap false true x y z apart = refl
cond_swap false false x y z apart = refl

not_both : (q k l : Key) → same_key k l ≡ false → same_key q l ≡ true → same_key q k ≡ true → ⊥
not_both q k l other here there = true≢false (sym here ∙ ap (λ x. same_key x l) (keys_same q k there) ∙ other)

pub under_other : (k l : Key) (c : RowChange) (rows : Rows) → same_key k l ≡ false → under (rows_rewritten k c rows) l ≡ under rows l
under_other k l c rows other = ap listed (get-with_row k (rewritten c (under rows k)) rows l ∙ ap (λ b. cond b (some_if (rewritten c (under rows k))) (get rows l)) (other_way k l other))

get_twice : (k l : Key) (c d : RowChange) (rows : Rows) (q : Key) → same_key k l ≡ false → get (rows_rewritten l d (rows_rewritten k c rows)) q ≡ cond (same_key q l) (some_if (rewritten d (under rows l))) (cond (same_key q k) (some_if (rewritten c (under rows k))) (get rows q))
get_twice k l c d rows q other =
    get-with_row l (rewritten d (under (rows_rewritten k c rows) l)) (rows_rewritten k c rows) q
    ∙ (λ i. cond (same_key q l) (some_if (rewritten d (under_other k l c rows other i))) (get-with_row k (rewritten c (under rows k)) rows q i))

pub rows_swapped : (k l : Key) (c d : RowChange) (rows : Rows) → same_key k l ≡ false → rows_rewritten l d (rows_rewritten k c rows) ≡ rows_rewritten k c (rows_rewritten l d rows)
rows_swapped k l c d rows other = same_map keys_total keys_apart _ _ (λ q.
    get_twice k l c d rows q other
    ∙ cond_swap (same_key q l) (same_key q k) (some_if (rewritten d (under rows l))) (some_if (rewritten c (under rows k))) (get rows q) (not_both q k l other)
    ∙ sym (get_twice l k d c rows q (other_way k l other)))

-- what is under a key after a change there
pub under_same : (k : Key) (c : RowChange) (rows : Rows) (q : Key) → same_key k q ≡ true → under (rows_rewritten k c rows) q ≡ rewritten c (under rows q)
under_same k c rows q same =
    let there = keys_same k q same in
    ap listed (get-with_row k (rewritten c (under rows k)) rows q ∙ ap (λ b. cond b (some_if (rewritten c (under rows k))) (get rows q)) (turned k q same))
    ∙ listed_some (rewritten c (under rows k)) ∙ ap (λ x. rewritten c (under rows x)) there
