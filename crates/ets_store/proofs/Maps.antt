-- Maps from terms to objects, against the rows that they show.
use Rattle.std.proofs.Common.{◌≡◌, Bool, true, false, cond, not, ◌&&◌, T, List, [], ◌∷◌, Some, None, refl, sym, ap, subst, ◌∙◌}
use Rattle.std.specs.FinMap.Entries.{find, put, where_key, below_all, is_sorted, by_order, is_sorted-put, is_sorted-where_key, find-where_key}
use Rattle.std.specs.FinMap.{get, empty, entries, insert, remove, from_sorted, same_entries_map, entries-from_sorted, entries-insert, get-from_sorted, get-remove, get-empty, same_map}
use Rattle.std.specs.List.{AllZip}
use Rattle.std.specs.Cmp.{alike_right, eq_by_cmp_equiv}
use Rattle.std.specs.Ordering.{eq_by_cmp, is_eq, is_lt, match_ordering}
use Rattle.std.specs.declared.cmp.Ordering.{Ordering}
use Rattle.std.specs.declared.cmp.Ordering.TheVariants.{Less, Equal, Greater}
use Rattle.std.specs.BTreeMap.{insert_entry}
use Rattle.std.specs.Map.{lookup, remove_entry}
use Rattle.term_core.specs.Order.{order_of_terms}
use Rattle.term_core.specs.Term.{meaning_of}
use Rattle.term_core.specs.declared.term.Term.{Term}
use Rattle.term_core.specs.inside.OrderLaws.{terms_total, same_term}
use Rattle.world_model.specs.Rows.{Rows, Key, Object, some_if, listed, with_row, same_key}
use Rattle.world_model.specs.Calls.{has_items}
use Rattle.world_model.proofs.RowLaws.{get-with_row, listed_some}
use Rattle.ets_store.specs.inside.Shown.{shown, shown_entry, rows_of, AreRising, IsTidy}

abbrev pub order : Term → Term → Ordering
order a b = order_of_terms (meaning_of a) (meaning_of b)

-- ---- the entries

pub lookup_shown : (k : Term) (es : List (Term × List Object)) → lookup (λ x. is_eq (order k x)) es ≡ find order_of_terms (meaning_of k) (shown es)
lookup_shown k [] = refl
lookup_shown k (e ∷ es) = ap (cond (is_eq (order k e.0)) (Some e.1)) (lookup_shown k es)

pub insert_shown : (k : Term) (v : List Object) (es : List (Term × List Object)) → shown (insert_entry order es k v) ≡ put order_of_terms (meaning_of k) v (shown es)
insert_shown k v [] = refl
insert_shown k v (e ∷ es) =
    elim (order k e.0) as (λ r. shown (match_ordering r ((k, v) ∷ e ∷ es) ((e.0, v) ∷ es) (e ∷ insert_entry order es k v)) ≡ by_order r ((meaning_of k, v) ∷ shown_entry e ∷ shown es) ((meaning_of e.0, v) ∷ shown es) (shown_entry e ∷ put order_of_terms (meaning_of k) v (shown es))) [
      | Less ↦ refl
      | Equal ↦ refl
      | Greater ↦ ap (λ fs. shown_entry e ∷ fs) (insert_shown k v es)
    ]

left : (a b : Bool) → T (a && b) → T a
left true b p = tt
left false b p = p

right : (a b : Bool) → T (a && b) → T b
right true b p = p
right false b p = absurd p

is_less : (r : Ordering) → T (is_lt r) → r ≡ Less
is_less Less p = refl
is_less Equal p = absurd p
is_less Greater p = absurd p

is_equal : (r : Ordering) → is_eq r ≡ true → r ≡ Equal
is_equal Less e = absurd cc
is_equal Equal e = refl
is_equal Greater e = absurd cc

-- keys above a key that ties with k all stay
kept_above : (k x : Key) (es : List (Key × List Object)) → order_of_terms k x ≡ Equal → T (below_all order_of_terms x es) → where_key order_of_terms (λ y. not (eq_by_cmp order_of_terms k y)) es ≡ es
kept_above k x [] tie h = refl
kept_above k x (e ∷ es) tie h =
    let apart : order_of_terms k e.0 ≡ Less = terms_total.congr k x e.0 tie ∙ is_less _ (left _ _ h) in
    ap (λ r. cond (not (is_eq r)) (e ∷ where_key order_of_terms (λ y. not (eq_by_cmp order_of_terms k y)) es) (where_key order_of_terms (λ y. not (eq_by_cmp order_of_terms k y)) es)) apart
    ∙ ap (λ fs. e ∷ fs) (kept_above k x es tie (right _ _ h))

pub remove_shown : (k : Term) (es : List (Term × List Object)) → AreRising es → shown (remove_entry (λ x. is_eq (order k x)) es) ≡ where_key order_of_terms (λ y. not (eq_by_cmp order_of_terms (meaning_of k) y)) (shown es)
remove_shown k [] h = refl
remove_shown k (e ∷ es) h =
    let rest : List (Key × List Object) = where_key order_of_terms (λ y. not (eq_by_cmp order_of_terms (meaning_of k) y)) (shown es) in
    elim (is_eq (order k e.0)) as (λ b. is_eq (order k e.0) ≡ b → shown (cond b es (e ∷ remove_entry (λ x. is_eq (order k x)) es)) ≡ cond (not b) (shown_entry e ∷ rest) rest) [
      | true ↦ λ tie. sym (kept_above (meaning_of k) (meaning_of e.0) (shown es) (is_equal _ tie) (left _ _ h))
      | false ↦ λ apart. ap (λ fs. shown_entry e ∷ fs) (remove_shown k es (right _ _ h))
    ] refl

-- ---- the rows

pub entries_shown : (es : List (Term × List Object)) → AreRising es → entries (rows_of es) ≡ shown es
entries_shown es h = entries-from_sorted order_of_terms (shown es) h

pub get_shown : (k : Term) (es : List (Term × List Object)) → AreRising es → lookup (λ x. is_eq (order k x)) es ≡ get (rows_of es) (meaning_of k)
get_shown k es h = lookup_shown k es ∙ sym (get-from_sorted order_of_terms (shown es) (meaning_of k) h)

pub rising_insert : (k : Term) (v : List Object) (es : List (Term × List Object)) → AreRising es → AreRising (insert_entry order es k v)
rising_insert k v es h = subst (λ fs. T (is_sorted order_of_terms fs)) (sym (insert_shown k v es)) (is_sorted-put order_of_terms terms_total (meaning_of k) v (shown es) h)

pub rows_insert : (k : Term) (v : List Object) (es : List (Term × List Object)) → AreRising es → rows_of (insert_entry order es k v) ≡ insert (rows_of es) (meaning_of k) v
rows_insert k v es h = same_entries_map _ _ (
    entries_shown (insert_entry order es k v) (rising_insert k v es h)
    ∙ insert_shown k v es
    ∙ ap (put order_of_terms (meaning_of k) v) (sym (entries_shown es h))
    ∙ sym (entries-insert terms_total (rows_of es) (meaning_of k) v))

pub rising_remove : (k : Term) (es : List (Term × List Object)) → AreRising es → AreRising (remove_entry (λ x. is_eq (order k x)) es)
rising_remove k es h = subst (λ fs. T (is_sorted order_of_terms fs)) (sym (remove_shown k es h)) (is_sorted-where_key order_of_terms (λ y. not (eq_by_cmp order_of_terms (meaning_of k) y)) (shown es) h)

turned : {A : Type 0} (b : Bool) (x y : A) → cond (not b) x y ≡ cond b y x
turned true x y = refl
turned false x y = refl

pub rows_remove : (k : Term) (es : List (Term × List Object)) → AreRising es → rows_of (remove_entry (λ x. is_eq (order k x)) es) ≡ remove (rows_of es) (meaning_of k)
rows_remove k es h = same_map terms_total same_term _ _ (λ q.
    get-from_sorted order_of_terms (shown (remove_entry (λ x. is_eq (order k x)) es)) q (rising_remove k es h)
    ∙ ap (find order_of_terms q) (remove_shown k es h)
    ∙ find-where_key order_of_terms (λ y. not (eq_by_cmp order_of_terms (meaning_of k) y)) q (λ x t. ap (λ r. not (is_eq r)) (sym (alike_right terms_total q x (meaning_of k) t))) (shown es)
    ∙ turned (eq_by_cmp order_of_terms (meaning_of k) q) _ _
    ∙ ap (λ b. cond b None (find order_of_terms q (shown es))) ((eq_by_cmp_equiv terms_total).symm (meaning_of k) q)
    ∙ ap (cond (eq_by_cmp order_of_terms q (meaning_of k)) None) (sym (get-from_sorted order_of_terms (shown es) q h))
    ∙ sym (get-remove terms_total (rows_of es) (meaning_of k) q))

-- ---- a key without objects is no key

pub tidy_row : (k : Key) (xs : List Object) (rows : Rows) → IsTidy rows → IsTidy (with_row k xs rows)
tidy_row k xs rows tidy q =
    get-with_row k xs rows q
    ∙ elim (same_key q k) as (λ b. cond b (some_if xs) (get rows q) ≡ some_if (listed (cond b (some_if xs) (get rows q)))) [
      | true ↦ sym (ap some_if (listed_some xs))
      | false ↦ tidy q
    ]
    ∙ sym (ap (λ o. some_if (listed o)) (get-with_row k xs rows q))

pub tidy_empty : IsTidy (empty {R = order_of_terms})
tidy_empty q = get-empty order_of_terms q ∙ sym (ap (λ o. some_if (listed o)) (get-empty order_of_terms q))

pub tidy_insert : (k : Key) (xs : List Object) (rows : Rows) → has_items xs ≡ true → IsTidy rows → IsTidy (insert rows k xs)
tidy_insert k [] rows e tidy = absurd cc
tidy_insert k (x ∷ xs) rows e tidy = tidy_row k (x ∷ xs) rows tidy

pub rows_empty : (es : List (Term × List Object)) → es ≡ [] → rows_of es ≡ empty
rows_empty es e = same_map terms_total same_term _ _ (λ q. ap (λ fs. get (rows_of fs) q) e ∙ get-from_sorted order_of_terms [] q tt ∙ sym (get-empty order_of_terms q))

-- the same keys and objects, by what a clone of a map says
pub shown_cloned : (es fs : List (Term × List Object)) → AllZip (λ (p q : Term × List Object). (meaning_of q.0 ≡ meaning_of p.0) × (q.1 ≡ p.1)) es fs → shown fs ≡ shown es
shown_cloned [] [] h = refl
shown_cloned [] (f ∷ fs) h = absurd h
shown_cloned (e ∷ es) [] h = absurd h
shown_cloned (e ∷ es) (f ∷ fs) h = λ i. (h.0.0 i, h.0.1 i) ∷ shown_cloned es fs h.1 i

-- ---- what the methods of the map leave: it is in order and tidy, and shows these rows

abbrev pub Leaves : List (Term × List Object) → Rows → Type 0
Leaves es rows = (AreRising es × IsTidy (rows_of es)) × (rows_of es ≡ rows)

abbrev pub IsHeld : List (Term × List Object) → Type 0
IsHeld es = AreRising es × IsTidy (rows_of es)

tidy_as : (rows others : Rows) → others ≡ rows → IsTidy rows → IsTidy others
tidy_as rows others e tidy = subst IsTidy (sym e) tidy

pub leaves_empty : (es : List (Term × List Object)) → es ≡ [] → Leaves es empty
leaves_empty es e = ((subst AreRising (sym e) tt, tidy_as empty (rows_of es) (rows_empty es e) tidy_empty), rows_empty es e)

pub leaves_insert : (k : Term) (v : List Object) (es fs : List (Term × List Object)) → fs ≡ insert_entry order es k v → has_items v ≡ true → IsHeld es → Leaves fs (insert (rows_of es) (meaning_of k) v)
leaves_insert k v es fs e some held =
    let is : rows_of fs ≡ insert (rows_of es) (meaning_of k) v = ap rows_of e ∙ rows_insert k v es held.0 in
    ((subst AreRising (sym e) (rising_insert k v es held.0), tidy_as (insert (rows_of es) (meaning_of k) v) (rows_of fs) is (tidy_insert (meaning_of k) v (rows_of es) some held.1)), is)

pub leaves_remove : (k : Term) (es fs : List (Term × List Object)) → fs ≡ remove_entry (λ x. is_eq (order k x)) es → IsHeld es → Leaves fs (remove (rows_of es) (meaning_of k))
leaves_remove k es fs e held =
    let is : rows_of fs ≡ remove (rows_of es) (meaning_of k) = ap rows_of e ∙ rows_remove k es held.0 in
    ((subst AreRising (sym e) (rising_remove k es held.0), tidy_as (remove (rows_of es) (meaning_of k)) (rows_of fs) is (tidy_row (meaning_of k) [] (rows_of es) held.1)), is)

pub leaves_clone : (es fs : List (Term × List Object)) → AllZip (λ (p q : Term × List Object). (meaning_of q.0 ≡ meaning_of p.0) × (q.1 ≡ p.1)) es fs → IsHeld es → Leaves fs (rows_of es)
leaves_clone es fs h held =
    let same : shown fs ≡ shown es = shown_cloned es fs h in
    let is : rows_of fs ≡ rows_of es = ap from_sorted same in
    ((subst (λ gs. T (is_sorted order_of_terms gs)) (sym same) held.0, tidy_as (rows_of es) (rows_of fs) is held.1), is)
