-- Walks over the keys of a map, against walks over the rows that it shows.
use Rattle.std.proofs.Common.{◌≡◌, true, false, cond, not, ◌&&◌, List, [], ◌∷◌, ◌++◌, map, Some, None, refl, sym, ap, ◌∙◌}
use Rattle.std.proofs.lemmas.List.{reverse-append}
use Rattle.std.specs.BTreeMap.Range.{entries_between}
use Rattle.std.specs.FinMap.{keys}
use Rattle.std.specs.List.{filter}
use Rattle.std.specs.Ordering.{is_lt, is_gt, is_le}
use Rattle.std.specs.declared.cmp.Ordering.TheVariants.{Less, Equal, Greater}
use Rattle.std.specs.declared.ops.Bound.TheVariants.{Excluded, Unbounded}
use Rattle.term_core.specs.Order.{order_of_terms}
use Rattle.term_core.specs.Term.{meaning_of}
use Rattle.term_core.specs.declared.term.Term.{Term}
use Rattle.world_model.specs.Rows.{Rows, Key, Object}
use Rattle.world_model.specs.Signals.{first_of}
use Rattle.world_model.specs.Walks.{last_of, key_after}
use Rattle.ets_store.specs.inside.Shown.{shown, rows_of, AreRising}
use Rattle.ets_store.proofs.Maps.{order, entries_shown}

abbrev pub keys_in : List (Term × List Object) → List Key
keys_in [] = []
keys_in (e ∷ es) = meaning_of e.0 ∷ keys_in es

keys_of_shown : (es : List (Term × List Object)) → map (λ (e : Key × List Object). e.0) (shown es) ≡ keys_in es
keys_of_shown [] = refl
keys_of_shown (e ∷ es) = ap (λ ks. meaning_of e.0 ∷ ks) (keys_of_shown es)

pub keys_shown : (es : List (Term × List Object)) → AreRising es → keys (rows_of es) ≡ keys_in es
keys_shown es h = ap (map (λ (e : Key × List Object). e.0)) (entries_shown es h) ∙ keys_of_shown es

keys_in_append : (es fs : List (Term × List Object)) → keys_in (es ++ fs) ≡ keys_in es ++ keys_in fs
keys_in_append [] fs = refl
keys_in_append (e ∷ es) fs = ap (λ ks. meaning_of e.0 ∷ ks) (keys_in_append es fs)

-- ---- what an iterator takes first and last

pub first_taken : (es fs : List (Term × List Object)) (k : Term) (v : List Object) → es ≡ (k, v) ∷ fs → Some (meaning_of k) ≡ first_of (keys_in es)
first_taken es fs k v e = sym (ap (λ gs. first_of (keys_in gs)) e)

pub none_taken : (es : List (Term × List Object)) → es ≡ [] → None ≡ first_of (keys_in es)
none_taken es e = sym (ap (λ gs. first_of (keys_in gs)) e)

last_of_put : {A : Type 0} (xs : List A) (x : A) → last_of (xs ++ x ∷ []) ≡ Some x
last_of_put xs x = ap first_of (reverse-append xs (x ∷ []))

pub last_taken : (es fs : List (Term × List Object)) (k : Term) (v : List Object) → es ≡ fs ++ (k, v) ∷ [] → Some (meaning_of k) ≡ last_of (keys_in es)
last_taken es fs k v e = sym (ap (λ gs. last_of (keys_in gs)) e ∙ ap last_of (keys_in_append fs ((k, v) ∷ [])) ∙ last_of_put (keys_in fs) (meaning_of k))

pub none_taken_last : (es : List (Term × List Object)) → es ≡ [] → None ≡ last_of (keys_in es)
none_taken_last es e = sym (ap (λ gs. last_of (keys_in gs)) e)

-- ---- parts of the map

pub keys_above : (k : Term) (es : List (Term × List Object)) → keys_in (entries_between order (Excluded k) Unbounded es) ≡ filter (λ q. is_lt (order_of_terms (meaning_of k) q)) (keys_in es)
keys_above k [] = refl
keys_above k (e ∷ es) =
    elim (is_lt (order k e.0)) as (λ b. keys_in (cond (b && true) (e ∷ entries_between order (Excluded k) Unbounded es) (entries_between order (Excluded k) Unbounded es)) ≡ cond b (meaning_of e.0 ∷ filter (λ q. is_lt (order_of_terms (meaning_of k) q)) (keys_in es)) (filter (λ q. is_lt (order_of_terms (meaning_of k) q)) (keys_in es))) [
      | true ↦ ap (λ ks. meaning_of e.0 ∷ ks) (keys_above k es)
      | false ↦ keys_above k es
    ]

pub keys_below : (k : Term) (es : List (Term × List Object)) → keys_in (entries_between order Unbounded (Excluded k) es) ≡ filter (λ q. is_gt (order_of_terms (meaning_of k) q)) (keys_in es)
keys_below k [] = refl
keys_below k (e ∷ es) =
    elim (order k e.0) as (λ r. keys_in (cond (true && not (is_le r)) (e ∷ entries_between order Unbounded (Excluded k) es) (entries_between order Unbounded (Excluded k) es)) ≡ cond (is_gt r) (meaning_of e.0 ∷ filter (λ q. is_gt (order_of_terms (meaning_of k) q)) (keys_in es)) (filter (λ q. is_gt (order_of_terms (meaning_of k) q)) (keys_in es))) [
      | Less ↦ keys_below k es
      | Equal ↦ keys_below k es
      | Greater ↦ ap (λ ks. meaning_of e.0 ∷ ks) (keys_below k es)
    ]

-- ---- walks

pub first_is : (es fs : List (Term × List Object)) (rows : Rows) → AreRising es → rows_of es ≡ rows → fs ≡ es → first_of (keys_in fs) ≡ first_of (keys rows)
first_is es fs rows h is e = ap (λ gs. first_of (keys_in gs)) e ∙ ap first_of (sym (keys_shown es h)) ∙ ap (λ m. first_of (keys m)) is

pub last_is : (es fs : List (Term × List Object)) (rows : Rows) → AreRising es → rows_of es ≡ rows → fs ≡ es → last_of (keys_in fs) ≡ last_of (keys rows)
last_is es fs rows h is e = ap (λ gs. last_of (keys_in gs)) e ∙ ap last_of (sym (keys_shown es h)) ∙ ap (λ m. last_of (keys m)) is

pub after_is : (k : Term) (es fs : List (Term × List Object)) (rows : Rows) → AreRising es → rows_of es ≡ rows → fs ≡ entries_between order (Excluded k) Unbounded es → first_of (keys_in fs) ≡ key_after (meaning_of k) rows
after_is k es fs rows h is e =
    ap (λ gs. first_of (keys_in gs)) e ∙ ap first_of (keys_above k es)
    ∙ ap (λ ks. first_of (filter (λ q. is_lt (order_of_terms (meaning_of k) q)) ks)) (sym (keys_shown es h))
    ∙ ap (key_after (meaning_of k)) is

pub before_is : (k : Term) (es fs : List (Term × List Object)) (rows : Rows) → AreRising es → rows_of es ≡ rows → fs ≡ entries_between order Unbounded (Excluded k) es → last_of (keys_in fs) ≡ last_of (filter (λ q. is_gt (order_of_terms (meaning_of k) q)) (keys rows))
before_is k es fs rows h is e =
    ap (λ gs. last_of (keys_in gs)) e ∙ ap last_of (keys_below k es)
    ∙ ap (λ ks. last_of (filter (λ q. is_gt (order_of_terms (meaning_of k) q)) ks)) (sym (keys_shown es h))
    ∙ ap (λ m. last_of (filter (λ q. is_gt (order_of_terms (meaning_of k) q)) (keys m))) is
