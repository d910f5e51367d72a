-- Rows with no other pids: what is under keys, and all entries, after a write.
use Rattle.std.proofs.Common.{◌≡◌, ℕ, ◌-◌, ◌==◌, Bool, true, false, cond, not, List, [], ◌∷◌, ◌++◌, map, length, refl, sym, ap, subst, ◌∙◌, Option, Some, None, arith}
use Rattle.std.specs.Cmp.{alike_right, eq_by_cmp_equiv}
use Rattle.std.specs.FinMap.{entries, empty, remove, from_sorted, get-entries, entries-insert, entries-from_sorted, entries_sorted, get-from_sorted, get-remove, same_map, len-entries, len-empty}
use Rattle.std.specs.FinMap.Entries.{find, put, where_key, by_order, is_sorted-where_key, find-where_key}
use Rattle.std.specs.List.{AllByRecursion, list_any}
use Rattle.std.specs.Ordering.{eq_by_cmp, is_eq}
use Rattle.std.specs.declared.cmp.Ordering.{Ordering}
use Rattle.std.specs.declared.cmp.Ordering.TheVariants.{Less, Equal, Greater}
use Rattle.term_core.proofs.Pieces.{all-append}
use Rattle.term_core.specs.Meaning.{Meaning}
use Rattle.term_core.specs.Order.{order_of_terms}
use Rattle.world_model.proofs.RowLaws.{keys_total, keys_apart}
use Rattle.world_model.specs.Rows.{Key, Object, Rows, RowChange, Stores, Removes, Clears, same_object, part_at, with_part, with_parts, tuples, stored, rewritten, listed, under, with_row, rows_rewritten, joined, all_objects}
use Rattle.world_model.specs.Terms.{tuple, list_of}
use Rattle.world_model.specs.declared.table.Kind.{Kind}
use Rattle.world_model.specs.declared.table.Kind.TheVariants.{Set, OrderedSet, Bag, DuplicateBag}
use Rattle.world_pids.proofs.Told.{IfThere, chosen, all_filtered, IsTold, EachTold, tuple_told, onto_told}

-- ---- entries

turned : {A : Type 0} (b : Bool) (x y : A) → cond (not b) x y ≡ cond b y x
turned true x y = refl
turned false x y = refl

-- those that a removal leaves
entries-remove : (rows : Rows) (key : Key) → entries (remove rows key) ≡ where_key order_of_terms (λ y. not (eq_by_cmp order_of_terms key y)) (entries rows)
entries-remove rows key =
    let others = where_key order_of_terms (λ y. not (eq_by_cmp order_of_terms key y)) (entries rows) in
    let sorted = is_sorted-where_key order_of_terms (λ y. not (eq_by_cmp order_of_terms key y)) (entries rows) (entries_sorted rows) in
    ap entries (same_map keys_total keys_apart (remove rows key) (from_sorted others) (λ q.
    get-remove keys_total rows key q
    ∙ ap (cond (eq_by_cmp order_of_terms q key) None) (get-entries rows q)
    ∙ ap (λ b. cond b None (find order_of_terms q (entries rows))) (sym ((eq_by_cmp_equiv keys_total).symm key q))
    ∙ sym (turned (eq_by_cmp order_of_terms key q) _ _)
    ∙ sym (find-where_key order_of_terms (λ y. not (eq_by_cmp order_of_terms key y)) q (λ x t. ap (λ r. not (is_eq r)) (sym (alike_right keys_total q x key t))) (entries rows))
    ∙ sym (get-from_sorted order_of_terms others q sorted)))
    ∙ entries-from_sorted order_of_terms others sorted

no_entries : {A : Type 0} (es : List A) → length es ≡ 0 → es ≡ []
no_entries [] e = refl
no_entries (x ∷ es) e = absurd (omega (arith, e))

pub entries-empty : entries (empty {X = List Object} {R = order_of_terms}) ≡ []
entries-empty = no_entries _ (sym (len-entries empty) ∙ len-empty order_of_terms (List Object))

module _ (n : ℕ) where
  abbrev pub ObjectsTold : List Object → Type 0
  ObjectsTold objects = AllByRecursion (EachTold n) objects

  abbrev pub EntryTold : Key × List Object → Type 0
  EntryTold e = IsTold n e.0 × ObjectsTold e.1

  abbrev pub RowsTold : Rows → Type 0
  RowsTold rows = AllByRecursion EntryTold (entries rows)

  abbrev pub WritesTold : RowChange → Type 0
  WritesTold (Stores kind object) = EachTold n object
  WritesTold (Removes object) = Unit {0}
  WritesTold Clears = Unit {0}

  -- ---- under one key

  stored_told : (kind : Kind) (object : Object) (there : List Object) → EachTold n object → ObjectsTold there → ObjectsTold (stored kind object there)
  stored_told Set object there h k = (h, tt)
  stored_told OrderedSet object there h k = (h, tt)
  stored_told Bag object there h k = chosen ObjectsTold (list_any (same_object object) there) there (there ++ (object ∷ [])) k (all-append (EachTold n) there (object ∷ []) k (h, tt))
  stored_told DuplicateBag object there h k = all-append (EachTold n) there (object ∷ []) k (h, tt)

  pub part_set : (position : ℕ) (value : Meaning) (object : Object) → IsTold n value → EachTold n object → EachTold n (with_part position value object)
  part_set position value [] h k = tt
  part_set position value (y ∷ ys) h k = chosen (EachTold n) (position == 1) (value ∷ ys) (y ∷ with_part (position - 1) value ys) (h, k.1) (k.0, part_set (position - 1) value ys h k.1)

  abbrev pub PartTold : ℕ × Meaning → Type 0
  PartTold part = IsTold n part.1

  pub parts_set : (parts : List (ℕ × Meaning)) (object : Object) → AllByRecursion PartTold parts → EachTold n object → EachTold n (with_parts parts object)
  parts_set [] object h k = k
  parts_set (part ∷ parts) object h k = parts_set parts (with_part part.0 part.1 object) h.1 (part_set part.0 part.1 object h.0 k)

  pub rewritten_told : (change : RowChange) (there : List Object) → WritesTold change → ObjectsTold there → ObjectsTold (rewritten change there)
  rewritten_told (Stores kind object) there h k = stored_told kind object there h k
  rewritten_told (Removes object) there h k = all_filtered (EachTold n) (λ x. not (same_object object x)) there k
  rewritten_told Clears there h k = tt

  -- ---- all rows

  by_order_told : (r : Ordering) (xs ys zs : List (Key × List Object)) → AllByRecursion EntryTold xs → AllByRecursion EntryTold ys → AllByRecursion EntryTold zs → AllByRecursion EntryTold (by_order r xs ys zs)
  by_order_told Less xs ys zs h k l = h
  by_order_told Equal xs ys zs h k l = k
  by_order_told Greater xs ys zs h k l = l

  put_told : (key : Key) (objects : List Object) (es : List (Key × List Object)) → IsTold n key → ObjectsTold objects → AllByRecursion EntryTold es → AllByRecursion EntryTold (put order_of_terms key objects es)
  put_told key objects [] h k all = ((h, k), tt)
  put_told key objects (e ∷ es) h k all =
      by_order_told (order_of_terms key e.0) ((key, objects) ∷ e ∷ es) ((e.0, objects) ∷ es) (e ∷ put order_of_terms key objects es) ((h, k), all) ((all.0.0, k), all.1) (all.0, put_told key objects es h k all.1)

  with_told : (key : Key) (objects : List Object) (rows : Rows) → IsTold n key → ObjectsTold objects → RowsTold rows → RowsTold (with_row key objects rows)
  with_told key [] rows h k all = subst (AllByRecursion EntryTold) (sym (entries-remove rows key)) (all_filtered EntryTold (λ (e : Key × List Object). not (eq_by_cmp order_of_terms key e.0)) (entries rows) all)
  with_told key (x ∷ xs) rows h k all = subst (AllByRecursion EntryTold) (sym (entries-insert keys_total rows key (x ∷ xs))) (put_told key (x ∷ xs) (entries rows) h k all)

  find_told : (key : Key) (es : List (Key × List Object)) → AllByRecursion EntryTold es → IfThere ObjectsTold (find order_of_terms key es)
  find_told key [] all = tt
  find_told key (e ∷ es) all = chosen (IfThere ObjectsTold) (eq_by_cmp order_of_terms key e.0) (Some e.1) (find order_of_terms key es) all.0.1 (find_told key es all.1)

  listed_told : (o : Option (List Object)) → IfThere ObjectsTold o → ObjectsTold (listed o)
  listed_told None h = tt
  listed_told (Some objects) h = h

  under_told : (rows : Rows) (key : Key) → RowsTold rows → ObjectsTold (under rows key)
  under_told rows key all = listed_told _ (subst (IfThere ObjectsTold) (sym (get-entries rows key)) (find_told key (entries rows) all))

  pub all_rewritten : (key : Key) (change : RowChange) (rows : Rows) → IsTold n key → WritesTold change → RowsTold rows → RowsTold (rows_rewritten key change rows)
  all_rewritten key change rows h k all = with_told key (rewritten change (under rows key)) rows h (rewritten_told change (under rows key) k (under_told rows key all)) all

  pub no_rows : RowsTold empty
  no_rows = subst (AllByRecursion EntryTold) (sym entries-empty) tt

  -- ---- what is answered of them

  keys_in : (es : List (Key × List Object)) → AllByRecursion EntryTold es → EachTold n (map (λ (e : Key × List Object). e.0) es)
  keys_in [] all = tt
  keys_in (e ∷ es) all = (all.0.0, keys_in es all.1)

  pub keys_told : (rows : Rows) → RowsTold rows → EachTold n (map (λ (e : Key × List Object). e.0) (entries rows))
  keys_told rows all = keys_in (entries rows) all

  joined_told : (es : List (Key × List Object)) → AllByRecursion EntryTold es → ObjectsTold (joined (map (λ (e : Key × List Object). e.1) es))
  joined_told [] all = tt
  joined_told (e ∷ es) all = all-append (EachTold n) e.1 (joined (map (λ (x : Key × List Object). x.1) es)) all.0.1 (joined_told es all.1)

  pub objects_told : (rows : Rows) → RowsTold rows → ObjectsTold (all_objects rows)
  objects_told rows all = joined_told (entries rows) all

  pub part_told : (position : ℕ) (object : Object) → EachTold n object → IfThere (IsTold n) (part_at position object)
  part_told position [] h = tt
  part_told position (x ∷ xs) h = chosen (IfThere (IsTold n)) (position == 0) None _ tt (chosen (IfThere (IsTold n)) (position == 1) (Some x) (part_at (position - 1) xs) h.0 (part_told (position - 1) xs h.1))

  each_tuple : (objects : List Object) → ObjectsTold objects → EachTold n (map tuple objects)
  each_tuple [] h = tt
  each_tuple (object ∷ objects) h = (tuple_told n object h.0, each_tuple objects h.1)

  pub list_told : (ms : List Meaning) → EachTold n ms → IsTold n (list_of ms)
  list_told ms h = onto_told n ms _ h tt

  pub tuples_told : (objects : List Object) → ObjectsTold objects → IsTold n (tuples objects)
  tuples_told objects h = list_told (map tuple objects) (each_tuple objects h)
