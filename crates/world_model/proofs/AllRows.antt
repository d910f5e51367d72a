-- All rows of a table are the rows under its keys.
use Rattle.std.proofs.Common.{◌≡◌, Bool, true, false, ◌&&◌, cond, List, [], ◌∷◌, sym, ap, ◌∙◌, inl, inr, if◌then◌else◌}
use Rattle.std.specs.FinMap.{get, empty, entries, from_sorted, get-empty, get-from_sorted, entries-from_sorted, same_map}
use Rattle.term_core.specs.Order.{order_of_terms}
use Rattle.world_model.specs.Cells.{Rows, Row, Contents, meet}
use Rattle.world_model.specs.Changes.{Change, changed, RowWritten, RowsCleared, CellTouched, after}
use Rattle.world_model.specs.Names.{Ref, same_ref}
use Rattle.world_model.specs.Rows.{under, listed, Key, some_if, RowChange, Object, rows_rewritten, rewritten, same_key, Rows as RowsOf}
use Rattle.world_model.specs.Steps.{changes_by}
use Rattle.world_model.specs.TableLaws.{AreRows, AreByKey, AreWalked}
use Rattle.world_model.specs.World.{all_rows, contents}
use Rattle.world_model.proofs.Commuting.{either_is, either_way}
use Rattle.world_model.proofs.RowLaws.{keys_total, keys_apart, keys_same, turned, other_way, listed_some, get-with_row}

abbrev AreIn : Contents → Type 0
AreIn v = (t : Ref) (key : Key) → get (v (Rows t)) key ≡ some_if (v (Row t key))

written : (b : Bool) (l k : Key) (c : RowChange) (rows : RowsOf) (xs : List Object) → get rows k ≡ some_if xs → get (if b then rows_rewritten l c rows else rows) k ≡ some_if (if b && same_key l k then rewritten c xs else xs)
written false l k c rows xs is = is
written true l k c rows xs is =
    elim (either_is (same_key l k)) [
      | inl same ↦
          get-with_row l (rewritten c (under rows l)) rows k ∙ ap (λ b. cond b (some_if (rewritten c (under rows l))) (get rows k)) (turned l k same)
          ∙ ap (λ x. some_if (rewritten c (under rows x))) (keys_same l k same)
          ∙ ap (λ o. some_if (rewritten c (listed o))) is ∙ ap (λ ys. some_if (rewritten c ys)) (listed_some xs)
          ∙ sym (ap (λ b. some_if (if b then rewritten c xs else xs)) same)
      | inr other ↦
          get-with_row l (rewritten c (under rows l)) rows k ∙ ap (λ b. cond b (some_if (rewritten c (under rows l))) (get rows k)) (other_way l k other)
          ∙ is ∙ sym (ap (λ b. some_if (if b then rewritten c xs else xs)) other)
    ]

wiped : (b : Bool) (k : Key) (rows : RowsOf) (xs : List Object) → get rows k ≡ some_if xs → get (if b then empty else rows) k ≡ some_if (if b then [] else xs)
wiped true k rows xs is = get-empty order_of_terms k
wiped false k rows xs is = is

kept_by : (j : Change) (v : Contents) → AreIn v → AreIn (changed j v)
kept_by (RowWritten u l c) v are t k = written (same_ref u t) l k c (v (Rows t)) (v (Row t k)) (are t k)
kept_by (RowsCleared u) v are t k = wiped (same_ref u t) k (v (Rows t)) (v (Row t k)) (are t k)
kept_by (CellTouched d) v are t k = ap (λ rows. get rows k) (either_way (meet d (Rows t)) (v (Rows t))) ∙ are t k ∙ sym (ap some_if (either_way (meet d (Row t k)) (v (Row t k))))
kept_by j v are t k = are t k

kept : (ks : List Change) (v : Contents) → AreIn v → AreIn (after ks v)
kept [] v are = are
kept (k ∷ ks) v are = kept ks (changed k v) (kept_by k v are)

pub are_rows : AreRows
unfolding contents
are_rows [] = λ t k. get-empty order_of_terms k
are_rows (e ∷ h) = kept (changes_by (contents h) e.step e.deed) (contents h) (are_rows h)

pub are_by_key : AreByKey
are_by_key h g t same = same_map keys_total keys_apart _ _ (λ q. are_rows h t q ∙ ap some_if (same q) ∙ sym (are_rows g t q))

pub are_walked : AreWalked
are_walked h t es sorted is =
    ap entries (same_map keys_total keys_apart (all_rows h t) (from_sorted es) (λ q. are_rows h t q ∙ sym (get-from_sorted order_of_terms es q sorted ∙ is q)))
    ∙ entries-from_sorted order_of_terms es sorted
