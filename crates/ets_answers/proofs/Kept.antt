-- Each key that has objects stays one with these, whatever changes.
use Rattle.std.proofs.Common.{◌≡◌, Bool, true, false, ◌&&◌, cond, inl, inr, if◌then◌else◌, List, [], ◌∷◌, sym, ap, ◌∙◌}
use Rattle.std.specs.FinMap.{empty, get, get-empty}
use Rattle.term_core.specs.Order.{order_of_terms}
use Rattle.world_model.specs.Cells.{Contents, Row, Rows, meet}
use Rattle.world_model.specs.Changes.{Change, after, changed, RowWritten, RowsCleared, CellTouched}
use Rattle.world_model.specs.Names.{Ref, same_ref}
use Rattle.world_model.specs.Rows as rows
use Rattle.world_model.specs.Rows.{Key, Object, RowChange, rewritten, rows_rewritten, same_key, some_if, under, listed}
use Rattle.world_model.proofs.Commuting.{either_is, either_way}
use Rattle.world_model.proofs.RowLaws.{keys_same, turned, other_way, listed_some, get-with_row}

abbrev pub AreIn : Ref → Contents → Type 0
AreIn t v = (key : Key) → get (v (Rows t)) key ≡ some_if (v (Row t key))

written : (b : Bool) (l k : Key) (c : RowChange) (all : rows.Rows) (xs : List Object) → get all k ≡ some_if xs → get (if b then rows_rewritten l c all else all) k ≡ some_if (if b && same_key l k then rewritten c xs else xs)
written false l k c all xs is = is
written true l k c all xs is =
    elim (either_is (same_key l k)) [
      | inl same ↦
          get-with_row l (rewritten c (under all l)) all k ∙ ap (λ b. cond b (some_if (rewritten c (under all l))) (get all k)) (turned l k same)
          ∙ ap (λ x. some_if (rewritten c (under all x))) (keys_same l k same)
          ∙ ap (λ o. some_if (rewritten c (listed o))) is ∙ ap (λ ys. some_if (rewritten c ys)) (listed_some xs)
          ∙ sym (ap (λ b. some_if (if b then rewritten c xs else xs)) same)
      | inr other ↦
          get-with_row l (rewritten c (under all l)) all k ∙ ap (λ b. cond b (some_if (rewritten c (under all l))) (get all k)) (other_way l k other)
          ∙ is ∙ sym (ap (λ b. some_if (if b then rewritten c xs else xs)) other)
    ]

wiped : (b : Bool) (k : Key) (all : rows.Rows) (xs : List Object) → get all k ≡ some_if xs → get (if b then empty else all) k ≡ some_if (if b then [] else xs)
wiped true k all xs is = get-empty order_of_terms k
wiped false k all xs is = is

kept_by : (t : Ref) (j : Change) (v : Contents) → AreIn t v → AreIn t (changed j v)
kept_by t (RowWritten u l c) v are k = written (same_ref u t) l k c (v (Rows t)) (v (Row t k)) (are k)
kept_by t (RowsCleared u) v are k = wiped (same_ref u t) k (v (Rows t)) (v (Row t k)) (are k)
kept_by t (CellTouched d) v are k = ap (λ all. get all k) (either_way (meet d (Rows t)) (v (Rows t))) ∙ are k ∙ sym (ap some_if (either_way (meet d (Row t k)) (v (Row t k))))
kept_by t j v are k = are k

pub kept : (t : Ref) (ks : List Change) (v : Contents) → AreIn t v → AreIn t (after ks v)
kept t [] v are = are
kept t (k ∷ ks) v are = kept t ks (changed k v) (kept_by t k v are)
