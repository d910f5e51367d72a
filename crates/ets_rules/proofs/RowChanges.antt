-- A change of the rows of one table leaves all else.
use Rattle.std.proofs.Common.{◌≡◌, ◌&&◌, Bool, true, false, if◌then◌else◌, true≢false, refl, ap}
use Rattle.ets_rules.specs.inside.Parts.{KeepsOthers}
use Rattle.world_model.specs.Cells.{Contents, Row}
use Rattle.world_model.specs.Changes.{RowWritten, RowsCleared, changed, renewed}
use Rattle.world_model.specs.Names.{Ref, same_ref}
use Rattle.world_model.specs.Rows.{Key, RowChange, same_key}

not_met : {A : Type 0} (b : Bool) (x y : A) → b ≡ false → (if b then x else y) ≡ y
not_met true x y e = absurd (true≢false e)
not_met false x y e = refl

pub write_keeps : (t : Ref) (key : Key) (change : RowChange) (v : Contents) → KeepsOthers t v (changed (RowWritten t key change) v)
write_keeps t key change v = record {
  tables = λ u. refl;
  rows = λ u e. not_met (same_ref t u) _ _ e;
  each_row = λ u k e. ap (λ b. if b && same_key key k then renewed (RowWritten t key change) (Row u k) (v (Row u k)) else v (Row u k)) e;
  names = λ name. refl;
  owned = λ p. refl;
}

pub wipe_keeps : (t : Ref) (v : Contents) → KeepsOthers t v (changed (RowsCleared t) v)
wipe_keeps t v = record {
  tables = λ u. refl;
  rows = λ u e. not_met (same_ref t u) _ _ e;
  each_row = λ u k e. not_met (same_ref t u) _ _ e;
  names = λ name. refl;
  owned = λ p. refl;
}
