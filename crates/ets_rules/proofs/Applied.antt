-- What a change as a value is once it is taken apart, and what it leaves.
use Rattle.std.proofs.Common.{◌≡◌, ◌∷◌, [], Option, Some, None, IsSome, true≢false, refl, sym, subst}
use Rattle.std.specs.Result.{OnOk}
use Rattle.std.specs.declared.result.Result.{Result}
use Rattle.std.specs.declared.result.Result.TheVariants.{Ok, Err}
use Rattle.term_core.specs.declared.pid.RefId.{RefId}
use Rattle.term_core.specs.declared.term.Term.{Term}
use Rattle.term_core.specs.Term.{meaning_of}
use Rattle.world_model.specs.Cells as cells
use Rattle.world_model.specs.Cells.{Contents}
use Rattle.world_model.specs.Changes as changes
use Rattle.world_model.specs.Changes.{after, changed}
use Rattle.world_model.specs.Names.{ref_of}
use Rattle.world_model.specs.Rows as rows
use Rattle.world_model.specs.Tables as tables
use Rattle.world_model.specs.declared.table.Kind.{Kind}
use Rattle.ets_rules.specs.Changes.{IsOfKind, changes_of_tables, row_change_in}
use Rattle.ets_rules.specs.Tables.{ChangesRow, Hold}
use Rattle.ets_rules.specs.inside.Applied.{Applies}
use Rattle.ets_rules.specs.declared.change.RowChange.{RowChange}
use Rattle.ets_rules.specs.declared.change.TableChange.{TableChange}
use Rattle.ets_rules.specs.declared.change.TableChange.TheVariants.{RowWritten, TableTouched}
use Rattle.ets_rules.specs.declared.tables.Tables.{Tables}
use Rattle.ets_rules.proofs.Holding.{hold_after}
use Rattle.ets_rules.proofs.Apart.{touch_apart}

-- a change that is of this form
pub applies_as : {E T : Type 0} (r : Result T E) (change form : TableChange) (old new : Tables) → change ≡ form → OnOk r (Applies form old new) → OnOk r (Applies change old new)
applies_as r change form old new is done = subst (λ k. OnOk r (Applies k old new)) (sym is) done

on_ok : {E T P Q : Type 0} (r : Result T E) → (P → Q) → OnOk r P → OnOk r Q
on_ok (Ok x) f p = f p
on_ok (Err e) f p = tt

-- and that all cells allow
pub follows_as : {E T : Type 0} (r : Result T E) (change form : TableChange) (old new : Tables) → change ≡ form → OnOk r ((v : Contents) → Hold old v → Hold new (after (changes_of_tables form) v)) → OnOk r (Applies change old new)
follows_as r change form old new is done = applies_as r change form old new is (on_ok r (λ follows v hold can. follows v hold) done)

-- ---- rows of a table that is there

pub with_table : {P : Type 0} (there : Option tables.Table) → IsSome there → ((table : tables.Table) → there ≡ Some table → P) → P
with_table None some f = absurd (true≢false (sym some))
with_table (Some table) some f = f table refl

pub with_kind : (there : Option tables.Table) (kind : Kind) (object : rows.Object) (P : Kind → Type 0) → IsSome there → IsOfKind (rows.Stores kind object) there → ((table : tables.Table) → there ≡ Some table → P table.kind) → P kind
with_kind None kind object P some is f = absurd (true≢false (sym some))
with_kind (Some table) kind object P some is f = subst P (sym is) (f table refl)

-- a change of rows that is of this form
pub rewrites_as : {E T : Type 0} (r : Result T E) (id : RefId) (key : Term) (change form : RowChange) (old new : Tables) → change ≡ form → OnOk r (Applies (RowWritten id key form) old new) → OnOk r (Applies (RowWritten id key change) old new)
rewrites_as r id key change form old new is done = subst (λ k. OnOk r (Applies (RowWritten id key k) old new)) (sym is) done

-- and that tables of all kinds allow
pub rewrites_any : {E T : Type 0} (r : Result T E) (id : RefId) (key : Term) (change form : RowChange) (old new : Tables) → change ≡ form → OnOk r (ChangesRow (ref_of id) (meaning_of key) (λ table. row_change_in form) old new) → OnOk r (Applies (RowWritten id key change) old new)
rewrites_any r id key change form old new is done =
    rewrites_as r id key change form old new is (on_ok r (λ changes v hold can. with_table (v (cells.Table (ref_of id))) can.0.0 (λ table there. changes v table there hold)) done)

-- ---- a table that is only touched

pub touches : (change : TableChange) (id : RefId) (old : Tables) → change ≡ TableTouched id → Applies change old old
touches change id old is = subst (λ k. Applies k old old) (sym is)
    (λ v hold can. hold_after old old (changes.CellTouched (cells.Table (ref_of id)) ∷ []) v hold (touch_apart old.registry v (ref_of id) hold.are))
