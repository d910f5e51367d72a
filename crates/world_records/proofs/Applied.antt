-- What a change as a value is once it is taken apart, and what it leaves where only a cell is touched.
use Rattle.std.proofs.Common.{◌≡◌, ◌∷◌, [], Bool, true, false, List, if◌then◌else◌, refl, sym, subst}
use Rattle.std.specs.Result.{OnOk}
use Rattle.std.specs.declared.result.Result.{Result}
use Rattle.std.specs.declared.result.Result.TheVariants.{Ok, Err}
use Rattle.core_tree.specs.Syntax.{ModuleTree}
use Rattle.ets_rules.specs.Changes as tables
use Rattle.ets_rules.specs.Changes.{changes_of_tables}
use Rattle.ets_rules.specs.declared.change.TableChange.{TableChange}
use Rattle.ets_rules.specs.declared.change.TableChange.TheVariants.{RowWritten, RowsCleared, TableSet, TableTouched, OwnerSet, HeirSet, TableRemoved, NameSet, NameCleared, OwnedAdded, OwnedRemoved, OwnedCleared}
use Rattle.world_model.specs.Cells as cells
use Rattle.world_model.specs.Cells.{Contents}
use Rattle.world_model.specs.Changes as changes
use Rattle.world_model.specs.Changes.{after, changed}
use Rattle.world_model.proofs.SortLaws.{AllAmong}
use Rattle.world_records.specs.Cells.{cell_in}
use Rattle.world_records.specs.Changes.{CanApply, CanHold, changes_in}
use Rattle.world_records.specs.Records.{Agrees}
use Rattle.world_records.specs.inside.Applied.{Applies}
use Rattle.world_records.specs.declared.cell.Cell as stored
use Rattle.world_records.specs.declared.change.Change.{Change}
use Rattle.world_records.specs.declared.change.Change.TheVariants.{CellTouched}
use Rattle.world_records.specs.declared.records.Records.{Records}
use Rattle.world_records.proofs.Changing.{agrees_same}
use Rattle.world_records.proofs.Parts.{of_tables}

-- a change that is of this form
pub applies_as : {E T : Type 0} (r : Result T E) (change form : Change) (old new : Records) → change ≡ form → OnOk r (Applies form old new) → OnOk r (Applies change old new)
applies_as r change form old new is done = subst (λ k. OnOk r (Applies k old new)) (sym is) done

on_ok : {E T P Q : Type 0} (r : Result T E) → (P → Q) → OnOk r P → OnOk r Q
on_ok (Ok x) f p = f p
on_ok (Err e) f p = tt

-- and that all cells allow
pub follows_as : {E T : Type 0} (r : Result T E) (change form : Change) (old new : Records) → change ≡ form → OnOk r ((m : ModuleTree) (v : Contents) → Agrees m old v → Agrees m new (after (changes_in form) v)) → OnOk r (Applies change old new)
follows_as r change form old new is done = applies_as r change form old new is (on_ok r (λ follows m v told can. follows m v told) done)

-- a cell that is touched is what it was
either : {A : Type 0} (b : Bool) (x : A) → (if b then x else x) ≡ x
either true x = refl
either false x = refl

same_touched : (touched : cells.Cell) (v : Contents) (c : cells.Cell) → changed (changes.CellTouched touched) v c ≡ v c
same_touched touched v c = either (cells.meet touched c) (v c)

pub touches : (change : Change) (cell : stored.Cell) (old : Records) → change ≡ CellTouched cell → Applies change old old
touches change cell old is = subst (λ k. Applies k old old) (sym is)
    (λ m v told can. let same = same_touched (cell_in cell) v in
    agrees_same m old v (changed (changes.CellTouched (cell_in cell)) v) (λ c here. same c) (λ c here. same c) (λ c here. same c) (λ c here. same c) (λ c here. same c) (λ c here. same c) (λ c here. same c) (λ c here. same c) told)

-- ---- tables

-- what tables need is needed here too
part_holds : (v : Contents) (k : changes.Change) → CanHold v k → tables.CanHold v k
part_holds v (changes.MessageTaken p message) can = record {}
part_holds v k can = can

pub tables_can : (v : Contents) (ks : List changes.Change) → CanApply v ks → tables.CanApply v ks
tables_can v [] can = record {}
tables_can v (k ∷ ks) can = (part_holds v k can.0, tables_can (changed k v) ks can.1)

-- what changes of tables mean are changes of their cells
pub are_of_tables : (change : TableChange) → AllAmong of_tables (changes_of_tables change)
are_of_tables (RowWritten id key change) = (refl, tt)
are_of_tables (RowsCleared id) = (refl, tt)
are_of_tables (TableSet id owner name options) = (refl, tt)
are_of_tables (TableTouched id) = (refl, tt)
are_of_tables (OwnerSet id owner) = (refl, tt)
are_of_tables (HeirSet id heir) = (refl, tt)
are_of_tables (TableRemoved id) = (refl, (refl, tt))
are_of_tables (NameSet name id) = (refl, tt)
are_of_tables (NameCleared name) = (refl, tt)
are_of_tables (OwnedAdded p id) = (refl, tt)
are_of_tables (OwnedRemoved p id) = (refl, tt)
are_of_tables (OwnedCleared p) = (refl, tt)
