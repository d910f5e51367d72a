use Rattle.std.proofs.Common.{◌∷◌, ap, refl, subst}
use Rattle.ets_rules.specs.Tables.{IsFoundBy, found_of}
use Rattle.world_model.specs.Calls.{ByName}
use Rattle.world_model.specs.Cells as cells
use Rattle.world_planned.proofs.Adding.{adds_as, adds_then}
use Rattle.world_table_calls.proofs.Going.{meant_none, meant_some}
use Rattle.world_table_calls.proofs.on_tables.read_named.Goals as goal

pub returns-in_default : goal.returns-in_default
returns-in_default c = λ v meant by.
    let name = c.args.name.now in
    let none = subst (IsFoundBy v (ByName name)) c.in_default.is by in
    adds_as _ _ _ _ _ _ (ap (λ cs. cells.TableName name ∷ cs) (meant_none v meant name (v (cells.TableName name)) refl none.finds)) refl c.in_ok-read_name.ensures

pub returns-in_ok-read_reference : goal.returns-in_ok-read_reference
returns-in_ok-read_reference c = λ v meant by.
    let name = c.args.name.now in
    let here = subst (IsFoundBy v (ByName name)) c.in-Some.is by in
    adds_as _ _ _ _ _ _ (ap (λ cs. cells.TableName name ∷ cs) (meant_some v (found_of c.in-Some.found) (v (cells.TableName name)) here.finds)) refl
    (adds_then _ _ _ _ _ _ _ c.in_ok-read_name.ensures c.in_ok-read_reference.ensures)
