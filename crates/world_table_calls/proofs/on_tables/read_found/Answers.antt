use Rattle.std.proofs.Common.{◌∙◌, ap, option_map, refl, sym}
use Rattle.ets_calls.specs.Calls.{call_in}
use Rattle.ets_rules.specs.Tables.{found_of}
use Rattle.world_model.specs.Names.{ref_of}
use Rattle.world_model.specs.RowFootprints.{cells_of}
use Rattle.world_model.specs.TableRules.{rows_of_found}
use Rattle.world_planned.proofs.Adding.{adds_as, adds_none}
use Rattle.world_table_calls.proofs.on_tables.read_found.Goals as goal

pub returns-in_default : goal.returns-in_default
returns-in_default c = adds_as _ _ _ _ _ _ (ap (λ o. rows_of_found c.args.caller.now (call_in c.args.call.now) (option_map found_of o)) (sym c.in_default.is)) refl (adds_none c.args.planned.now)

pub returns : goal.returns
returns c =
    let t = ref_of c.in-Some.found.id.now in
    adds_as _ _ _ _ _ _ (ap (cells_of t) (c.in_ok-touched.ensures t) ∙ ap (λ o. rows_of_found c.args.caller.now (call_in c.args.call.now) (option_map found_of o)) (sym c.in-Some.is)) refl c.in_ok-read_touched.ensures
