use Rattle.std.proofs.Common.{◌∷◌, [], map, ap, subst, sym, ◌∙◌}
use Rattle.ets_calls.specs.Options.{option_in}
use Rattle.world_model.specs.Changes.{RowsCleared, TableRemoved, after}
use Rattle.world_model.specs.Names.{ref_of}
use Rattle.world_model.specs.NewTables.{made}
use Rattle.world_model.specs.Tables.{handle_of, table_of}
use Rattle.ets_rules.specs.Changes.{CanApply, all_changes_of_tables}
use Rattle.ets_rules.specs.Tables.{Hold}
use Rattle.ets_rules.proofs.Passing.{is_gone, made_anew}
use Rattle.ets_rules.proofs.Planning.{hold_copied, new_applies}
use Rattle.ets_rules.proofs.tables.Tables.make.Goals as goal

pub returns-clause-answer : goal.returns-clause-answer
returns-clause-answer c =
    let t = ref_of c.args.id.now in
    c.in_ok-created.ensures.handle ∙ ap (λ os. handle_of t (table_of c.args.owner.now c.args.name.now os)) c.in_ok-options.ensures

pub returns-clause-tables : goal.returns-clause-tables
returns-clause-tables c = λ v hold none.
    let t = ref_of c.args.id.now in
    let p = c.args.owner.now in
    let name = c.args.name.now in
    let os = map option_in c.args.options.now in
    let w = after (TableRemoved t ∷ RowsCleared t ∷ []) v in
    let is = ap all_changes_of_tables c.as_slice.ensures.value ∙ c.in_ok-created.ensures.changes ∙ ap (made p t name) c.in_ok-options.ensures in
    let taken = c.in_ok-take.ensures.ok v (hold_copied c.args.self.now c.in_ok-changed.changed v c.in_ok-changed.ensures hold) in
    made_anew c.args.self.now c.change_each.new.self v p t name os hold none
    (subst (λ ks. Hold c.change_each.new.self (after ks w)) is (c.in_ok-change_each.ensures w taken (subst (CanApply w) (sym is) (new_applies w p t name os (is_gone v t)))))
