use Rattle.std.proofs.Common.{◌∙◌, ◌++◌, refl, ap, subst, sym}
use Rattle.ets_calls.specs.Arguments.{argument_in}
use Rattle.ets_calls.specs.Calls.{call_in}
use Rattle.ets_rules.proofs.Finding.{found_by}
use Rattle.ets_rules.specs.Tables.{Hold}
use Rattle.world_model.specs.Calls as calls
use Rattle.world_model.specs.TableAccess.{find, reads_of_find}
use Rattle.world_model.specs.TableRules.{rows_of_found, target_read}
use Rattle.world_planned.proofs.Adding.{adds_as, adds_then, end_nil}
use Rattle.world_table_calls.proofs.Going.{reads_by_line}
use Rattle.world_table_calls.proofs.on_tables.on_table.Goals as goal

pub returns : goal.returns
returns c = λ m v told meant.
    let p = c.args.caller.now in
    let argument = argument_in c.args.argument.now in
    let call = call_in c.args.call.now in
    let hold = subst (λ ts. Hold ts v) (sym c.tables.ensures) told.tables_are in
    let by = found_by c.tables.result.now v argument c.find-found.result hold (c.find-found.ensures.found v hold) c.find-found.ensures.held in
    record {
      reply_is = c.in_ok-reply.ensures.reply m v told by;
      adds = adds_as _ _ _ _ _ _
          (ap (λ cs. target_read call ++ (reads_of_find v argument ++ cs)) (end_nil (rows_of_found p call _) ∙ ap (rows_of_found p call) by.finds) ∙ reads_by_line v p (calls.OnTable argument call) refl) refl
          (adds_then _ _ _ _ _ _ _ c.in_ok-read_target.ensures (adds_then _ _ _ _ _ _ _ (c.in_ok-read_find.ensures v meant by) (adds_then _ _ _ _ _ _ _ c.in_ok-read_found.ensures (c.in_ok-reply.ensures.adds m v told by))));
    }
