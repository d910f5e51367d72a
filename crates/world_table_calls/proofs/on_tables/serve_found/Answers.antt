use Rattle.std.proofs.Common.{◌∙◌, ap, refl, subst}
use Rattle.ets_calls.specs.Calls.{call_in}
use Rattle.ets_rules.proofs.Holding.{served_at}
use Rattle.ets_rules.specs.Tables.{IsFoundBy, found_of}
use Rattle.world_model.specs.TableRules.{found_line}
use Rattle.world_planned.proofs.Adding.{adds_as, adds_none}
use Rattle.world_table_calls.proofs.on_tables.serve_found.Goals as goal

pub returns-in_ok-answer-in-Some : goal.returns-in_ok-answer-in-Some
returns-in_ok-answer-in-Some c = record {
  answer = λ v p argument by none.
      let call = call_in c.args.call.now in
      let here = subst (IsFoundBy v argument) c.in-Some.is by in
      let served = served_at v p argument call (found_of c.in-Some.found) here.finds none in
      c.in_ok-answer-in-Some.ensures.answer v p here.has_rows served.0 served.1 ∙ ap (λ o. (found_line v p call o).answer) here.finds;
  adds = λ v p argument by none.
      let call = call_in c.args.call.now in
      let here = subst (IsFoundBy v argument) c.in-Some.is by in
      let served = served_at v p argument call (found_of c.in-Some.found) here.finds none in
      adds_as _ _ _ _ _ _ refl (ap (λ o. (found_line v p call o).changes) here.finds) (c.in_ok-answer-in-Some.ensures.adds v p here.has_rows served.0 served.1);
}

pub returns-in_ok-answer-in-None : goal.returns-in_ok-answer-in-None
returns-in_ok-answer-in-None c = record {
  answer = λ v p argument by none.
      let call = call_in c.args.call.now in
      let here = subst (IsFoundBy v argument) c.in-None.is by in
      c.in_ok-answer-in-None.ensures ∙ ap (λ o. (found_line v p call o).answer) here.finds;
  adds = λ v p argument by none.
      let here = subst (IsFoundBy v argument) c.in-None.is by in
      adds_as _ _ _ _ _ _ refl (ap (λ o. (found_line v p (call_in c.args.call.now) o).changes) here.finds) (adds_none c.args.planned.now);
}
