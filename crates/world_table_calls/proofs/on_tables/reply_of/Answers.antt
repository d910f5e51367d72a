use Rattle.std.proofs.Common.{◌∙◌, Some, ap, option_map, refl, sym}
use Rattle.ets_calls.specs.Arguments.{argument_in}
use Rattle.proc_machines.specs.Processes.{lives_in}
use Rattle.world_model.specs.Events.{ByRule}
use Rattle.world_model.specs.TableAccess.{find}
use Rattle.world_model.specs.TableRules.{refusal_by, told_owner}
use Rattle.world_planned.proofs.Adding.{adds_none}
use Rattle.world_table_calls.proofs.on_tables.reply_of.Goals as goal

pub returns-in-Some : goal.returns-in-Some
returns-in-Some c = record {
  reply = λ m v told by.
      let found = find v (argument_in c.args.argument.now) in
      record {
        goes_on = refl;
        is_refused = ap (option_map (refusal_by found)) (sym (c.in-Some.ensures v by (λ q. c.living-living.ensures q ∙ ap (λ ps. lives_in ps q) c.processes.ensures ∙ told.processes_are.alive q))) ∙ ap (λ o. Some (ByRule c.in-Some.rule o)) (sym (c.in_ok-owner.ensures ∙ ap (told_owner c.in-Some.rule) by.finds));
      };
  adds = λ m v told by. adds_none c.args.planned.now;
}

pub returns : goal.returns
returns c = record {
  reply = λ m v told by.
      let none = sym (c.in_default.ensures v by (λ q. c.living-living.ensures q ∙ ap (λ ps. lives_in ps q) c.processes.ensures ∙ told.processes_are.alive q)) in
      record {
        goes_on = refl;
        is_served = ap (option_map (refusal_by (find v (argument_in c.args.argument.now)))) none;
        answers = c.in_ok-answer.ensures.answer v c.args.caller.now (argument_in c.args.argument.now) by none;
      };
  adds = λ m v told by. c.in_ok-answer.ensures.adds v c.args.caller.now (argument_in c.args.argument.now) by (sym (c.in_default.ensures v by (λ q. c.living-living.ensures q ∙ ap (λ ps. lives_in ps q) c.processes.ensures ∙ told.processes_are.alive q)));
}
