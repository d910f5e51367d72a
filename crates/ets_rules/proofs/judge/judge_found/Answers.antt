use Rattle.std.proofs.Common.{subst}
use Rattle.ets_calls.specs.Arguments.{argument_in}
use Rattle.ets_calls.specs.Calls.{call_in}
use Rattle.ets_rules.proofs.Holding.{judged}
use Rattle.ets_rules.specs.Tables.{IsFoundBy, found_of}
use Rattle.world_model.specs.Names.{ref_of}
use Rattle.ets_rules.proofs.judge.judge_found.Goals as goal

pub returns-in-Some : goal.returns-in-Some
returns-in-Some c = λ v by alive.
    let argument = argument_in c.args.argument.now in
    let here = subst (IsFoundBy v argument) c.in-Some.is by in
    judged v c.args.caller.now argument (call_in c.args.call.now) (found_of c.in-Some.found) c.rule_at.result here.finds (c.rule_at.ensures v (ref_of c.in-Some.found.id.now) here.has_rows alive)
