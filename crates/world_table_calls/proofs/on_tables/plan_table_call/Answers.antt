use Rattle.std.proofs.Common.{sym, subst}
use Rattle.ets_calls.specs.Requests.{IsReadAs}
use Rattle.world_model.specs.Calls.{call_of}
use Rattle.world_planned.specs.inside.PlannedCalls.{Plans}
use Rattle.world_table_calls.proofs.on_tables.plan_table_call.Goals as goal

pub returns-in_ok-reply-in-OnTable : goal.returns-in_ok-reply-in-OnTable
returns-in_ok-reply-in-OnTable c = λ tables.
    subst (λ x. Plans c.args.caller.now x c.args.records.now c.in_ok-reply-in-OnTable.reply c.args.planned.now c.on_table.new.planned) (sym (subst (IsReadAs (call_of c.args.kind c.args.arguments.now)) c.in-OnTable.is c.in_ok-argument.ensures)) c.in_ok-reply-in-OnTable.ensures

pub returns-in_ok-reply-in-New : goal.returns-in_ok-reply-in-New
returns-in_ok-reply-in-New c = λ tables.
    subst (λ x. Plans c.args.caller.now x c.args.records.now c.in_ok-reply-in-New.reply c.args.planned.now c.make_named.new.planned) (sym (subst (IsReadAs (call_of c.args.kind c.args.arguments.now)) c.in-New.is c.in_ok-argument.ensures)) c.in_ok-reply-in-New.ensures
