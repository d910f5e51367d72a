use Rattle.std.proofs.Common.{◌∙◌}
use Rattle.ets_answers.proofs.Lines.{if_ok, counter_held, answer_held}
use Rattle.ets_calls.specs.Calls.{call_in}
use Rattle.ets_answers.proofs.answers.answer.Goals as goal

pub returns : goal.returns
returns c = if_ok c.answer_of.result (λ a is v p ref holds allowed served. is (counter_held c.args.table.now v p ref holds (call_in c.args.call.now) served) ∙ answer_held c.args.table.now v p ref holds (call_in c.args.call.now) allowed served) c.answer_of.ensures
