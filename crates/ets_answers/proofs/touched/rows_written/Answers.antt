use Rattle.std.proofs.Common.{◌∙◌}
use Rattle.ets_answers.proofs.Lines.{if_ok, written_held}
use Rattle.ets_calls.specs.Calls.{call_in}
use Rattle.ets_answers.proofs.touched.rows_written.Goals as goal

pub returns : goal.returns
returns c = if_ok c.written_of.result (λ touched is v p ref holds allowed served. is ∙ written_held c.args.table.now v p ref holds (call_in c.args.call.now) allowed served) c.written_of.ensures
