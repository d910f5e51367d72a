use Rattle.std.proofs.Common.{◌≡◌, ap, ◌∙◌}
use Rattle.term_core.specs.Term.{meaning_of}
use Rattle.ets_answers.proofs.Counting.{counted_at}
use Rattle.ets_calls.specs.Arguments.{increment_in}
use Rattle.world_model.specs.Objects.{start_of}
use Rattle.world_model.specs.Rows.{under}
use Rattle.ets_answers.proofs.counted.counted_by.Goals as goal

pub returns-in_ok-copy-in-Ok : goal.returns-in_ok-copy-in-Ok
returns-in_ok-copy-in-Ok c =
    let from : c.in_ok-copy-in-Ok.field-0 ≡ start_of c.args.default.now (under c.args.table.now.rows.rows (meaning_of c.args.key.now)) = c.in_ok-copy-in-Ok.ensures ∙ c.in-Ok.ensures.object ∙ ap (start_of c.args.default.now) c.objects.ensures in
    let at = c.position-in-Ok.ensures in
    counted_at c.args.table.now (meaning_of c.args.key.now) (increment_in c.args.increment.now) c.args.default.now c.counted_on.result c.in_ok-copy-in-Ok.field-0 from (rw at at c.counted_on.ensures.answer) (rw at at c.counted_on.ensures.object)
