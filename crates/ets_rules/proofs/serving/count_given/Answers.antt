use Rattle.std.proofs.Common.{[], ◌∷◌, ◌∙◌}
use Rattle.ets_calls.specs.Arguments.{increment_in}
use Rattle.ets_rules.proofs.Counting.{counted_answer, counted_changes, planned_alone}
use Rattle.term_core.specs.Term.{meaning_of}
use Rattle.world_model.specs.Changes.{RowWritten}
use Rattle.world_model.specs.Names.{ref_of}
use Rattle.world_model.specs.Rows.{Stores}
use Rattle.ets_rules.proofs.serving.count_given.Goals as goal

pub returns-clause-answer : goal.returns-clause-answer
returns-clause-answer c = λ v p holds allowed served.
    let counted = c.in_ok-counted.counted in
    c.in_ok-copy.ensures
    ∙ counted_answer c.args.found.table.now (meaning_of c.args.key.now) (increment_in c.args.increment.now) c.args.default.now (meaning_of counted.answer) counted.object c.in_ok-counted.ensures v p (ref_of c.args.found.id.now) holds served

pub returns-clause-changes : goal.returns-clause-changes
returns-clause-changes c = λ v p holds allowed served.
    let counted = c.in_ok-counted.counted in
    let table = c.args.found.table.now in
    let t = ref_of c.args.found.id.now in
    let key = meaning_of c.args.key.now in
    planned_alone table.owner (RowWritten t key (Stores table.rows.kind counted.object) ∷ []) c.new-changes.result c.count.new.changes c.new-changes.ensures c.in_ok-count.ensures
    ∙ counted_changes table key (increment_in c.args.increment.now) c.args.default.now (meaning_of counted.answer) counted.object c.in_ok-counted.ensures v p t holds served
