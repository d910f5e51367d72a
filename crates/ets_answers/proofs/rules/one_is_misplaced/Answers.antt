use Rattle.std.proofs.Common.{◌≡◌, true, false, sym, ◌∙◌, arith}
use Rattle.term_core.specs.Term.{meaning_of}
use Rattle.ets_answers.proofs.Finding.{found, passed}
use Rattle.ets_store.specs.Parts.{part_in}
use Rattle.world_model.specs.Objects.{is_misplaced}
use Rattle.ets_answers.proofs.rules.one_is_misplaced.Goals as goal

pub returns-then-is_misplaced : goal.returns-then-is_misplaced
returns-then-is_misplaced c =
    let x = c.change-item.result in
    let so : is_misplaced c.args.key c.args.object.now (part_in x) ≡ true = sym (c.is_misplaced.ensures (meaning_of x.1)) ∙ c.if-is_misplaced.true in
    sym (found (is_misplaced c.args.key c.args.object.now) part_in c.args.changes.now c.loop-change.change-index x (omega arith) c.change-item.is so) ∙ c.loop-change.invariant

pub loop-change-preserved : goal.loop-change-preserved
loop-change-preserved c =
    let x = c.change-item.result in
    let other : is_misplaced c.args.key c.args.object.now (part_in x) ≡ false = sym (c.is_misplaced.ensures (meaning_of x.1)) ∙ c.if-is_misplaced.false in
    passed (is_misplaced c.args.key c.args.object.now) part_in c.args.changes.now c.loop-change.change-index x (omega arith) c.change-item.is other ∙ c.loop-change.invariant
