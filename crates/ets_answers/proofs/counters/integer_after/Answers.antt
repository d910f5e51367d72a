use Rattle.std.proofs.Common.{◌≡◌, Option, Some, None, map, ap, ◌∙◌, arith, rules, IfErr, FitsSigned, w64, to_z}
use Rattle.std.proofs.lemmas.Int.{to_z-of_z}
use Rattle.ets_answers.proofs.Additions.{counted_more, stays_more, in_range, none_stays, if_err}
use Rattle.ets_answers.specs.inside.Counting.{RefusesPart}
use Rattle.ets_calls.specs.Arguments.{addition_in}
use Rattle.world_model.specs.Rows.{part_at}
use Rattle.world_model.specs.declared.rule.Rule.{Rule}
use Rattle.ets_answers.proofs.counters.integer_after.Goals as goal
use Rattle.ets_answers.proofs.counters.integer_after.Goals.{then-earlier-position+in_ok-number-2, else-earlier-position}

some_or_none : (r : Rule) (q : Option Rule) → Some r ≡ q → q ≡ None → ⊥
some_or_none r q some none = cc

pub returns-in_err-number-clause-rule : goal.returns-in_err-number-clause-rule
returns-in_err-number-clause-rule c =
    let first : IfErr c.from_residual.result (λ rule. RefusesPart rule (part_at c.args.position c.args.object.now)) = search rules in
    if_err c.from_residual.result (λ rule refuses. none_stays (map addition_in c.args.done.now) c.args.position c.args.object.now rule c.requires refuses) first

pub returns-in_err-number-2-clause-rule : goal.returns-in_err-number-2-clause-rule
returns-in_err-number-2-clause-rule c =
    let k = to_z w64 c.loop-earlier.number-bits in
    let allowed = in_range c.args.done.now c.loop-earlier.earlier-index c.args.object.now c.args.position k (omega arith) c.if-earlier-position.true c.requires c.loop-earlier.invariant in
    absurd (some_or_none c.in_err-number-2.field-0.0 _ c.in_err-number-2.ensures.rule allowed)

pub loop-earlier-preserved : goal.loop-earlier-preserved
loop-earlier-preserved c =
    let i = c.loop-earlier.earlier-index in
    let k = to_z w64 c.loop-earlier.number-bits in
    elim c.if-earlier-position.branch [
      | then-earlier-position+in_ok-number-2 w ↦
          let fits : FitsSigned w64 w.in_ok-number-2.number = search rules in
          ap Some (w.number-is ∙ to_z-of_z w64 w.in_ok-number-2.number fits ∙ w.in_ok-number-2.ensures.sum)
          ∙ counted_more c.args.done.now i c.args.object.now c.args.position k (omega arith) w.if-earlier-position.true c.loop-earlier.invariant
      | else-earlier-position w ↦
          ap Some w.number-is ∙ stays_more c.args.done.now i c.args.object.now c.args.position k (omega arith) w.if-earlier-position.false c.loop-earlier.invariant
    ]
