use Rattle.std.proofs.Common.{◌∙◌, ◌∷◌, ◌++◌, [], Vec, Global, true, false, sym, ap}
use Rattle.std.specs.List.{filter}
use Rattle.std.proofs.lemmas.List.{take_all}
use Rattle.term_core.specs.declared.step.Step.{Step}
use Rattle.world_model.specs.Asking.{program_of}
use Rattle.world_plans.specs.Independence.{are_independent}
use Rattle.world_planned.proofs.Adding.{end_nil}
use Rattle.world_plans.proofs.Apart.{keeps}
use Rattle.world_plans.proofs.independence.independent_of.Goals as goal
use Rattle.world_plans.proofs.independence.independent_of.Goals.{then-branch+in_ok-copy+in_ok-push, else-branch}

pub loop-other-preserved : goal.loop-other-preserved
loop-other-preserved c =
    elim c.if-branch.branch [
      | then-branch+in_ok-copy+in_ok-push w ↦ λ m v told meant is.
          (keeps (are_independent (program_of m) v c.args.one.now.step) c.args.slept.now c.loop-other.other-index c.other-item.result c.loop-other.asleep.items c.if-branch.asleep.items true c.loop-other-test.true c.other-item.is
          (sym w.if-branch.true ∙ c.in_ok-is_independent_of.ensures m v told meant is) (c.loop-other.invariant m v told meant is)
          (ap (λ (a : Vec Step Global). a.items) w.asleep-is ∙ w.in_ok-push.ensures.items ∙ ap (λ s. c.loop-other.asleep.items ++ s ∷ []) w.in_ok-copy.ensures))
      | else-branch w ↦ λ m v told meant is.
          (keeps (are_independent (program_of m) v c.args.one.now.step) c.args.slept.now c.loop-other.other-index c.other-item.result c.loop-other.asleep.items c.if-branch.asleep.items false c.loop-other-test.true c.other-item.is
          (sym w.if-branch.false ∙ c.in_ok-is_independent_of.ensures m v told meant is) (c.loop-other.invariant m v told meant is)
          (ap (λ (a : Vec Step Global). a.items) w.asleep-is ∙ sym (end_nil c.loop-other.asleep.items)))
    ]

pub returns : goal.returns
returns c = λ m v told meant is.
    c.loop-other.invariant m v told meant is ∙ ap (filter (are_independent (program_of m) v c.args.one.now.step)) (take_all c.loop-other.other-index c.args.slept.now c.loop-other-test.false)
