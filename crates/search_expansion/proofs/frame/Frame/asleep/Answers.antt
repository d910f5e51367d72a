use Rattle.std.proofs.Common.{ap, sym, subst, ◌∙◌}
use Rattle.tree_coverage.specs.Jobs.{asleep_below}
use Rattle.world_model.specs.Asking.{program_of}
use Rattle.world_model.specs.Run.{next_event}
use Rattle.search_agenda.specs.Plans.{ArePlans, IsPlan, steps_in}
use Rattle.world_footprints.specs.declared.plan.Plan.{Plan}
use Rattle.search_expansion.proofs.frame.Frame.asleep.Goals as goal

pub returns-clause-steps : goal.returns-clause-steps
returns-clause-steps c = λ m h is more.
    c.in_ok-asleep.ensures.steps (program_of m) h (subst (ArePlans (program_of m) h) (sym c.as_slice-slept.ensures.value) is.slept) (subst (IsPlan (program_of m) h) (sym c.deref.ensures) is.line.0) more
    ∙ (λ i. asleep_below (program_of m) h (steps_in (c.as_slice-slept.ensures.value i)) (c.deref.ensures i).step)

pub returns-clause-below : goal.returns-clause-below
returns-clause-below c = λ m h e is next.
    c.in_ok-asleep.ensures.below (program_of m) h e (subst (ArePlans (program_of m) h) (sym c.as_slice-slept.ensures.value) is.slept) (subst (IsPlan (program_of m) h) (sym c.deref.ensures) is.line.0) (ap (λ (p : Plan). next_event (program_of m) h p.step) c.deref.ensures ∙ next)
