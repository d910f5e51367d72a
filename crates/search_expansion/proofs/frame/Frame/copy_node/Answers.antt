use Rattle.std.proofs.Common.{ap, sym, subst, ◌∙◌, Vec}
use Rattle.std.specs.Global.{Global}
use Rattle.world_model.specs.Asking.{program_of}
use Rattle.world_model.specs.Run.{next_event}
use Rattle.world_model.specs.World.{contents}
use Rattle.search_agenda.specs.Plans.{IsPlan, Shared, steps_in}
use Rattle.world_footprints.specs.declared.plan.Plan.{Plan}
use Rattle.search_expansion.proofs.frame.Frame.copy_node.Goals as goal

pub returns : goal.returns
returns c = λ m h is. record {
  node = λ e next.
      c.in_ok-node.ensures.node m h e (record { agrees = c.in_ok-records.ensures.alike m (contents h) is.world.agrees; is_run = is.world.is_run }) is.agenda (subst (IsPlan (program_of m) h) (sym c.deref.ensures) is.line.0)
      (ap (λ (p : Plan). next_event (program_of m) h p.step) c.deref.ensures ∙ next) (c.in_ok-asleep.ensures.below m h e is next);
  slept = λ more. ap (λ (plans : Vec Shared Global). steps_in plans.items) c.in_ok-node.ensures.slept ∙ c.in_ok-asleep.ensures.steps m h is more;
  left = c.in_ok-node.ensures.left;
}
