use Rattle.std.proofs.Common.{ap, sym, subst, ◌∙◌}
use Rattle.world_model.specs.Asking.{program_of}
use Rattle.world_model.specs.Run.{next_event}
use Rattle.search_agenda.specs.Plans.{IsPlan}
use Rattle.world_footprints.specs.declared.plan.Plan.{Plan}
use Rattle.search_expansion.proofs.frame.Frame.shown_next.Goals as goal

pub returns : goal.returns
returns c = λ m h e is next.
    c.in_ok-shown.ensures.shown m h e is.world.agrees (subst (IsPlan (program_of m) h) (sym c.deref.ensures) is.line.0) (ap (λ (p : Plan). next_event (program_of m) h p.step) c.deref.ensures ∙ next)
