use Rattle.std.proofs.Common.{ap, arith, position, sym, ◌∙◌}
use Rattle.world_model.specs.Names.{same_pid}
use Rattle.proc_machines.proofs.Listing.{first_place, no_place}
use Rattle.proc_machines.proofs.courses.CourseList.place.Goals as goal

pub returns-then-eq : goal.returns-then-eq
returns-then-eq c =
    first_place (λ e. same_pid c.args.pid.now e.0) c.as_slice-entry-items.result.now c.loop-place.place c.entry-item.result c.loop-place-test.true (c.loop-place.invariant c.entry-item.result)
    (ap (λ e. same_pid c.args.pid.now e.0) (sym c.entry-item.is) ∙ sym c.eq.ensures.value ∙ c.if-eq.true) ∙ ap (position (λ e. same_pid c.args.pid.now e.0)) c.as_slice-entry-items.ensures.value

pub returns : goal.returns
returns c =
    no_place (λ e. same_pid c.args.pid.now e.0) c.as_slice-entry-items.result.now c.loop-place.place (omega arith) c.loop-place.invariant
    ∙ ap (position (λ e. same_pid c.args.pid.now e.0)) c.as_slice-entry-items.ensures.value
