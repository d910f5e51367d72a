use Rattle.std.proofs.Common.{Some, ap, get_or, option_copied, position, ◌∙◌}
use Rattle.std.specs.Map.{lookup}
use Rattle.world_model.specs.Names.{same_pid}
use Rattle.proc_machines.specs.Courses.{listed}
use Rattle.proc_machines.proofs.Listing.{found_there, found_nowhere}
use Rattle.proc_machines.proofs.courses.Courses.of.Goals as goal

pub returns-in_err-place : goal.returns-in_err-place
returns-in_err-place c =
    ap option_copied c.from_residual.ensures ∙ found_nowhere (λ course. course.value) c.args.pid.now c.deref.result.now.entries.items c.in_err-place.ensures
    ∙ ap (λ list. lookup (same_pid c.args.pid.now) (listed list)) c.deref.ensures

pub returns : goal.returns
returns c =
    ap Some c.deref-3.ensures ∙ ap (λ entry. Some entry.1.value) (c.index.ensures ∙ ap (λ list. get_or list.entries.items c.in_ok-place.place c.index.result.now) c.deref-2.ensures)
    ∙ found_there (λ course. course.value) c.args.pid.now c.args.self.now.courses.value.entries.items c.in_ok-place.place c.index.result.now
    (c.in_ok-place.ensures ∙ ap (λ list. position (λ e. same_pid c.args.pid.now e.0) list.entries.items) c.deref.ensures)
