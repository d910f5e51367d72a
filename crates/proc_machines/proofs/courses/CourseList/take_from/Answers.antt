use Rattle.std.proofs.Common.{◌∙◌, Some, None, ap}
use Rattle.std.specs.Map.{lookup}
use Rattle.world_model.specs.Names.{same_pid}
use Rattle.proc_machines.specs.Courses.{listed}
use Rattle.proc_machines.proofs.Listing.{at_its_pid, found_nowhere, found_there}
use Rattle.proc_machines.proofs.courses.CourseList.take_from.Goals as goal

pub returns-in_default : goal.returns-in_default
returns-in_default c =
    at_its_pid c.args.pid.now None (λ q. lookup (same_pid q) (listed c.args.other.now)) (λ q. lookup (same_pid q) (listed c.args.self.now)) (λ q. lookup (same_pid q) (listed c.leave_out.new.self))
    (found_nowhere (λ course. course.value) c.args.pid.now c.args.other.now.entries.items c.in_default.ensures) c.leave_out.ensures

pub returns : goal.returns
returns c =
    at_its_pid c.args.pid.now (Some c.in_ok-course.course.value) (λ q. lookup (same_pid q) (listed c.args.other.now)) (λ q. lookup (same_pid q) (listed c.args.self.now)) (λ q. lookup (same_pid q) (listed c.put.new.self)) (
    ap Some c.in_ok-course.ensures ∙ ap (λ entry. Some entry.1.value) c.index.ensures
    ∙ found_there (λ course. course.value) c.args.pid.now c.args.other.now.entries.items c.in-Some.place c.index.result.now c.in-Some.ensures
    ) c.in_ok-put.ensures.ok
