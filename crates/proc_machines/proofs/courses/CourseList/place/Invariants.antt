use Rattle.std.proofs.Common.{◌≡◌, ◌<◌, ℕ, false, get_or, Global}
use Rattle.std.specs.declared.sync.Arc.{Arc}
use Rattle.world_model.specs.Names.{Pid, same_pid}
use Rattle.proc_machines.specs.declared.course.Course.{Course}
use Rattle.proc_machines.proofs.courses.CourseList.place.Given as goal

abbrev pub invariant-loop-place : goal.invariant-loop-place
invariant-loop-place l = (any : Pid × Arc Course Global) (k : ℕ) → k < l.place → same_pid l.pid (get_or l.entry-items k any).0 ≡ false
