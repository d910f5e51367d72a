use Rattle.std.proofs.Common.{◌≡◌, Global, map, take}
use Rattle.std.specs.declared.sync.Arc.{Arc}
use Rattle.world_model.specs.Names.{Pid}
use Rattle.proc_machines.specs.declared.course.Course.{Course}
use Rattle.proc_machines.proofs.courses.CourseListClone.clone.Given as goal

abbrev pub invariant-loop-pid : goal.invariant-loop-pid
invariant-loop-pid l =
    let shown : Pid × Arc Course Global → Pid × Course = λ entry. (entry.0, entry.1.value) in
    map shown l.entries.items ≡ map shown (take l.pid-index l.pid-items)
