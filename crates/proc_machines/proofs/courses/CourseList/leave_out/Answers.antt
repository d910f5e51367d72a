use Rattle.std.proofs.Common.{Global, List, sym, subst}
use Rattle.std.specs.declared.sync.Arc.{Arc}
use Rattle.world_model.specs.Names.{Pid}
use Rattle.proc_machines.specs.declared.course.Course.{Course}
use Rattle.proc_machines.proofs.Listing.{left_out, never_there}
use Rattle.proc_machines.proofs.Ordered.{AreInOrder, each_once, removed_in_order}
use Rattle.proc_machines.proofs.courses.CourseList.leave_out.Goals as goal

pub returns-in_default : goal.returns-in_default
returns-in_default c = never_there (λ course. course.value) c.args.pid.now c.args.self.now.entries.items c.in_default.ensures

pub invariant_of-self : goal.invariant_of-self
invariant_of-self c = record {
  in_order = subst (λ (es : List (Pid × Arc Course Global)). AreInOrder es) (sym c.remove.ensures.items) (removed_in_order c.args.self.now.entries.items c.in-Some.place c.args.self.now.in_order);
}

pub returns : goal.returns
returns c =
    left_out (λ course. course.value) c.args.pid.now c.args.self.now.entries.items c.remove.new.self.items c.in-Some.place (each_once c.args.self.now.entries.items c.args.self.now.in_order) c.in-Some.ensures
    c.remove.ensures.items
