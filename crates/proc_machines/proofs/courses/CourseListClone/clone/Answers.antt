use Rattle.std.proofs.Common.{◌≡◌, ◌∙◌, ap, arith, sym, subst, take, take_all, Global, List}
use Rattle.std.specs.List.Sorted.{IsStrictlySortedBy}
use Rattle.std.specs.Map.{keys_of}
use Rattle.std.specs.declared.sync.Arc.{Arc}
use Rattle.term_core.specs.Order.{order_of_lists}
use Rattle.world_model.specs.Names.{Pid}
use Rattle.proc_machines.specs.declared.course.Course.{Course}
use Rattle.proc_machines.proofs.Ordered.{keys_shown}
use Rattle.proc_machines.proofs.courses.CourseListClone.clone.Goals as goal

pub invariant_of-result : goal.invariant_of-result
invariant_of-result c =
    let show = λ (course : Arc Course Global). course.value in
    let keys : keys_of c.loop-pid.entries.items ≡ keys_of c.args.self.now.entries.items =
    sym (keys_shown show c.loop-pid.entries.items) ∙ ap (λ (es : List (Pid × Course)). keys_of es) c.loop-pid.invariant
    ∙ keys_shown show (take c.loop-pid.pid-index c.as_slice-pid-items.result.now)
    ∙ ap (λ (es : List (Pid × Arc Course Global)). keys_of es) (take_all c.loop-pid.pid-index c.as_slice-pid-items.result.now (omega arith) ∙ c.as_slice-pid-items.ensures.value) in
    record { in_order = subst (IsStrictlySortedBy order_of_lists) (sym keys) c.args.self.now.in_order }
