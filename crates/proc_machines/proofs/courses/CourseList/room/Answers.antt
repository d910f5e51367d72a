use Rattle.std.proofs.Common.{◌≡◌, rules, of_calls, List, Global, sym, subst}
use Rattle.std.proofs.lemmas.Cmp.{nat_list_cmp_total}
use Rattle.std.proofs.lemmas.Fn.{always_returns_same}
use Rattle.std.specs.declared.sync.Arc.{Arc}
use Rattle.term_core.specs.Order.{order_of_lists}
use Rattle.world_model.specs.Names.{Pid}
use Rattle.proc_signals.proofs.Halves.{AreBefore, IsNotBefore, is_earlier, parted, before_place, behind_place}
use Rattle.proc_machines.specs.declared.course.Course.{Course}
use Rattle.proc_machines.proofs.Ordered.{AreInOrder}
use Rattle.proc_machines.proofs.courses.CourseList.room.Goals as goal

abbrev Entries : Type 0
Entries = List (Pid × Arc Course Global)

pub returns : goal.returns
returns c =
    let pid = c.args.pid.now in
    let entries = c.as_slice-entries.result.now in
    let room = c.partition_point.result in
    let same : entries ≡ c.args.self.now.entries.items = c.as_slice-entries.ensures.value in
    let point = c.partition_point.ensures.partitioned (is_earlier order_of_lists entries pid) (always_returns_same _ _ _ (λ a r f k. search (rules, of_calls)))
    (parted order_of_lists entries pid nat_list_cmp_total (subst (λ (es : Entries). AreInOrder es) (sym same) c.args.self.now.in_order)) in
    record {
      within = search rules;
      before = subst (λ (es : Entries). AreBefore order_of_lists es pid room) same (before_place order_of_lists entries pid room point);
      behind = subst (λ (es : Entries). IsNotBefore order_of_lists es pid room) same (behind_place order_of_lists entries pid room point);
    }
