use Rattle.std.proofs.Common.{ap, ◌∙◌, insert, is_ok, if◌then◌else◌, sym, subst}
use Rattle.std.proofs.Math.ListN.{set}
use Rattle.std.specs.List.Sorted.{IsStrictlySortedBy}
use Rattle.std.specs.Map.{keys_of}
use Rattle.term_core.specs.Order.{order_of_lists}
use Rattle.proc_machines.proofs.Listing.{none_passes, put_there, put_in}
use Rattle.proc_machines.proofs.Ordered.{AreInOrder, either_in_order, inserted_in_order, keys_written}
use Rattle.proc_machines.proofs.courses.CourseList.put.Goals as goal

pub invariant_of-self-in_default : goal.invariant_of-self-in_default
invariant_of-self-in_default c =
    let items = c.args.self.now.entries.items in
    let room = c.room-place.ensures in
    let new = insert items c.room-place.result (c.args.pid.now, c.args.course) in
    let sorted : AreInOrder new = inserted_in_order items c.room-place.result (c.args.pid.now, c.args.course) room.within room.before room.behind (none_passes c.args.pid.now items c.in_default.ensures) c.args.self.now.in_order in
    record {
      in_order =
          either_in_order (is_ok c.insert.result) items new c.insert.new.self.items c.args.self.now.in_order sorted
          (c.insert.ensures.items ∙ ap (λ pid. if is_ok c.insert.result then insert items c.room-place.result (pid, c.args.course) else items) c.in_ok-copy.ensures);
    }

pub returns-in_default-clause-ok : goal.returns-in_default-clause-ok
returns-in_default-clause-ok c =
    put_in (λ course. course.value) c.args.pid.now c.args.self.now.entries.items c.insert.new.self.items c.room-place.result c.args.course c.in_default.ensures
    (c.in_ok-insert.ensures.items ∙ ap (λ pid. insert c.args.self.now.entries.items c.room-place.result (pid, c.args.course)) c.in_ok-copy.ensures)

pub invariant_of-self-2 : goal.invariant_of-self-2
invariant_of-self-2 c =
    let items = c.args.self.now.entries.items in
    record {
      in_order =
          subst (IsStrictlySortedBy order_of_lists)
          (sym (ap (λ entry. keys_of (set items c.in-Some.place (entry.0, c.args.course))) c.index_mut.ensures.value ∙ keys_written items c.in-Some.place c.index_mut.result.now c.args.course))
          c.args.self.now.in_order;
    }

pub returns-clause-ok : goal.returns-clause-ok
returns-clause-ok c =
    put_there (λ course. course.value) c.args.pid.now c.args.self.now.entries.items _ c.in-Some.place c.index_mut.result.now c.args.course c.in-Some.ensures
    (ap (λ entry. set c.args.self.now.entries.items c.in-Some.place (entry.0, c.args.course)) c.index_mut.ensures.value)
