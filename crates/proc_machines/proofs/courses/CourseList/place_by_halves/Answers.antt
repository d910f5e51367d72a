use Rattle.std.proofs.Common.{◌≡◌, ◌<◌, ◌∙◌, ap, sym, arith, false, length}
use Rattle.std.proofs.lemmas.List.{get_or_read}
use Rattle.world_model.specs.Names.{same_pid}
use Rattle.std.specs.List.{HoldsAt}
use Rattle.proc_machines.proofs.Ordered.{found, missing}
use Rattle.proc_machines.proofs.courses.CourseList.place_by_halves.Goals as goal
use Rattle.proc_machines.proofs.courses.CourseList.place_by_halves.Goals.{else-place-len-via-then-place-len+else-eq, else-place-len-via-else-place-len}

pub returns-then-eq : goal.returns-then-eq
returns-then-eq c =
    found c.args.pid.now c.args.self.now.entries.items c.room-place.result c.room-place.ensures.before (omega arith) c.index.result.now
    (ap (λ e. same_pid c.args.pid.now e.0) (sym c.index.ensures) ∙ sym c.eq.ensures.value ∙ c.if-eq.true)

pub returns : goal.returns
returns c =
    let other : c.room-place.result < length c.args.self.now.entries.items → HoldsAt (λ e. same_pid c.args.pid.now e.0 ≡ false) c.args.self.now.entries.items c.room-place.result =
    elim c.else-place-len.branch [
      | else-place-len-via-then-place-len+else-eq w ↦ λ within d.
          ap (λ e. same_pid c.args.pid.now e.0) (sym (get_or_read c.args.self.now.entries.items c.room-place.result w.index.result.now within w.index.ensures d)) ∙ sym w.eq.ensures.value ∙ w.if-eq.false
      | else-place-len-via-else-place-len w ↦ λ within d. absurd (omega arith)
    ] in
    missing c.args.pid.now c.args.self.now.entries.items c.room-place.result c.args.self.now.in_order c.room-place.ensures.before c.room-place.ensures.behind other
