use Rattle.std.proofs.Common.{◌≡◌, ap, bytes_eq, if◌then◌else◌, is_ok, subst}
use Rattle.term_core.specs.StepOrder.{order_of_reference_ids}
use Rattle.world_model.specs.Changes.{set_in_order}
use Rattle.world_model.specs.Names.{Pid, order_of_refs, ref_of}
use Rattle.proc_groups.specs.Groups.{members_in}
use Rattle.proc_groups.proofs.Grouping.{on_err}
use Rattle.proc_groups.proofs.Referring.{Id, refs_in_order}
use Rattle.ets_tables.proofs.Shelving.{owned_at, same_groups, still_owned}
use Rattle.ets_tables.proofs.shelves.Shelves.gain.Goals as goal

pub returns-in_err-add-clause-err : goal.returns-in_err-add-clause-err
returns-in_err-add-clause-err c =
    on_err c.from_residual-in_err-add.result
    (still_owned c.args.self.now c.in_ok-groups.groups.now c.add.new.self _ (same_groups _ _ c.in_ok-groups.ensures.value) c.in_err-add.ensures.err (c.make_mut.follows.holds c.add.new.self (ap is_ok c.in_ok-groups.was)))

pub returns-clause-ok : goal.returns-clause-ok
returns-clause-ok c =
    let lent = c.in_ok-groups.groups.now in
    let Adds : Id → Type 0 = λ x. (q : Pid) → members_in c.add.new.self q ≡ (if bytes_eq c.args.pid.now q then set_in_order order_of_reference_ids x (members_in lent q) else members_in lent q) in
    owned_at c.args.self.now lent c.add.new.self _ c.args.pid.now (set_in_order order_of_reference_ids c.args.id.now) (set_in_order order_of_refs (ref_of c.args.id.now)) (refs_in_order c.args.id.now)
    (same_groups _ _ c.in_ok-groups.ensures.value) (subst Adds c.in_ok-own_id.ensures c.in_ok-add.ensures.ok.adds) (c.make_mut.follows.holds c.add.new.self (ap is_ok c.in_ok-groups.was))
