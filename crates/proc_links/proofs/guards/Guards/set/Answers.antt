use Rattle.std.proofs.Common.{ap, is_ok, Some}
use Rattle.proc_links.proofs.Guarding.{same_guards, now_guarded}
use Rattle.proc_links.proofs.guards.Guards.set.Goals as goal

pub returns-clause-ok : goal.returns-clause-ok
returns-clause-ok c = λ v told ref.
    now_guarded c.args.self.now record { guards = c.make_mut.follows.lender c.put.new.guards } c.in_ok-guards.guards.now c.put.new.guards c.args.reference.now (Some c.args.guard)
    (same_guards _ _ c.in_ok-guards.ensures.value) c.in_ok-put.ensures.ok (c.make_mut.follows.holds c.put.new.guards (ap is_ok c.in_ok-guards.was)) v told ref
