use Rattle.std.proofs.Common.{ap, is_ok, None}
use Rattle.proc_links.proofs.Guarding.{same_guards, now_guarded}
use Rattle.proc_links.proofs.guards.Guards.clear.Goals as goal

pub returns-clause-ok : goal.returns-clause-ok
returns-clause-ok c = λ v told ref.
    now_guarded c.args.self.now record { guards = c.make_mut.follows.lender c.take.new.guards } c.in_ok-guards.guards.now c.take.new.guards c.args.reference.now None
    (same_guards _ _ c.in_ok-guards.ensures.value) c.take.ensures (c.make_mut.follows.holds c.take.new.guards (ap is_ok c.in_ok-guards.was)) v told ref
