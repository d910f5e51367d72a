use Rattle.std.proofs.Common.{subst}
use Rattle.term_core.specs.Order.{order_of_lists}
use Rattle.proc_groups.specs.Groups.{members_in, IsAdded}
use Rattle.proc_links.proofs.links.join.Goals as goal

pub returns-in-Err-clause-err : goal.returns-in-Err-clause-err
returns-in-Err-clause-err c =
    λ r. c.take_back.ensures (members_in c.args.partners.now) (members_in c.add.new.self)
    (subst (λ x. IsAdded order_of_lists c.args.pid.now x c.in_ok-is_new.is_new (members_in c.args.partners.now) (members_in c.add.new.self)) c.in_ok-copy.ensures c.in_ok-is_new.ensures.ok) c.in-Err.ensures.err r
