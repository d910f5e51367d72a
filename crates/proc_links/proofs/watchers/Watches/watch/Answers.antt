use Rattle.std.proofs.Common.{subst}
use Rattle.term_core.specs.StepOrder.{order_of_reference_ids}
use Rattle.proc_groups.specs.Groups.{members_in, IsAdded}
use Rattle.proc_links.proofs.watchers.Watches.watch.Goals as goal

pub returns-in-Err-clause-err : goal.returns-in-Err-clause-err
returns-in-Err-clause-err c = record {
  watchers = λ p. c.take_back.ensures (members_in c.args.self.now.watchers) (members_in c.add.new.self)
      (subst (λ x. IsAdded order_of_reference_ids c.args.target.now x c.in_ok-is_new.is_new (members_in c.args.self.now.watchers) (members_in c.add.new.self)) c.in_ok-copy.ensures c.in_ok-is_new.ensures.ok) c.point.ensures.watchers p;
  targets = c.in-Err.ensures.err;
}
