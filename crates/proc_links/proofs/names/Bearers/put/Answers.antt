use Rattle.std.proofs.Common.{IsSome, Some, ap, refl, subst, sym, ◌∙◌}
use Rattle.std.specs.BTreeMap.{get}
use Rattle.term_core.specs.Order.{order_of_lists}
use Rattle.proc_links.specs.Bearers.{put_at}
use Rattle.proc_links.proofs.Named.{put_back, put_there}
use Rattle.proc_links.proofs.names.Bearers.put.Goals as goal

pub give_back-requires : goal.give_back-requires
give_back-requires c =
    subst IsSome (sym (c.bear.ensures.holders c.args.name.now ∙ c.in_ok-before.ensures.ok c.args.name.now ∙ put_there (get order_of_lists c.args.self.now.holders) c.args.name.now c.args.pid.now)) refl

pub returns-in-Err-clause-err : goal.returns-in-Err-clause-err
returns-in-Err-clause-err c = record {
  holders = λ m. c.give_back.ensures.holders m ∙ ap (put_at c.args.name.now c.in_ok-before.before m) (c.bear.ensures.holders m ∙ c.in_ok-before.ensures.ok m)
      ∙ put_back (get order_of_lists c.args.self.now.holders) c.args.name.now (Some c.args.pid.now) c.in_ok-before.before c.in_ok-before.ensures.before m;
  names = λ r. c.give_back.ensures.names r ∙ c.in-Err.ensures.err.names r ∙ c.hold.ensures.names r;
}
