use Rattle.term_core.proofs.Sizes.{pushed}
use Rattle.term_core.proofs.term.Terms.push.Goals as goal

pub invariant_of-self-2 : goal.invariant_of-self-2
invariant_of-self-2 c =
    pushed c.self.inside.items.items c.push.new.self.items c.args.term _ _ _ c.in_ok-push.ensures.items c.self.invariant c.nodes.ensures c.saturating_add-nodes.ensures
