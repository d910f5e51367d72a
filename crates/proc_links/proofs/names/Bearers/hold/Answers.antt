use Rattle.std.proofs.Common.{Some, ap, subst, List, ℕ, ◌≡◌, ◌∙◌}
use Rattle.std.specs.BTreeMap.{get}
use Rattle.term_core.specs.Order.{order_of_lists}
use Rattle.proc_links.specs.Bearers.{put_at}
use Rattle.proc_links.proofs.Named.{put_now}
use Rattle.proc_links.proofs.names.Bearers.hold.Goals as goal

pub returns-clause-before : goal.returns-clause-before
returns-clause-before c = c.in_ok-before.ensures.old ∙ ap (get order_of_lists c.args.self.now.holders) c.in_ok-copy.ensures

pub returns-clause-ok : goal.returns-clause-ok
returns-clause-ok c =
    let IsHeld : List ℕ → List ℕ → Type 0 = λ k p. (m : List ℕ) → get order_of_lists c.insert.new.self m ≡ put_at k (Some p) m (get order_of_lists c.args.self.now.holders m) in
    subst (λ k. IsHeld k c.args.pid.now) c.in_ok-copy.ensures (subst (λ p. IsHeld c.in_ok-copy.field-0 p) c.in_ok-copy-2.ensures (put_now c.args.self.now.holders c.insert.new.self _ _ c.in_ok-before.ensures.updates.0))
