use Rattle.std.proofs.Common.{◌≡◌, ◌∙◌}
use Rattle.std.specs.Ordering.{eq_by_cmp}
use Rattle.term_core.specs.Order.{order_of_items}
use Rattle.ets_store.proofs.Same.{objects_same}
use Rattle.ets_store.proofs.object.Object.is_same.Goals as goal

pub returns : goal.returns
returns c =
    let a : c.deref-parts.result.now ≡ c.args.self.now = c.deref-parts.ensures ∙ c.self.view_is in
    let b : c.deref-others.result.now ≡ c.args.other.now = c.deref-others.ensures ∙ c.other.view_is in
    objects_same c.args.self.now c.args.other.now c.eq.result (c.eq.ensures ∙ (λ i. eq_by_cmp order_of_items (a i) (b i)))
