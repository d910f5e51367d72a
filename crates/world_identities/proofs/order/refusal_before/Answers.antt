use Rattle.std.proofs.Common.{◌≡◌, sym, ◌∙◌, ap, rules, of_calls}
use Rattle.std.specs.Ordering.{ordering_then, nat_cmp}
use Rattle.std.specs.declared.cmp.Ordering.{Ordering}
use Rattle.world_model.specs.Shown as shown
use Rattle.world_identities.specs.Order.{order_of_identities}
use Rattle.world_identities.specs.Identities.{identity_in}
use Rattle.world_identities.specs.declared.identity.Identity.{Identity}
use Rattle.world_identities.proofs.Orders.{by_call, order_of_refusals}
use Rattle.world_identities.proofs.order.refusal_before.Goals as goal

pub returns-in-Refusal : goal.returns-in-Refusal
returns-in-Refusal c =
    let x = c.args in
    let y = c.in-Refusal in
    let first = shown.RefusedCall x.p.now x.request x.kind x.arguments.now x.rule x.owner.now in
    let calls : c.then_with-calls.result ≡ ordering_then c.order_of_requests-requests.result (by_call x.kind x.arguments.now y.d y.ys.value) = search (rules, of_calls) in
    let numbers : c.cmp.result ≡ _ = c.cmp.ensures ∙ (λ i. nat_cmp (c.number_of_call.ensures i) (c.number_of_call-in-Refusal.ensures i)) in
    let reasons = c.then-reasons.ensures ∙ (λ i. ordering_then ((calls ∙ ap (λ (o : Ordering). ordering_then o (by_call x.kind x.arguments.now y.d y.ys.value)) c.order_of_requests-requests.ensures) i) (c.order_of_reasons.ensures i)) in
    c.then.ensures ∙ (λ i. ordering_then (reasons i) (numbers i)) ∙ order_of_refusals x.p.now y.q x.request y.n x.kind y.d x.arguments.now y.ys.value x.rule y.s x.owner.now y.u ∙ ap (λ (i : Identity). order_of_identities first (identity_in i)) (sym y.is)
