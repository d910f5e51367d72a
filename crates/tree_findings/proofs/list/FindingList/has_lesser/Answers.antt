use Rattle.std.proofs.Common.{◌≡◌, ◌<◌, List, length, slice_index_or, not, ◌∙◌, sym, ap, subst}
use Rattle.std.proofs.lemmas.Bool.{not-true, false≢true}
use Rattle.std.specs.Ordering.{is_gt}
use Rattle.std.specs.declared.cmp.Ordering.TheVariants.{Equal}
use Rattle.term_core.specs.StepOrder.{order_of_schedules}
use Rattle.term_core.specs.declared.step.Step.{Step}
use Rattle.world_identities.specs.Order.{order_of_identities}
use Rattle.tree_findings.specs.Found.{finding_in}
use Rattle.world_identities.specs.Identities.{identity_in}
use Rattle.tree_findings.specs.declared.finding.Finding.{Finding}
use Rattle.tree_findings.proofs.Least.{second_stays}
use Rattle.tree_findings.proofs.Places.{stays_there, changes_between}
use Rattle.tree_findings.proofs.Putting.{finding}
use Rattle.tree_findings.proofs.list.FindingList.has_lesser.Goals as goal

pub returns-in-Ok : goal.returns-in-Ok
returns-in-Ok c =
    let xs = c.self.inside.items.items in
    let x = c.index-items-at.result in
    let at = c.in-Ok.at in
    let f = finding (identity_in c.args.identity.now) c.args.schedule.now in
    let within : at < length xs = subst (λ (zs : List Finding). at < length zs) c.as_slice-items.ensures.value c.in-Ok.ensures.within in
    let is : x ≡ slice_index_or xs at x = subst (λ (zs : List Finding). x ≡ slice_index_or zs at x) c.as_slice-items.ensures.value c.index-items-at.is in
    let there : order_of_identities (finding_in (slice_index_or xs at x)).identity f.identity ≡ Equal = subst (λ (zs : List Finding). order_of_identities (finding_in (slice_index_or zs at x)).identity f.identity ≡ Equal) c.as_slice-items.ensures.value (c.in-Ok.ensures.there x) in
    let list = stays_there finding_in f xs at x within is c.self.invariant (ap (λ (z : Finding). order_of_identities (finding_in z).identity f.identity) is ∙ there) in
    let pair = second_stays c.args.schedule.now x.schedule.items in
    let told : c.is_gt.result ≡ is_gt (order_of_schedules x.schedule.items c.args.schedule.now) = c.is_gt.ensures ∙ ap is_gt (c.compare_schedules.ensures ∙ ap (λ (s : List Step). order_of_schedules s c.args.schedule.now) (c.as_slice.ensures.value ∙ ap (λ (z : Finding). z.schedule.items) (sym c.index-items-at.is))) in
    rw (← c.self.view_is) (λ t. list.0 (pair.0 (sym told ∙ not-true c.is_gt.result t)), λ same. ap not (told ∙ pair.1 (list.1 same)))

pub returns-in-Err : goal.returns-in-Err
returns-in-Err c =
    let f = finding (identity_in c.args.identity.now) c.args.schedule.now in
    let parts = rw c.as_slice-items.ensures.value at c.in-Err.ensures in
    rw (← c.self.view_is) (λ t. absurd (false≢true t), λ same. absurd (changes_between finding_in f c.self.inside.items.items c.in-Err.field-0 parts.room (parts.between c.self.invariant) same))
