use Rattle.std.proofs.Common.{◌≡◌, ◌<◌, List, length, slice_index_or, ◌∙◌, ap, subst, refl, rules}
use Rattle.std.specs.declared.cmp.Ordering.TheVariants.{Equal}
use Rattle.world_identities.specs.Order.{order_of_identities}
use Rattle.tree_findings.specs.Found.{finding_in}
use Rattle.tree_findings.specs.declared.finding.Finding.{Finding}
use Rattle.tree_findings.proofs.Places.{put_there, put_between}
use Rattle.tree_findings.proofs.list.put.Goals as goal

pub returns-in-Ok-clause-items : goal.returns-in-Ok-clause-items
returns-in-Ok-clause-items c =
    let xs = c.args.items.now.items in
    let x = c.index_mut.result.now in
    let at = c.in-Ok.at in
    let within : at < length xs = subst (λ (zs : List Finding). at < length zs) c.as_slice.ensures.value c.in-Ok.ensures.within in
    let is : x ≡ slice_index_or xs at x = c.index_mut.ensures.value in
    let there : order_of_identities (finding_in (slice_index_or xs at x)).identity (finding_in c.args.finding).identity ≡ Equal = subst (λ (zs : List Finding). order_of_identities (finding_in (slice_index_or zs at x)).identity (finding_in c.args.finding).identity ≡ Equal) c.as_slice.ensures.value (c.in-Ok.ensures.there x) in
    put_there finding_in (finding_in c.args.finding) xs at x c.keep_lesser.new.finding within is c.requires.sorted (ap (λ (z : Finding). order_of_identities (finding_in z).identity (finding_in c.args.finding).identity) is ∙ there) c.keep_lesser.ensures

pub returns-else-is_err-clause-items : goal.returns-else-is_err-clause-items
returns-else-is_err-clause-items c =
    let parts = rw c.as_slice.ensures.value at c.in-Err.ensures in
    let put = put_between finding_in (finding_in c.args.finding) c.args.items.now.items c.in-Err.at c.args.finding parts.room (parts.between c.requires.sorted) refl in
    search (rules, put, c.is_err.ensures.negation, c.if-is_err.false)
