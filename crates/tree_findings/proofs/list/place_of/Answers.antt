use Rattle.std.proofs.Common.{rules, of_calls}
use Rattle.std.proofs.lemmas.Fn.{always_returns_same}
use Rattle.world_identities.specs.Order.{order_of_identities}
use Rattle.world_identities.specs.Identities.{identity_in}
use Rattle.tree_findings.specs.Found.{finding_in}
use Rattle.tree_findings.proofs.Places.{if_found, if_missing, never_falls}
use Rattle.tree_findings.proofs.list.place_of.Goals as goal

pub returns-clause-there : goal.returns-clause-there
returns-clause-there c =
    let key = always_returns_same _ _ _ (λ a r f k. search (rules, of_calls)) in
    if_found _ _ c.binary_search_by.result (c.binary_search_by.ensures.position (λ f. order_of_identities (finding_in f).identity (identity_in c.args.identity.now)) key)

pub returns-clause-between : goal.returns-clause-between
returns-clause-between c =
    let key = always_returns_same _ _ _ (λ a r f k. search (rules, of_calls)) in
    if_missing _ _ _ c.binary_search_by.result (λ at parts sorted. parts (never_falls finding_in (identity_in c.args.identity.now) c.args.items.now sorted)) (c.binary_search_by.ensures.position (λ f. order_of_identities (finding_in f).identity (identity_in c.args.identity.now)) key)
