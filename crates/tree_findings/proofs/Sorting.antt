-- One more finding leaves a list in order.
use Rattle.std.proofs.Common.{◌≡◌, List, [], ◌∷◌, refl}
use Rattle.std.specs.declared.cmp.Ordering.{Ordering}
use Rattle.std.specs.declared.cmp.Ordering.TheVariants.{Less, Equal, Greater}
use Rattle.term_core.specs.declared.step.Step.{Step}
use Rattle.world_identities.specs.inside.OrderLaws.{identities_total}
use Rattle.tree_coverage.specs.Findings.{Finding, lesser, put_before, with_finding, LeadsAll, AreSorted}
use Rattle.world_identities.specs.Order.{order_of_identities}
use Rattle.tree_findings.proofs.Putting.{finding, turned}

leads_more : (f g : Finding) (gs : List Finding) → order_of_identities f.identity g.identity ≡ Less → LeadsAll g gs → LeadsAll f gs
leads_more f g [] less leads = tt
leads_more f g (h ∷ gs) less leads =
    (identities_total.trans f.identity g.identity h.identity less leads.0, leads_more f g gs less leads.1)

leads_with : (h f : Finding) (fs : List Finding) → order_of_identities h.identity f.identity ≡ Less → LeadsAll h fs → LeadsAll h (with_finding f fs)
leads_with h f [] less leads = (less, tt)
leads_with h f (g ∷ gs) less leads = go (order_of_identities f.identity g.identity) (leads_with h f gs less leads.1)
  where
    go : (o : Ordering) → LeadsAll h (with_finding f gs) → LeadsAll h (put_before o f g gs (with_finding f gs))
    go Less more = (less, leads)
    go Equal more = leads
    go Greater more = (leads.0, more)

pub sorted_with : (f : Finding) (fs : List Finding) → AreSorted fs → AreSorted (with_finding f fs)
sorted_with f [] sorted = (tt, tt)
sorted_with f (g ∷ gs) sorted = go (order_of_identities f.identity g.identity) refl (sorted_with f gs sorted.1)
  where
    leads_same : (hs : List Finding) (s : List Step) → LeadsAll g hs → LeadsAll (finding g.identity s) hs
    leads_same [] s leads = tt
    leads_same (h ∷ hs) s leads = (leads.0, leads_same hs s leads.1)

    go : (o : Ordering) → order_of_identities f.identity g.identity ≡ o → AreSorted (with_finding f gs) → AreSorted (put_before o f g gs (with_finding f gs))
    go Less e more = ((e, leads_more f g gs e sorted.0), sorted)
    go Equal e more = (leads_same gs (lesser f.schedule g.schedule) sorted.0, sorted.1)
    go Greater e more = (leads_with g f gs (turned f.identity g.identity Greater e) sorted.0, more)
