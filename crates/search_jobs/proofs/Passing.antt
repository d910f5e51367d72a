-- What is found passes the test of its kind.
use Rattle.std.proofs.Common.{◌≡◌, inl, inr, Bool, true, List, [], ◌∷◌, filter, refl, subst}
use Rattle.std.specs.declared.cmp.Ordering.{Ordering}
use Rattle.std.specs.declared.cmp.Ordering.TheVariants.{Less, Equal, Greater}
use Rattle.term_core.specs.declared.step.Step.{Step}
use Rattle.world_model.specs.Names.{IsAmong}
use Rattle.world_model.specs.Requests.{Program}
use Rattle.world_model.specs.Run.{run}
use Rattle.world_model.specs.Shown.{Identity}
use Rattle.tree_coverage.specs.Findings.{Finding, put_before, with_finding, with_all, found}
use Rattle.world_identities.specs.Order.{order_of_identities}
use Rattle.tree_coverage.specs.Shown.{shown_after}
use Rattle.tree_coverage.proofs.Lists.{kept_passes}

module _ (test : Identity → Bool) where
  abbrev Pass : List Finding → Type 0
  Pass fs = (f : Finding) → IsAmong f fs → test f.identity ≡ true

  pass_with : (f : Finding) (fs : List Finding) → test f.identity ≡ true → Pass fs → Pass (with_finding f fs)
  pass_with f [] p pass g (inl is) = subst (λ (k : Finding). test k.identity ≡ true) is p
  pass_with f [] p pass g (inr there) = elim there [ ]
  pass_with f (h ∷ fs) p pass g there = go (order_of_identities f.identity h.identity) (pass_with f fs p (λ k t. pass k (inr t)) g) there
    where
      go : (o : Ordering) → (IsAmong g (with_finding f fs) → test g.identity ≡ true) → IsAmong g (put_before o f h fs (with_finding f fs)) → test g.identity ≡ true
      go Less more (inl is) = subst (λ (k : Finding). test k.identity ≡ true) is p
      go Less more (inr t) = pass g t
      go Equal more (inl is) = subst (λ (k : Finding). test k.identity ≡ true) is (pass h (inl refl))
      go Equal more (inr t) = pass g (inr t)
      go Greater more (inl is) = pass g (inl is)
      go Greater more (inr t) = more t

  pass_all : (s : List Step) (is : List Identity) (fs : List Finding) → ((i : Identity) → IsAmong i is → test i ≡ true) → Pass fs → Pass (with_all s is fs)
  pass_all s [] fs new pass = pass
  pass_all s (i ∷ is) fs new pass = pass_with (record { identity = i; schedule = s }) (with_all s is fs) (new i (inl refl)) (pass_all s is fs (λ j t. new j (inr t)) pass)

pub found_passes : (test : Identity → Bool) (a : Program) (schedules : List (List Step)) (f : Finding) → IsAmong f (found test a schedules) → test f.identity ≡ true
found_passes test a [] f there = absurd there
found_passes test a (s ∷ schedules) f there =
    pass_all test s (filter test (shown_after a (run a s))) (found test a schedules) (λ i t. (kept_passes test (shown_after a (run a s)) i t).0) (found_passes test a schedules) f there
