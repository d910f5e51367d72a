-- Findings are in order, each with the least schedule, and are all that is shown.
use Rattle.std.proofs.Common.{◌≡◌, ◌↔◌, inl, inr, ℕ, Bool, true, false, List, [], ◌∷◌, Option, Some, None, filter, if◌then◌else◌, refl, sym, ap, ◌∙◌, subst}
use Rattle.std.proofs.lemmas.Cmp.{tied_itself, upto}
use Rattle.std.specs.Ordering.{is_gt, ordering_reverse}
use Rattle.std.specs.declared.cmp.Ordering.{Ordering}
use Rattle.std.specs.declared.cmp.Ordering.TheVariants.{Less, Equal, Greater}
use Rattle.term_core.specs.StepOrder.{order_of_schedules}
use Rattle.term_core.specs.inside.StepOrderLaws.{schedules_total}
use Rattle.term_core.specs.declared.step.Step.{Step}
use Rattle.world_model.specs.Events.{History}
use Rattle.world_model.specs.Names.{IsAmong}
use Rattle.world_model.specs.Requests.{Program}
use Rattle.world_model.specs.Run.{run}
use Rattle.world_model.specs.Shown.{Identity, is_error, is_refusal}
use Rattle.tree_coverage.specs.Findings.{Finding, lesser, put_before, with_finding, with_all, found, IsFound, LeadsAll, AreSorted, FindingsAreSorted, ErrorsAreExact, RefusalsAreExact, IsLeast, ErrorsAreOfNodes, RefusalsAreOfNodes}
use Rattle.world_identities.specs.Order.{order_of_identities}
use Rattle.tree_coverage.specs.Shown.{RunShows, IsShown, IsShownByOne, shown_after}
use Rattle.tree_coverage.specs.Trees.{nodes}
use Rattle.world_identities.specs.inside.OrderLaws.{identities_total, same_identity}
use Rattle.tree_coverage.proofs.Lists.{kept_passes, passes_kept}
use Rattle.tree_coverage.proofs.ShownLaws.{nodes_show}

abbrev finding : Identity → List Step → Finding
finding i s = record { identity = i; schedule = s }

-- ---- in order

leads_more : (f g : Finding) (gs : List Finding) → order_of_identities f.identity g.identity ≡ Less → LeadsAll g gs → LeadsAll f gs
leads_more f g [] less leads = tt
leads_more f g (h ∷ gs) less leads =
    (identities_total.trans f.identity g.identity h.identity less leads.0, leads_more f g gs less leads.1)

leads_with : (h f : Finding) (fs : List Finding) → order_of_identities h.identity f.identity ≡ Less → LeadsAll h fs → LeadsAll h (with_finding f fs)
leads_with h f [] less leads = (less, tt)
leads_with h f (g ∷ gs) less leads = go (order_of_identities f.identity g.identity) (leads_with h f gs less leads.1)
  where
    go : (o : Ordering) → LeadsAll h (with_finding f gs) → LeadsAll h (put_before o f g gs (with_finding f gs))
    go Less more = (less, leads)
    go Equal more = leads
    go Greater more = (leads.0, more)

turned : (i j : Identity) → order_of_identities i j ≡ Greater → order_of_identities j i ≡ Less
turned i j e = identities_total.antisymm j i ∙ ap ordering_reverse e

sorted_with : (f : Finding) (fs : List Finding) → AreSorted fs → AreSorted (with_finding f fs)
sorted_with f [] sorted = (tt, tt)
sorted_with f (g ∷ gs) sorted = go (order_of_identities f.identity g.identity) refl (sorted_with f gs sorted.1)
  where
    leads_same : (hs : List Finding) (s : List Step) → LeadsAll g hs → LeadsAll (finding g.identity s) hs
    leads_same [] s leads = tt
    leads_same (h ∷ hs) s leads = (leads.0, leads_same hs s leads.1)

    go : (o : Ordering) → order_of_identities f.identity g.identity ≡ o → AreSorted (with_finding f gs) → AreSorted (put_before o f g gs (with_finding f gs))
    go Less e more = ((e, leads_more f g gs e sorted.0), sorted)
    go Equal e more = (leads_same gs (lesser f.schedule g.schedule) sorted.0, sorted.1)
    go Greater e more = (leads_with g f gs (turned f.identity g.identity e) sorted.0, more)

sorted_all : (s : List Step) (is : List Identity) (fs : List Finding) → AreSorted fs → AreSorted (with_all s is fs)
sorted_all s [] fs sorted = sorted
sorted_all s (i ∷ is) fs sorted = sorted_with (finding i s) (with_all s is fs) (sorted_all s is fs sorted)

pub sorted_found : (test : Identity → Bool) (a : Program) (schedules : List (List Step)) → AreSorted (found test a schedules)
sorted_found test a [] = tt
sorted_found test a (s ∷ schedules) =
    sorted_all s (filter test (shown_after a (run a s))) (found test a schedules) (sorted_found test a schedules)

-- two findings of one identity in a list in order are one
leads_there : (f g : Finding) (gs : List Finding) → LeadsAll f gs → IsAmong g gs → order_of_identities f.identity g.identity ≡ Less
leads_there f g [] leads there = absurd there
leads_there f g (h ∷ gs) leads (inl is) = ap (λ k. order_of_identities f.identity k.identity) (sym is) ∙ leads.0
leads_there f g (h ∷ gs) leads (inr there) = leads_there f g gs leads.1 there

never : (i j : Identity) → i ≡ j → order_of_identities i j ≡ Less → ⊥
never i j same less = less_equal (sym less ∙ ap (order_of_identities i) (sym same) ∙ tied_itself identities_total i)
  where
    less_equal : Less ≡ Equal → ⊥
    less_equal e = absurd cc

pub one_finding : (f g : Finding) (fs : List Finding) → AreSorted fs → IsAmong f fs → IsAmong g fs → f.identity ≡ g.identity → f ≡ g
one_finding f g [] sorted here there same = absurd here
one_finding f g (h ∷ fs) sorted (inl p) (inl q) same = sym p ∙ q
one_finding f g (h ∷ fs) sorted (inl p) (inr q) same =
    absurd (never h.identity g.identity (ap (λ k. k.identity) p ∙ same) (leads_there h g fs sorted.0 q))
one_finding f g (h ∷ fs) sorted (inr p) (inl q) same =
    absurd (never h.identity f.identity (ap (λ k. k.identity) q ∙ sym same) (leads_there h f fs sorted.0 p))
one_finding f g (h ∷ fs) sorted (inr p) (inr q) same = one_finding f g fs sorted.1 p q same

-- ---- what holds of all

lesser_either : (P : List Step → Type 0) (s t : List Step) → P s → P t → P (lesser s t)
lesser_either P s t p q = go (is_gt (order_of_schedules s t))
  where
    go : (b : Bool) → P (if b then t else s)
    go true = q
    go false = p

module _ (P : Identity → List Step → Type 0) where
  abbrev pub Each : List Finding → Type 0
  Each fs = (f : Finding) → IsAmong f fs → P f.identity f.schedule

  each_with : (f : Finding) (fs : List Finding) → P f.identity f.schedule → Each fs → Each (with_finding f fs)
  each_with f [] p each g (inl is) = subst (λ k. P k.identity k.schedule) is p
  each_with f [] p each g (inr there) = elim there [ ]
  each_with f (h ∷ fs) p each g there = go (order_of_identities f.identity h.identity) refl (each_with f fs p (λ k t. each k (inr t)) g) there
    where
      go : (o : Ordering) → order_of_identities f.identity h.identity ≡ o → (IsAmong g (with_finding f fs) → P g.identity g.schedule) → IsAmong g (put_before o f h fs (with_finding f fs)) → P g.identity g.schedule
      go Less e more (inl is) = subst (λ k. P k.identity k.schedule) is p
      go Less e more (inr t) = each g t
      go Equal e more (inl is) =
          subst (λ k. P k.identity k.schedule) is (lesser_either (P h.identity) f.schedule h.schedule (subst (λ i. P i f.schedule) (same_identity f.identity h.identity e) p) (each h (inl refl)))
      go Equal e more (inr t) = each g (inr t)
      go Greater e more (inl is) = each g (inl is)
      go Greater e more (inr t) = more t

  each_all : (s : List Step) (is : List Identity) (fs : List Finding) → ((i : Identity) → IsAmong i is → P i s) → Each fs → Each (with_all s is fs)
  each_all s [] fs new each = each
  each_all s (i ∷ is) fs new each = each_with (finding i s) (with_all s is fs) (new i (inl refl)) (each_all s is fs (λ j t. new j (inr t)) each)

-- ---- an identity is there with a schedule that is no greater

pub record AtMost (i : Identity) (s : List Step) (fs : List Finding) : Type 0 where
  pub it : Finding
  pub is_among : IsAmong it fs
  pub is_identity : it.identity ≡ i
  pub is_at_most : is_gt (order_of_schedules it.schedule s) ≡ false

at_most_itself : (s : List Step) → is_gt (order_of_schedules s s) ≡ false
at_most_itself s = ap is_gt (tied_itself schedules_total s)

not_greater_back : (o : Ordering) → is_gt o ≡ true → is_gt (ordering_reverse o) ≡ false
not_greater_back Less e = absurd cc
not_greater_back Equal e = absurd cc
not_greater_back Greater e = refl

lesser_first : (s t : List Step) → is_gt (order_of_schedules (lesser s t) s) ≡ false
lesser_first s t = go (is_gt (order_of_schedules s t)) refl
  where
    go : (b : Bool) → is_gt (order_of_schedules s t) ≡ b → is_gt (order_of_schedules (if b then t else s) s) ≡ false
    go true e = ap is_gt (schedules_total.antisymm t s) ∙ not_greater_back _ e
    go false e = at_most_itself s

lesser_second : (s t : List Step) → is_gt (order_of_schedules (lesser s t) t) ≡ false
lesser_second s t = go (is_gt (order_of_schedules s t)) refl
  where
    go : (b : Bool) → is_gt (order_of_schedules s t) ≡ b → is_gt (order_of_schedules (if b then t else s) t) ≡ false
    go true e = at_most_itself t
    go false e = e

new_at_most : (f : Finding) (fs : List Finding) → AtMost f.identity f.schedule (with_finding f fs)
new_at_most f [] = record { it = f; is_among = inl refl; is_identity = refl; is_at_most = at_most_itself f.schedule }
new_at_most f (g ∷ gs) = go (order_of_identities f.identity g.identity) refl (new_at_most f gs)
  where
    go : (o : Ordering) → order_of_identities f.identity g.identity ≡ o → AtMost f.identity f.schedule (with_finding f gs) → AtMost f.identity f.schedule (put_before o f g gs (with_finding f gs))
    go Less e more = record { it = f; is_among = inl refl; is_identity = refl; is_at_most = at_most_itself f.schedule }
    go Equal e more =
        record { it = finding g.identity (lesser f.schedule g.schedule); is_among = inl refl; is_identity = sym (same_identity f.identity g.identity e); is_at_most = lesser_first f.schedule g.schedule }
    go Greater e more = record { it = more.it; is_among = inr more.is_among; is_identity = more.is_identity; is_at_most = more.is_at_most }

old_at_most : (i : Identity) (s : List Step) (f : Finding) (fs : List Finding) → AtMost i s fs → AtMost i s (with_finding f fs)
old_at_most i s f [] h = absurd h.is_among
old_at_most i s f (g ∷ gs) h = go (order_of_identities f.identity g.identity) h.is_among (λ m. old_at_most i s f gs m)
  where
    later : IsAmong h.it gs → AtMost i s gs
    later t = record { it = h.it; is_among = t; is_identity = h.is_identity; is_at_most = h.is_at_most }

    merged : h.it ≡ g → AtMost i s (finding g.identity (lesser f.schedule g.schedule) ∷ gs)
    merged is = record {
      it = finding g.identity (lesser f.schedule g.schedule);
      is_among = inl refl;
      is_identity = ap (λ k. k.identity) (sym is) ∙ h.is_identity;
      is_at_most = upto schedules_total (lesser f.schedule g.schedule) g.schedule s (lesser_second f.schedule g.schedule) (ap (λ k. is_gt (order_of_schedules k.schedule s)) (sym is) ∙ h.is_at_most);
    }

    below : AtMost i s (with_finding f gs) → AtMost i s (g ∷ with_finding f gs)
    below m = record { it = m.it; is_among = inr m.is_among; is_identity = m.is_identity; is_at_most = m.is_at_most }

    go : (o : Ordering) → IsAmong h.it (g ∷ gs) → (AtMost i s gs → AtMost i s (with_finding f gs)) → AtMost i s (put_before o f g gs (with_finding f gs))
    go Less t more = record { it = h.it; is_among = inr t; is_identity = h.is_identity; is_at_most = h.is_at_most }
    go Equal (inl is) more = merged (sym is)
    go Equal (inr t) more = record { it = h.it; is_among = inr t; is_identity = h.is_identity; is_at_most = h.is_at_most }
    go Greater (inl is) more = record { it = h.it; is_among = inl is; is_identity = h.is_identity; is_at_most = h.is_at_most }
    go Greater (inr t) more = below (more (later t))

old_all : (i : Identity) (s r : List Step) (is : List Identity) (fs : List Finding) → AtMost i s fs → AtMost i s (with_all r is fs)
old_all i s r [] fs h = h
old_all i s r (j ∷ is) fs h = old_at_most i s (finding j r) (with_all r is fs) (old_all i s r is fs h)

new_all : (i : Identity) (s : List Step) (is : List Identity) (fs : List Finding) → IsAmong i is → AtMost i s (with_all s is fs)
new_all i s [] fs there = absurd there
new_all i s (j ∷ is) fs (inl is_it) = subst (λ k. AtMost k s (with_all s (j ∷ is) fs)) is_it (new_at_most (finding j s) (with_all s is fs))
new_all i s (j ∷ is) fs (inr there) = old_at_most i s (finding j s) (with_all s is fs) (new_all i s is fs there)

-- ---- what schedules show

shown_run : (a : Program) (s : List Step) (i : Identity) → RunShows a s i → IsAmong i (shown_after a (run a s))
shown_run a s i (h, now, shows) = subst (λ o. IsAmong i (shown_after a o)) (sym now) shows

run_shown : (a : Program) (s : List Step) (i : Identity) (o : Option History) → run a s ≡ o → IsAmong i (shown_after a o) → RunShows a s i
run_shown a s i None e there = absurd there
run_shown a s i (Some h) e there = (h, e, there)

pub found_at_most : (test : Identity → Bool) (a : Program) (schedules : List (List Step)) (s : List Step) (i : Identity) → test i ≡ true → IsAmong s schedules → RunShows a s i → AtMost i s (found test a schedules)
found_at_most test a [] s i passes there shows = absurd there
found_at_most test a (r ∷ schedules) s i passes (inl is) shows =
    subst (λ t. AtMost i t (found test a (r ∷ schedules))) is (new_all i r (filter test (shown_after a (run a r))) (found test a schedules) (passes_kept test _ i passes (shown_run a r i (subst (λ t. RunShows a t i) (sym is) shows))))
found_at_most test a (r ∷ schedules) s i passes (inr there) shows =
    old_all i s r (filter test (shown_after a (run a r))) (found test a schedules) (found_at_most test a schedules s i passes there shows)

abbrev pub Sound : (Identity → Bool) → Program → List (List Step) → Identity → List Step → Type 0
Sound test a schedules i s = (test i ≡ true) × IsAmong s schedules × RunShows a s i

pub sound : (test : Identity → Bool) (a : Program) (schedules : List (List Step)) → Each (Sound test a schedules) (found test a schedules)
sound test a [] = λ f there. absurd there
sound test a (s ∷ schedules) =
    each_all (Sound test a (s ∷ schedules)) s (filter test (shown_after a (run a s))) (found test a schedules) (λ i t.
    let k : (test i ≡ true) × IsAmong i (shown_after a (run a s)) = kept_passes test (shown_after a (run a s)) i t in
    (k.0, inl refl, run_shown a s i (run a s) refl k.1)) (λ f t.
    let k : Sound test a schedules f.identity f.schedule = sound test a schedules f t in
    (k.0, inr k.1, k.2))

pub least : (test : Identity → Bool) (a : Program) (schedules : List (List Step)) (f : Finding) → IsAmong f (found test a schedules) → IsLeast a schedules f
least test a schedules f there =
    let k : Sound test a schedules f.identity f.schedule = sound test a schedules f there in
    record {
      is_among = k.1;
      shows = k.2;
      is_least = λ s t shows.
          let m : AtMost f.identity s (found test a schedules) = found_at_most test a schedules s f.identity k.0 t shows in
          ap (λ g. is_gt (order_of_schedules g.schedule s)) (sym (one_finding m.it f (found test a schedules) (sorted_found test a schedules) m.is_among there m.is_identity)) ∙ m.is_at_most;
    }

-- ---- of the tree

exact : (test : Identity → Bool) (a : Program) (n : ℕ) (i : Identity) → IsFound i (found test a (nodes a n)) ↔ ((test i ≡ true) × IsShown a n i)
exact test a n i = (
  λ h.
      let k : Sound test a (nodes a n) h.0.identity h.0.schedule = sound test a (nodes a n) h.0 h.1 in
      (ap test (sym h.2) ∙ k.0, (nodes_show a n i).1 (h.0.schedule, k.1, subst (RunShows a h.0.schedule) h.2 k.2)),
  λ h.
      let s : IsShownByOne a (nodes a n) i = (nodes_show a n i).0 h.1 in
      let m : AtMost i s.0 (found test a (nodes a n)) = found_at_most test a (nodes a n) s.0 i h.0 s.1 s.2 in
      (m.it, m.is_among, m.is_identity),
)

pub findings_sorted : FindingsAreSorted
findings_sorted flags a n = (sorted_found (is_error flags) a (nodes a n), sorted_found is_refusal a (nodes a n))

pub errors_exact : ErrorsAreExact
errors_exact flags a n i = exact (is_error flags) a n i

pub refusals_exact : RefusalsAreExact
refusals_exact flags a n i = exact is_refusal a n i

pub errors_of_nodes : ErrorsAreOfNodes
errors_of_nodes flags a n f there = least (is_error flags) a (nodes a n) f there

pub refusals_of_nodes : RefusalsAreOfNodes
refusals_of_nodes flags a n f there = least is_refusal a (nodes a n) f there
