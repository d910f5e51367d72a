-- What all schedules show is found with the least of them, and schedules that stand for all find the same.
use Rattle.std.proofs.Common.{◌≡◌, ◌↔◌, inl, inr, ℕ, ◌≤◌, Bool, true, false, List, [], ◌∷◌, length, refl, sym, ap, ◌∙◌, subst}
use Rattle.std.proofs.lemmas.Cmp.{tied_itself, upto}
use Rattle.std.specs.Ordering.{is_gt, ordering_reverse}
use Rattle.std.specs.declared.cmp.Ordering.{Ordering}
use Rattle.std.specs.declared.cmp.Ordering.TheVariants.{Less, Equal, Greater}
use Rattle.term_core.specs.StepOrder.{order_of_schedules}
use Rattle.term_core.specs.inside.StepOrderLaws.{schedules_total, same_schedule}
use Rattle.term_core.specs.declared.step.Step.{Step}
use Rattle.tree_coverage.specs.Findings.{AreSorted, Finding, IsFound, IsLeast, LeadsAll, found}
use Rattle.tree_coverage.specs.Shown.{RunShows}
use Rattle.tree_coverage.proofs.FindingLaws.{AtMost, Sound, errors_exact, found_at_most, least, sorted_found, sound}
use Rattle.tree_schedules.specs.Deliveries.{DeliversBy}
use Rattle.tree_schedules.specs.Schedules.{all_schedules, ErrorsAreLeast, ErrorsAreOfAll, IsLeastOfAll, IsShownBy, PromptErrorsAreErrors, RefusalsAreLeast, RefusalsAreOfAll, TreesFindTheSame}
use Rattle.tree_schedules.specs.StandIns.{HasStandIn, IsUpTo, StandForAll, StandInsFindAll}
use Rattle.tree_schedules.specs.declared.delivery.Delivery.{Delivery}
use Rattle.tree_schedules.specs.declared.delivery.Delivery.TheVariants.{AnyTime, AtOnce}
use Rattle.tree_schedules.proofs.Delivering.{from_shown_by, to_shown_by}
use Rattle.tree_schedules.proofs.Listed.{all_listed}
use Rattle.world_identities.specs.Order.{order_of_identities}
use Rattle.world_identities.specs.inside.OrderLaws.{identities_total}
use Rattle.world_model.specs.Names.{IsAmong}
use Rattle.world_model.specs.Requests.{Program}
use Rattle.world_model.specs.Shown.{Identity, is_error, is_refusal}

up_to_itself : (s : List Step) → IsUpTo s s
up_to_itself s = ap is_gt (tied_itself schedules_total s)

-- ---- all schedules stand for themselves

pub all_stand : (d : Delivery) (a : Program) (n : ℕ) → StandForAll d a n (all_schedules d a n)
all_stand d a n = record {
  runs = λ s there. (all_listed d a n s).0 there;
  stand = λ s h short is now. record { by = s; is_among = (all_listed d a n s).1 (short, is, h, now); history = h; runs = now; same = refl; up_to = up_to_itself s };
}

-- ---- what stand-ins show

module _ (test : Identity → Bool) (d : Delivery) (a : Program) (n : ℕ) (visited : List (List Step)) (all : StandForAll d a n visited) where
  stood : (s : List Step) (i : Identity) → length s ≤ n → DeliversBy d a s → RunShows a s i → (v : List Step) × IsAmong v visited × RunShows a v i × IsUpTo v s
  stood s i short is (h, now, shows) =
      let b : HasStandIn a visited s h = all.stand s h short is now in
      (b.by, b.is_among, (b.history, b.runs, subst (λ is. IsAmong i is) (sym b.same) shows), b.up_to)

  pub exact_of : (i : Identity) → IsFound i (found test a visited) ↔ ((test i ≡ true) × IsShownBy d a n i)
  exact_of i = (λ f. to f, λ p. from p)
    where
      to : IsFound i (found test a visited) → (test i ≡ true) × IsShownBy d a n i
      to f =
          let k : Sound test a visited f.0.identity f.0.schedule = sound test a visited f.0 f.1 in
          let r = all.runs f.0.schedule k.1 in
          (ap test (sym f.2) ∙ k.0, to_shown_by d a n i f.0.schedule r.0 r.1 (subst (RunShows a f.0.schedule) f.2 k.2))

      from : (test i ≡ true) × IsShownBy d a n i → IsFound i (found test a visited)
      from p =
          let w = from_shown_by d a n i p.1 in
          let v = stood w.0 i w.1 w.2 w.3 in
          let m : AtMost i v.0 (found test a visited) = found_at_most test a visited v.0 i p.0 v.1 v.2 in
          (m.it, m.is_among, m.is_identity)

  pub least_of : (f : Finding) → IsAmong f (found test a visited) → IsLeastOfAll d a n f
  least_of f there =
      let k : IsLeast a visited f = least test a visited f there in
      let r = all.runs f.schedule k.is_among in
      record {
        within = r.0;
        delivers = r.1;
        shows = k.shows;
        is_least = λ s short is shows.
            let v = stood s f.identity short is shows in
            upto schedules_total f.schedule v.0 s (k.is_least v.0 v.1 v.2) v.3;
      }

-- ---- two lists of findings in order are one where each has the least schedules for the same identities

not_both : (o : Ordering) → is_gt o ≡ false → is_gt (ordering_reverse o) ≡ false → o ≡ Equal
not_both Less p q = absurd cc
not_both Equal p q = refl
not_both Greater p q = absurd cc

one_schedule : (d : Delivery) (a : Program) (n : ℕ) (f g : Finding) → IsLeastOfAll d a n f → IsLeastOfAll d a n g → f.identity ≡ g.identity → f ≡ g
one_schedule d a n f g p q same =
    let forth : is_gt (order_of_schedules f.schedule g.schedule) ≡ false = p.is_least g.schedule q.within q.delivers (subst (RunShows a g.schedule) (sym same) q.shows) in
    let back : is_gt (order_of_schedules g.schedule f.schedule) ≡ false = q.is_least f.schedule p.within p.delivers (subst (RunShows a f.schedule) same p.shows) in
    let equal : order_of_schedules f.schedule g.schedule ≡ Equal = not_both (order_of_schedules f.schedule g.schedule) forth (sym (ap is_gt (schedules_total.antisymm g.schedule f.schedule)) ∙ back) in
    let at : f.schedule ≡ g.schedule = same_schedule f.schedule g.schedule equal in
    λ i. record { identity = same i; schedule = at i }

Among : List Finding → List Finding → Type 0
Among fs gs = (f : Finding) → IsAmong f fs → IsAmong f gs

leads_among : (f g : Finding) (gs : List Finding) → LeadsAll f gs → IsAmong g gs → order_of_identities f.identity g.identity ≡ Less
leads_among f g [] leads there = absurd there
leads_among f g (h ∷ gs) leads (inl is) = ap (λ k. order_of_identities f.identity k.identity) (sym is) ∙ leads.0
leads_among f g (h ∷ gs) leads (inr there) = leads_among f g gs leads.1 there

never_less : (i : Identity) → order_of_identities i i ≡ Less → ⊥
never_less i less = less_equal (sym less ∙ tied_itself identities_total i)
  where
    less_equal : Less ≡ Equal → ⊥
    less_equal e = absurd cc

turned : (i j : Identity) → order_of_identities i j ≡ Less → order_of_identities j i ≡ Greater
turned i j e = identities_total.antisymm j i ∙ ap ordering_reverse e

never_both : (i j : Identity) → order_of_identities i j ≡ Less → order_of_identities j i ≡ Less → ⊥
never_both i j p q = less_greater (sym q ∙ turned i j p)
  where
    less_greater : Less ≡ Greater → ⊥
    less_greater e = absurd cc

heads_are_one : (f g : Finding) (fs gs : List Finding) → LeadsAll f fs → LeadsAll g gs → IsAmong f (g ∷ gs) → IsAmong g (f ∷ fs) → f ≡ g
heads_are_one f g fs gs p q (inl e) there = sym e
heads_are_one f g fs gs p q (inr s) (inl e) = e
heads_are_one f g fs gs p q (inr s) (inr t) = absurd (never_both f.identity g.identity (leads_among f g fs p t) (leads_among g f gs q s))

tail_among : (f : Finding) (fs gs : List Finding) → LeadsAll f fs → ((g : Finding) → IsAmong g (f ∷ fs) → IsAmong g (f ∷ gs)) → (g : Finding) → IsAmong g fs → IsAmong g gs
tail_among f fs gs leads among g there = elim (among g (inr there)) [
  | inl e ↦ absurd (never_less f.identity (subst (λ k. order_of_identities f.identity k.identity ≡ Less) (sym e) (leads_among f g fs leads there)))
  | inr t ↦ t
]

lists_are_one : (fs gs : List Finding) → AreSorted fs → AreSorted gs → ((f : Finding) → IsAmong f fs → IsAmong f gs) → ((f : Finding) → IsAmong f gs → IsAmong f fs) → fs ≡ gs
lists_are_one [] [] p q to from = refl
lists_are_one [] (g ∷ gs) p q to from = absurd (from g (inl refl))
lists_are_one (f ∷ fs) [] p q to from = absurd (to f (inl refl))
lists_are_one (f ∷ fs) (g ∷ gs) p q to from =
    let e : f ≡ g = heads_are_one f g fs gs p.0 q.0 (to f (inl refl)) (from g (inl refl)) in
    let to' : (h : Finding) → IsAmong h fs → IsAmong h gs = tail_among f fs gs p.0 (λ h there. subst (λ x. IsAmong h (x ∷ gs)) (sym e) (to h there)) in
    let from' : (h : Finding) → IsAmong h gs → IsAmong h fs = tail_among g gs fs q.0 (λ h there. subst (λ x. IsAmong h (x ∷ fs)) e (from h there)) in
    λ i. e i ∷ lists_are_one fs gs p.1 q.1 to' from' i

module _ (test : Identity → Bool) (d : Delivery) (a : Program) (n : ℕ) where
  into : (v w : List (List Step)) → StandForAll d a n v → StandForAll d a n w → (f : Finding) → IsAmong f (found test a v) → IsAmong f (found test a w)
  into v w p q f there =
      let k : IsFound f.identity (found test a w) = (exact_of test d a n w q f.identity).1 ((exact_of test d a n v p f.identity).0 (f, there, refl)) in
      let e : k.0 ≡ f = one_schedule d a n k.0 f (least_of test d a n w q k.0 k.1) (least_of test d a n v p f there) k.2 in
      subst (λ g. IsAmong g (found test a w)) e k.1

  pub same_found : (v w : List (List Step)) → StandForAll d a n v → StandForAll d a n w → found test a v ≡ found test a w
  same_found v w p q = lists_are_one (found test a v) (found test a w) (sorted_found test a v) (sorted_found test a w) (into v w p q) (into w v q p)

pub stand_ins : StandInsFindAll
stand_ins flags d a n visited all =
    λ i. record { errors = same_found (is_error flags) d a n visited (all_schedules d a n) all (all_stand d a n) i; refusals = same_found is_refusal d a n visited (all_schedules d a n) all (all_stand d a n) i }

pub errors_of_all : ErrorsAreOfAll
errors_of_all flags d a n i = exact_of (is_error flags) d a n (all_schedules d a n) (all_stand d a n) i

pub refusals_of_all : RefusalsAreOfAll
refusals_of_all flags d a n i = exact_of is_refusal d a n (all_schedules d a n) (all_stand d a n) i

pub errors_least : ErrorsAreLeast
errors_least flags d a n f there = least_of (is_error flags) d a n (all_schedules d a n) (all_stand d a n) f there

pub refusals_least : RefusalsAreLeast
refusals_least flags d a n f there = least_of is_refusal d a n (all_schedules d a n) (all_stand d a n) f there

pub trees_same : TreesFindTheSame
trees_same flags a n i = (λ f. (errors_of_all flags AnyTime a n i).1 ((errors_exact flags a n i).0 f), λ f. (errors_exact flags a n i).1 ((errors_of_all flags AnyTime a n i).0 f))

pub prompt_among_all : PromptErrorsAreErrors
prompt_among_all flags a n i f =
    let p = (errors_of_all flags AtOnce a n i).0 f in
    (errors_of_all flags AnyTime a n i).1 (p.0, (p.1.0, p.1.1, p.1.3))
