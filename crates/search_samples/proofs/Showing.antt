-- What random schedules show is shown by the schedule beside it.
use Rattle.std.proofs.Common.{◌≡◌, inl, inr, ◌≤◌, ℕ, Bool, true, List, ◌∷◌, [], length, length-append, ap, subst, arith}
use Rattle.std.specs.List.{AllByRecursion}
use Rattle.search_samples.specs.Samples.{AreOfSamples, Begins, BeginsSome, IsShownBeside, IsWhole, SamplesAreShown}
use Rattle.term_core.specs.declared.step.Step.{Step}
use Rattle.tree_coverage.proofs.FindingLaws.{Sound, sound}
use Rattle.tree_coverage.specs.Findings.{Finding, Findings, found}
use Rattle.tree_schedules.proofs.Delivering.{delivers_before}
use Rattle.tree_schedules.specs.Deliveries.{DeliversBy}
use Rattle.tree_schedules.specs.declared.delivery.Delivery.{Delivery}
use Rattle.world_model.specs.Names.{IsAmong}
use Rattle.world_model.specs.Requests.{Program}
use Rattle.world_model.specs.Shown.{Flags, Identity, is_error, is_refusal}

one_of_all : (P : List Step → Type 0) (s : List Step) (all : List (List Step)) → AllByRecursion P all → IsAmong s all → P s
one_of_all P s [] each there = absurd there
one_of_all P s (t ∷ all) each (inl is) = subst P is each.0
one_of_all P s (t ∷ all) each (inr there) = one_of_all P s all each.1 there

whole_short : (d : Delivery) (a : Program) (n : ℕ) (whole : List Step) → IsWhole d a n whole → length whole ≤ n
whole_short d a n whole is = elim is.whole [
  | inl full ↦ omega (arith, full)
  | inr ended ↦ ended.0
]

-- what begins a whole schedule is as short, and delivers signals so
beginning_of : (d : Delivery) (a : Program) (n : ℕ) (whole s : List Step) → IsWhole d a n whole → Begins s whole → (length s ≤ n) × DeliversBy d a s
beginning_of d a n whole s is p =
    let short : length whole ≤ n = whole_short d a n whole is in (
      omega (arith, short, ap length p.1, length-append s p.0),
      delivers_before d a s p.0 (subst (DeliversBy d a) p.1 is.delivers),
    )

module _ (test : Identity → Bool) (flags : Flags) (d : Delivery) (a : Program) (n runs : ℕ) (findings : Findings) (are : AreOfSamples flags d a n runs findings) where
  pub shown_beside : (f : Finding) → IsAmong f (found test a are.visited) → (test f.identity ≡ true) × IsShownBeside d a n f
  shown_beside f there =
      let k : Sound test a are.visited f.identity f.schedule = sound test a are.visited f there in
      let p : BeginsSome are.wholes f.schedule = (are.beginnings f.schedule).0 k.1 in
      let q = beginning_of d a n p.0 f.schedule (one_of_all (IsWhole d a n) p.0 are.wholes are.are_whole p.1) p.2 in
      (k.0, record { short = q.0; delivers = q.1; shows = k.2 })

pub samples_shown : SamplesAreShown
samples_shown flags d a n runs findings are = (
  λ f there. shown_beside (is_error flags) flags d a n runs findings are f (subst (IsAmong f) (ap (λ (g : Findings). g.errors) are.found) there),
  λ f there. shown_beside is_refusal flags d a n runs findings are f (subst (IsAmong f) (ap (λ (g : Findings). g.refusals) are.found) there),
)
