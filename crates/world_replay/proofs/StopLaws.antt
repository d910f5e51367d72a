-- Where a replay stops, and what runs before.
use Rattle.std.proofs.Common.{◌≡◌, ℕ, ◌+◌, List, [], ◌∷◌, take, Option, Some, None, refl, sym, ap, ◌∙◌, add-one, arith}
use Rattle.world_model.specs.Requests.{Program}
use Rattle.term_core.specs.declared.step.Step.{Step}
use Rattle.world_model.specs.Events.{Event, History}
use Rattle.world_model.specs.Run.{next_event, extended, run_from}
use Rattle.world_replay.specs.Replay.{with_next, reached_on, stop_on, StopsAt}

whole_by : (a : Program) (h : History) (number : ℕ) (steps : List Step)
    → ((g : History) → stop_on a g (number + 1) steps ≡ None → run_from a (Some g) steps ≡ Some (reached_on a g steps))
    → (o : Option Event) → with_next (λ g. stop_on a g (number + 1) steps) (Some number) h o ≡ None
    → run_from a (extended h o) steps ≡ Some (with_next (λ g. reached_on a g steps) h h o)
whole_by a h number steps rest None e = cc
whole_by a h number steps rest (Some event) e = rest (event ∷ h) e

-- where nothing stops it, all of it runs
pub whole_on : (a : Program) (h : History) (number : ℕ) (steps : List Step) → stop_on a h number steps ≡ None → run_from a (Some h) steps ≡ Some (reached_on a h steps)
whole_on a h number [] e = refl
whole_on a h number (step ∷ steps) e = whole_by a h number steps (λ g. whole_on a g (number + 1) steps) (next_event a h step) e

-- from a history on: so many steps run, and one more does not
pub record Halts (a : Program) (h : History) (number place : ℕ) (steps : List Step) : Type 0 where
  pub before : ℕ
  pub counted : place ≡ number + before
  pub runs : run_from a (Some h) (take before steps) ≡ Some (reached_on a h steps)
  pub ends : run_from a (Some h) (take (before + 1) steps) ≡ None

taken : (n : ℕ) (step : Step) (steps : List Step) → take (n + 1) (step ∷ steps) ≡ step ∷ take n steps
taken n step steps = rw add-one refl

part_by : (a : Program) (h : History) (number place : ℕ) (step : Step) (steps : List Step)
    → ((g : History) → stop_on a g (number + 1) steps ≡ Some place → Halts a g (number + 1) place steps)
    → (o : Option Event) → next_event a h step ≡ o → with_next (λ g. stop_on a g (number + 1) steps) (Some number) h o ≡ Some place
    → Halts a h number place (step ∷ steps)
part_by a h number place step steps rest None next e = record {
  before = 0;
  counted = let same : number ≡ place = cc in omega (arith, same);
  runs = sym (ap (λ o. Some (with_next (λ g. reached_on a g steps) h h o)) next);
  ends = ap (λ o. run_from a (extended h o) []) next;
}
part_by a h number place step steps rest (Some event) next e =
    let later = rest (event ∷ h) e in
    record {
      before = later.before + 1;
      counted = omega (arith, later.counted);
      runs =
          ap (run_from a (Some h)) (taken later.before step steps)
          ∙ ap (λ o. run_from a (extended h o) (take later.before steps)) next
          ∙ later.runs
          ∙ sym (ap (λ o. Some (with_next (λ g. reached_on a g steps) h h o)) next);
      ends =
          ap (run_from a (Some h)) (taken (later.before + 1) step steps)
          ∙ ap (λ o. run_from a (extended h o) (take (later.before + 1) steps)) next
          ∙ later.ends;
    }

-- where something stops it
pub part_on : (a : Program) (h : History) (number place : ℕ) (steps : List Step) → stop_on a h number steps ≡ Some place → Halts a h number place steps
part_on a h number place [] e = cc
part_on a h number place (step ∷ steps) e = part_by a h number place step steps (λ g. part_on a g (number + 1) place steps) (next_event a h step) refl e

pub stops_at : (a : Program) (steps : List Step) (place : ℕ) → stop_on a [] 1 steps ≡ Some place → StopsAt a steps place (reached_on a [] steps)
stops_at a steps place e =
    let halts = part_on a [] 1 place steps e in
    record { before = halts.before; counted = omega (arith, halts.counted); runs = halts.runs; ends = halts.ends }
