-- What really happens is the history of its schedule.
use Rattle.std.proofs.Common.{ap, ◌≡◌, List, [], ◌∷◌, ◌++◌, Option, Some, None, refl, sym, ◌∙◌, map, append_assoc, subst}
use Rattle.std.proofs.lemmas.List.{reverse-append}
use Rattle.term_core.specs.declared.step.Step.{Step}
use Rattle.world_model.specs.Events.{Event, History}
use Rattle.world_model.specs.Requests.{Program}
use Rattle.world_model.specs.Run.{next_event, extended, run, run_from, schedule_of, IsRun}
use Rattle.world_model.specs.StepLaws.{IsRunOfSchedule, RunsAreReal}
use Rattle.world_model.specs.Steps.{next_deed}
use Rattle.world_model.specs.World.{contents}
use Rattle.world_model.proofs.Histories.{step_is}

-- a schedule in two parts
run_from-append : (a : Program) (o : Option History) (steps more : List Step) → run_from a o (steps ++ more) ≡ run_from a (run_from a o steps) more
run_from-append a None steps more = refl
run_from-append a (Some h) [] more = refl
run_from-append a (Some h) (step ∷ steps) more = run_from-append a (extended h (next_event a h step)) steps more

schedule_of-next : (h : History) (e : Event) → schedule_of (e ∷ h) ≡ schedule_of h ++ e.step ∷ []
schedule_of-next h e = reverse-append (e.step ∷ []) (map (λ (d : Event). d.step) h)

-- the schedule of what really happened gives it again
pub run_is : IsRunOfSchedule
run_is a [] is = refl
run_is a (e ∷ h) is =
    ap (run a) (schedule_of-next h e) ∙ run_from-append a (Some []) (schedule_of h) (e.step ∷ []) ∙ ap (λ o. run_from a o (e.step ∷ [])) (run_is a h is.1) ∙ ap (λ o. run_from a (extended h o) []) is.0

-- ---- and a run is real

inside_history : History → Option History → History
inside_history h None = h
inside_history h (Some g) = g

some_is : {h g : History} → Some h ≡ Some g → h ≡ g
unfolding inside_history
some_is {h} e = ap (inside_history h) e

nothing_longer : (xs : List Step) → xs ≡ xs ++ []
nothing_longer [] = refl
nothing_longer (x ∷ xs) = ap (λ ys. x ∷ ys) (nothing_longer xs)

step_in : (a : Program) (h : History) (step : Step) (e : Event) → next_event a h step ≡ Some e → step ≡ e.step
step_in a h step e now = step_is step (next_deed a (contents h) step) e now

none_runs : (a : Program) (steps : List Step) (g : History) → run_from a None steps ≡ Some g → ⊥
none_runs a steps g now = absurd cc

-- of the next event of a step
real_next : (a : Program) (step : Step) (steps : List Step) (h g : History) (o : Option Event) → next_event a h step ≡ o → IsRun a h → run_from a (extended h o) steps ≡ Some g → ((e : Event) → IsRun a (e ∷ h) → run_from a (Some (e ∷ h)) steps ≡ Some g → IsRun a g × (schedule_of g ≡ schedule_of (e ∷ h) ++ steps)) → IsRun a g × (schedule_of g ≡ schedule_of h ++ (step ∷ steps))
real_next a step steps h g None is real now rest = absurd (none_runs a steps g now)
real_next a step steps h g (Some e) is real now rest =
    let same = step_in a h step e is in
    let all = rest e (ap (next_event a h) (sym same) ∙ is, real) now in
    (all.0, all.1 ∙ ap (λ xs. xs ++ steps) (schedule_of-next h e) ∙ append_assoc (schedule_of h) (e.step ∷ []) steps ∙ ap (λ s. schedule_of h ++ (s ∷ steps)) (sym same))

real_from : (a : Program) (steps : List Step) (h g : History) → IsRun a h → run_from a (Some h) steps ≡ Some g → IsRun a g × (schedule_of g ≡ schedule_of h ++ steps)
real_from a [] h g real now = (subst (IsRun a) (some_is now) real, ap schedule_of (sym (some_is now)) ∙ nothing_longer (schedule_of h))
real_from a (step ∷ steps) h g real now = real_next a step steps h g (next_event a h step) refl real now (λ e real_e. real_from a steps (e ∷ h) g real_e)

pub runs_real : RunsAreReal
runs_real a steps h now = real_from a steps [] h tt now
