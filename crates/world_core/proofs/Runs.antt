-- Schedules step by step.
use Rattle.std.proofs.Common.{◌≡◌, ◌∷◌, ◌++◌, ◌∙◌, ◌+◌, ◌<◌, ◌≤◌, [], ℕ, List, Option, Some, None, refl, sym, ap, subst, take, length, get_or, false, true, arith}
use Rattle.std.proofs.lemmas.List.{take_more}
use Rattle.term_core.specs.declared.step.Step.{Step}
use Rattle.world_model.specs.Events.{History}
use Rattle.world_model.specs.Requests.{Program}
use Rattle.world_model.specs.Run.{extended, next_event, run_from}
use Rattle.world_core.specs.Advanced.{RunsTo, IsStopped}
use Rattle.world_core.specs.Seen.{Seen, program_in}
use Rattle.world_model.specs.Asking.{program_of}
use Rattle.world_core.specs.declared.fault.WorldFault.{WorldFault}
use Rattle.world_core.specs.declared.fault.WorldFault.TheVariants.{NotEnabled, Memory}

-- a schedule in two parts
pub run_append : (a : Program) (o : Option History) (steps more : List Step) → run_from a o (steps ++ more) ≡ run_from a (run_from a o steps) more
run_append a None [] [] = refl
run_append a None [] (step ∷ more) = refl
run_append a None (step ∷ steps) more = sym (run_none a more)
  where
    run_none : (a : Program) (more : List Step) → run_from a None more ≡ None
    run_none a more = refl
run_append a (Some h) [] more = refl
run_append a (Some h) (step ∷ steps) more = run_append a (extended h (next_event a h step)) steps more

-- one step more
pub run_more : (a : Program) (h g : History) (steps : List Step) (i : ℕ) (step : Step) → i < length steps → get_or steps i step ≡ step → run_from a (Some h) (take i steps) ≡ Some g → run_from a (Some h) (take (i + 1) steps) ≡ extended g (next_event a g step)
run_more a h g steps i step within at so_far =
    ap (run_from a (Some h)) (take_more steps i step within ∙ ap (λ (s : Step). take i steps ++ s ∷ []) at)
    ∙ run_append a (Some h) (take i steps) (step ∷ [])
    ∙ ap (λ o. run_from a o (step ∷ [])) so_far
    ∙ run_one a (extended g (next_event a g step))
  where
    run_one : (a : Program) (o : Option History) → run_from a o [] ≡ o
    run_one a None = refl
    run_one a (Some h) = refl

-- a world that took so many steps takes the next one
pub goes_on : (old mid new : Seen) (steps : List Step) (i : ℕ) (step : Step) → i < length steps → get_or steps i step ≡ step → RunsTo (program_in old) old.history (take i steps) mid.history → mid.program ≡ old.program
    → extended mid.history (next_event (program_in mid) mid.history step) ≡ Some new.history → RunsTo (program_in old) old.history (take (i + 1) steps) new.history
goes_on old mid new steps i step within at runs same grown =
    run_more (program_in old) old.history mid.history steps i step within at runs ∙ ap (λ m. extended mid.history (next_event (program_of m) mid.history step)) (sym same) ∙ grown

-- or stops there
pub stopped : (old mid new : Seen) (steps : List Step) (i : ℕ) (step : Step) (fault : WorldFault) → i < length steps → get_or steps i step ≡ step → RunsTo (program_in old) old.history (take i steps) mid.history → mid.program ≡ old.program → mid.spent ≡ false
    → (fault ≡ NotEnabled → next_event (program_in mid) mid.history step ≡ None) → (fault ≡ NotEnabled → new ≡ mid) → (fault ≡ Memory → new.spent ≡ true) → new.history ≡ mid.history → IsStopped old steps (i + 1) fault new
stopped old mid new steps i step NotEnabled within at runs same sound none kept spent stays = (
  record {
    before = i;
    counted = refl;
    runs = runs ∙ ap (λ (w : Seen). Some w.history) (sym (kept refl));
    ends = run_more (program_in old) old.history mid.history steps i step within at runs ∙ ap (λ m. extended mid.history (next_event (program_of m) mid.history step)) (sym same) ∙ ap (extended mid.history) (none refl);
  },
  ap (λ (w : Seen). w.spent) (kept refl) ∙ sound,
)
stopped old mid new steps i step Memory within at runs same sound none kept spent stays = (record { before = i; counted = refl; within = λ _. omega (arith, within); runs = runs ∙ ap (λ (h : History). Some h) (sym stays) }, spent refl)
