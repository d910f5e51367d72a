-- Schedules in two parts.
use Rattle.std.proofs.Common.{◌≡◌, ℕ, List, [], ◌∷◌, ◌++◌, take, drop, Option, Some, None, refl, sym, ap, ◌∙◌}
use Rattle.std.proofs.lemmas.List.{take-append-drop}
use Rattle.term_core.specs.declared.step.Step.{Step}
use Rattle.world_model.specs.Events.{History}
use Rattle.world_model.specs.Requests.{Program}
use Rattle.world_model.specs.Run.{next_event, extended, run_from}

pub not_none : {X : Type 0} (o : Option X) (x : X) → o ≡ Some x → o ≡ None → ⊥
not_none None x is none = absurd cc
not_none (Some y) x is none = absurd cc

run_on : (a : Program) (o : Option History) (first second : List Step) → run_from a o (first ++ second) ≡ run_from a (run_from a o first) second
run_on a None first second = refl
run_on a (Some h) [] second = refl
run_on a (Some h) (s ∷ first) second = run_on a (extended h (next_event a h s)) first second

pub run_parts : (a : Program) (o : Option History) (s : List Step) (k : ℕ) → run_from a o s ≡ run_from a (run_from a o (take k s)) (drop k s)
run_parts a o s k = ap (run_from a o) (sym (take-append-drop k s)) ∙ run_on a o (take k s) (drop k s)

-- a schedule does not run where a part of it does not run
pub stopped : (a : Program) (o : Option History) (s : List Step) (k : ℕ) → run_from a o (take k s) ≡ None → run_from a o s ≡ None
stopped a o s k none = run_parts a o s k ∙ ap (λ p. run_from a p (drop k s)) none
