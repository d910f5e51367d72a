-- A schedule that runs is replayed as its run.
use Rattle.std.proofs.Common.{◌≡◌, List, [], ◌∷◌, ◌++◌, Option, Some, None, ap}
use Rattle.term_core.specs.declared.step.Step.{Step}
use Rattle.world_model.specs.Events.{Event, History}
use Rattle.world_model.specs.Requests.{Program}
use Rattle.world_model.specs.Run.{extended, next_event, run_from}
use Rattle.report_explained.specs.Explained.{ExplanationsAreOfRuns, text_of_steps, text_of_waits}
use Rattle.world_replay.specs.Replay.{reached_on, with_next}

reaches_by : (a : Program) (h g : History) (steps : List Step) → ((k : History) → run_from a (Some k) steps ≡ Some g → reached_on a k steps ≡ g) → (o : Option Event) → run_from a (extended h o) steps ≡ Some g → with_next (λ k. reached_on a k steps) h h o ≡ g
reaches_by a h g steps more None now = absurd cc
reaches_by a h g steps more (Some e) now = more (e ∷ h) now

reaches : (a : Program) (h g : History) (steps : List Step) → run_from a (Some h) steps ≡ Some g → reached_on a h steps ≡ g
reaches a h g [] now = cc
reaches a h g (step ∷ steps) now = reaches_by a h g steps (λ k. reaches a k g steps) (next_event a h step) now

pub explained_runs : ExplanationsAreOfRuns
explained_runs a f h now = ap (λ (k : History). text_of_steps k ++ text_of_waits k f.identity) (reaches a [] h f.schedule now)
