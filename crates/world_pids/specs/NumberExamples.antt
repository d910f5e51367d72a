-- The numbers of pids after a schedule of a small module, as computed from the definitions.
use Rattle.std.specs.Prelude.{◌≡◌, [], ◌∷◌, Some, true, option_map}
use Rattle.term_core.specs.declared.step.Step.TheVariants.{Turn}
use Rattle.world_model.specs.Asking.{program_of}
use Rattle.world_model.specs.ExampleRuns.{P, P_2}
use Rattle.world_model.specs.ProcessExamples.{linked_kill}
use Rattle.world_model.specs.Run.{run}
use Rattle.world_model.specs.World.{alive}
use Rattle.world_pids.specs.Numbers.{IsNumbered}

-- the child that a process spawns in the second of two turns lives, and has the number 2
abbrev pub SecondLives : Type 0
SecondLives = option_map (λ h. alive h P_2) (run (program_of linked_kill) (Turn P ∷ Turn P ∷ [])) ≡ Some true

abbrev pub SecondIsReached : Type 0
SecondIsReached = IsNumbered 2 P_2

-- so no smaller number would do
abbrev pub FirstIsTooSmall : Type 0
FirstIsTooSmall = IsNumbered 1 P_2 → ⊥
