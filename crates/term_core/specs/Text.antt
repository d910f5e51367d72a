-- The texts of pids, steps and schedules, as bytes.
use Rattle.std.specs.Prelude.{ℕ, List, [], ◌∷◌, ◌++◌}
use Rattle.std.specs.List.{flat_map}
use Rattle.std.specs.Fmt.{decimal}
use Rattle.term_core.specs.declared.step.Step.{Step}
use Rattle.term_core.specs.declared.step.Step.TheVariants.{Turn, Deliver}

-- a number after a dot
abbrev pub dotted : ℕ → List ℕ
dotted n = 46 ∷ decimal n

-- `P`, and each number of the pid after a dot
abbrev pub text_of_pid : List ℕ → List ℕ
text_of_pid numbers = 80 ∷ flat_map dotted numbers

-- `from>to`
abbrev pub text_of_delivery : List ℕ → List ℕ → List ℕ
text_of_delivery from to = text_of_pid from ++ 62 ∷ text_of_pid to

-- a turn is the pid, a delivery `from>to`
abbrev pub text_of_step : Step → List ℕ
text_of_step (Turn p) = text_of_pid p
text_of_step (Deliver from to) = text_of_delivery from to

-- a step after a blank
abbrev pub behind_blank : Step → List ℕ
behind_blank s = 32 ∷ text_of_step s

-- the steps with one blank between them
abbrev pub text_of_schedule : List Step → List ℕ
text_of_schedule [] = []
text_of_schedule (s ∷ []) = text_of_step s
text_of_schedule (s ∷ t ∷ steps) = text_of_step s ++ 32 ∷ text_of_schedule (t ∷ steps)
