-- The schedules that a text can write, and the first bad step of a text that writes no schedule.
use Rattle.std.specs.Prelude.{◌≡◌, ℕ, ◌≤◌, ◌<◌, ◌^◌, ◌==◌, List, [], ◌∷◌, ◌++◌, length}
use Rattle.std.specs.List.{flat_map, before_first, AllByRecursion}
use Rattle.term_core.specs.Text.{text_of_step}
use Rattle.term_core.specs.declared.step.Step.{Step}
use Rattle.term_core.specs.declared.step.Step.TheVariants.{Turn, Deliver}

-- a number as the text of a schedule may have it: from 1 to 18446744073709551615
abbrev pub IsLawfulNumber : ℕ → Type 0
IsLawfulNumber n = (1 ≤ n) × (n < 2 ^ 64)

-- each number of the pid is one
abbrev pub IsLawfulPid : List ℕ → Type 0
IsLawfulPid numbers = AllByRecursion IsLawfulNumber numbers

-- each pid of the step is one
abbrev pub IsLawfulStep : Step → Type 0
IsLawfulStep (Turn pid) = IsLawfulPid pid
IsLawfulStep (Deliver from to) = IsLawfulPid from × IsLawfulPid to

-- each step is one
abbrev pub AreLawful : List Step → Type 0
AreLawful steps = AllByRecursion IsLawfulStep steps

-- the texts of the steps, each with a blank after it
abbrev pub steps_and_blanks : List Step → List ℕ
steps_and_blanks steps = flat_map (λ step. text_of_step step ++ 32 ∷ []) steps

-- the bytes up to the next blank, or to the end
abbrev pub first_word : List ℕ → List ℕ
first_word bytes = before_first (λ byte. byte == 32) bytes

-- lawful steps, each followed by a blank, come before place `at` of the text, which is not empty, and the word there is the text of no lawful step
pub record IsFirstBadStep (text : List ℕ) (at : ℕ) : Type 0 where
  pub before : List Step
  pub rest : List ℕ
  pub not_empty : 0 < length text
  pub lawful : AreLawful before
  pub parts : text ≡ steps_and_blanks before ++ rest
  pub place : length (steps_and_blanks before) ≡ at
  pub bad : (step : Step) → IsLawfulStep step → first_word rest ≡ text_of_step step → ⊥
