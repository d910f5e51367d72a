-- A machine as callers see it: where it is, and what it asks after further answers.
use Rattle.std.specs.Prelude.{◌≡◌, ℕ, Bool, false, List, [], refl}
use Rattle.std.specs.Coded.{Coded, code_by, coded×, coded_list, coded_ℕ, coded_bool}
use Rattle.core_tree.specs.Syntax.{ModuleTree}
use Rattle.core_tree.specs.inside.SyntaxCodes.{coded_module}
use Rattle.core_pure_calls.specs.Dictionary.{Dictionary}
use Rattle.core_pure_calls.specs.Entries.{coded_dictionary}
use Rattle.core_semantics.specs.Applications.{setting_of}
use Rattle.core_semantics.specs.Asked.{Asked, Answered}
use Rattle.core_eval.specs.Told.{Told}
use Rattle.core_stack.specs.Holes.{Hole}
use Rattle.core_eval.specs.Filled.{standing}
use Rattle.core_stack.specs.inside.HoleCodes.{coded_hole}
use Rattle.core_eval.specs.inside.ToldCodes.{coded_told}

-- the module and the pid of the process, what is still to do, its dictionary, the request that is not answered yet, and whether memory ran out once
pub record Standing : Type 0 where
  pub program : ModuleTree
  pub own : List ℕ
  pub holes : List Hole
  pub dictionary : Dictionary
  pub told : Told
  pub spent : Bool

abbrev pub coded_standing : Coded Standing
coded_standing = code_by ((ModuleTree × List ℕ) × (List Hole × (Dictionary × (Told × Bool))))
    (coded× (coded× coded_module (coded_list coded_ℕ)) (coded× (coded_list coded_hole) (coded× coded_dictionary (coded× coded_told coded_bool))))
    (λ m. ((m.program, m.own), (m.holes, (m.dictionary, (m.told, m.spent))))) (λ p. record { program = p.0.0; own = p.0.1; holes = p.1.0; dictionary = p.1.1.0; told = p.1.1.1.0; spent = p.1.1.1.1 }) (λ _. refl)

-- what a machine asks after these further answers
abbrev pub after : Standing → List Answered → Asked
after m answers = standing (setting_of m.program m.own) m.holes m.dictionary m.told answers

-- the request that a machine waits at
abbrev pub stands_at : Standing → Asked
stands_at m = after m []

-- whether a machine ran out of memory once, and answers nothing more
abbrev pub is_spent : Standing → Bool
is_spent m = m.spent

-- a machine that is not spent asks what this says after all further answers
pub record StandsAt (m : Standing) (future : List Answered → Asked) : Type 0 where
  pub lives : is_spent m ≡ false
  pub asks : (answers : List Answered) → after m answers ≡ future answers

-- a machine of the same module as another asks the same after all further answers, and neither is spent
pub record AreOne (m n : Standing) : Type 0 where
  pub one_lives : is_spent m ≡ false
  pub other_lives : is_spent n ≡ false
  pub asks : (answers : List Answered) → after m answers ≡ after n answers

-- the module of a machine
abbrev pub module_in : Standing → ModuleTree
module_in m = m.program
