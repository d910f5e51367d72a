-- Applications in a run, one by one, up to as many as the module allows.
use Rattle.std.proofs.Common.{◌≡◌, ◌∙◌, ℕ, ◌<◌, ◌≤◌, Bool, List, ap, sym, if◌then◌else◌, IfOk, Result, Ok, Err}
use Rattle.std.specs.declared.alloc.AllocError.{AllocError}
use Rattle.std.proofs.lemmas.Bool.{lt-ltb, le-ltb}
use Rattle.core_tree.specs.Syntax.{Function, ModuleTree}
use Rattle.term_core.specs.Meaning.{Meaning}
use Rattle.core_pure_calls.specs.Dictionary.{Dictionary}
use Rattle.core_eval.specs.declared.control.Control.{Control}
use Rattle.core_eval.specs.declared.control.Halt.{Halt}
use Rattle.core_eval.specs.declared.request.Request.{Request}
use Rattle.core_eval.specs.Requests.{told_by}
use Rattle.core_semantics.specs.Asked.{Asked, Answered, Runaway}
use Rattle.core_semantics.specs.Ask.{request_of}
use Rattle.core_semantics.specs.Evaluation.{Setting, State, Stops, before}
use Rattle.core_semantics.specs.Applications.{definition, body_with, allowed, counted, apply_of, setting_of}
use Rattle.core_stack.specs.Holes.{Hole}
use Rattle.core_eval.specs.Filled.{standing, through}
use Rattle.core_eval.specs.inside.Steps.{AsksNext, going, halted, Begins}
use Rattle.core_semantics.proofs.ApplyLaw.{apply_law}
use Rattle.core_eval.proofs.Stops.{through-stops}

module _ (m : ModuleTree) (own : List ℕ) (f : Function) (vs : List Meaning) (s : State) where
  -- below that number an application gives what the body of its function gives
  pub applies : s.made < allowed m → apply_of m own f vs s ≡ body_with (setting_of m own) (definition f m.definitions) vs (counted s)
  applies lt = apply_law m own f vs s ∙ ap (λ (x : Bool). if x then body_with (setting_of m own) (definition f m.definitions) vs (counted s) else Stops Runaway) (lt-ltb s.made (allowed m) lt)

  -- at that number it runs away
  pub runs_away : allowed m ≤ s.made → apply_of m own f vs s ≡ Stops Runaway
  runs_away le = apply_law m own f vs s ∙ ap (λ (x : Bool). if x then body_with (setting_of m own) (definition f m.definitions) vs (counted s) else Stops Runaway) (le-ltb s.made (allowed m) le)

  pub asks_in_body : (old new : List Hole) (next : Control) (asked : Asked) → s.made < allowed m → Begins old new next (definition f m.definitions) vs
      → request_of (through (setting_of m own) old (apply_of m own f vs s)) ≡ asked → request_of (going (setting_of m own) new next (counted s)) ≡ asked
  asks_in_body old new next asked lt begins so_far = ap request_of (begins (setting_of m own) (counted s) ∙ ap (through (setting_of m own) old) (sym (applies lt))) ∙ so_far

  pub asks_to_run_away : (holes : List Hole) (asked : Asked) → allowed m ≤ s.made → request_of (through (setting_of m own) holes (apply_of m own f vs s)) ≡ asked → Runaway ≡ asked
  asks_to_run_away holes asked le so_far = ap request_of (sym (ap (through (setting_of m own) holes) (runs_away le) ∙ through-stops (setting_of m own) holes Runaway)) ∙ so_far

-- what is asked where the evaluation stops is what is asked next
pub halts_at : (r : Result Request AllocError) (m : ModuleTree) (own : List ℕ) (old new : List Hole) (kept keeps : Dictionary) (control : Control) (halt : Halt) (made : ℕ)
    → IfOk r (λ request. (setting : Setting) (holes : List Hole) (s : State) → standing setting holes s.dictionary (told_by request) s.answers ≡ request_of (halted setting holes halt s))
    → ((answers : List Answered) → request_of (halted (setting_of m own) new halt (record { answers = answers; dictionary = keeps; made = made })) ≡ request_of (going (setting_of m own) old control (before kept answers)))
    → IfOk r (λ request. AsksNext (setting_of m own) old kept control new keeps (told_by request))
halts_at (Ok request) m own old new kept keeps control halt made h g = λ answers. h (setting_of m own) new (record { answers = answers; dictionary = keeps; made = made }) ∙ g answers
halts_at (Err error) m own old new kept keeps control halt made h g = tt
