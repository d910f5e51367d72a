-- The steps of the code: what it has on top of its stack means something as a whole, and the work that is left grows less.
use Rattle.std.specs.Prelude.{ℕ, ◌+◌, ◌*◌, ◌<◌, ◌≤◌, ◌≡◌, List, [], ◌∷◌, ◌++◌, Bool, true, false, not, ◌&&◌, Option, Some, None, option_map}
use Rattle.core_tree.specs.Syntax.{Mention, Tree, ClauseTree, clauses_of, patterns_of, trees_of}
use Rattle.core_tree.specs.inside.Sizes.{size_of, size_of_list, size_of_clause_list}
use Rattle.core_tree.specs.Tree.{tree_of}
use Rattle.term_core.specs.Meaning.{Meaning}
use Rattle.term_core.specs.Term.{meaning_of}
use Rattle.core_eval.specs.declared.control.Control.{Control}
use Rattle.core_eval.specs.declared.control.Control.TheVariants.{Evaluate, Return, Values, Raise, Answer, Ask, Wait, Apply}
use Rattle.core_eval.specs.declared.control.Halt.{Halt}
use Rattle.core_eval.specs.declared.control.Halt.TheVariants as halts
use Rattle.core_eval.specs.declared.control.Pause.{Pause}
use Rattle.core_eval.specs.declared.control.Pause.TheVariants as pauses
use Rattle.core_stack.specs.Matching.{Environment, bound, match_each}
use Rattle.core_semantics.specs.Evaluation.{State, before, Outcome, Yields, Raises, Setting, then_do, called, by_itself, choose, guarded, is_true, keeping, within, evaluate, evaluate_all, receive, timed, waits_with, at_rest, is_taken}
use Rattle.core_pure_calls.specs.Dictionary.{Dictionary}
use Rattle.core_semantics.specs.Applications.{body_with}
use Rattle.core_semantics.specs.Ask.{request_of}
use Rattle.core_semantics.specs.Asked.{Answered}
use Rattle.core_eval.specs.Told.{Told}
use Rattle.core_eval.specs.Told as told
use Rattle.core_stack.specs.Holes.{Purpose, Hole, only_keeps, scope, receive_on, waits_on, keeps_on_top}
use Rattle.core_eval.specs.Filled.{finish, through, waiting, standing}
use Rattle.core_stack.specs.Purposes as purposes
use Rattle.core_stack.specs.Holes as holes

-- what the outermost expression gives where this is on top of a stack
abbrev pub going : Setting → List Hole → Control → State → Outcome
going setting holes (Evaluate expression) s = through setting holes (evaluate setting (tree_of expression.now) (scope holes) s)
going setting holes (Return value) s = through setting holes (Yields (meaning_of value ∷ []) s)
going setting holes (Values values) s = through setting holes (Yields values s)
going setting holes (Raise class reason) s = through setting holes (Raises class (meaning_of reason) s)
going setting holes (Answer kind arguments) s = through setting holes (by_itself setting.own kind arguments s)
going setting holes (Ask kind arguments) s = through setting holes (called kind arguments s)
going setting holes (Wait waits) s = waiting setting (receive_on holes) waits s
going setting holes (Apply function arguments) s = through setting holes (setting.apply function.now arguments s)

-- on top of every stack this means that, which may depend on the setting
abbrev pub MeansIn : Control → (Setting → State → Outcome) → Type 0
MeansIn next got = (setting : Setting) (holes : List Hole) (s : State) → going setting holes next s ≡ through setting holes (got setting s)

-- on top of every stack this means that
abbrev pub Means : Control → (State → Outcome) → Type 0
Means next got = MeansIn next (λ setting s. got s)

-- what the outermost expression gives where the evaluation stops there
abbrev pub halted : Setting → List Hole → Halt → State → Outcome
halted setting holes (halts.Values values) s = Yields values s
halted setting holes (halts.Raise class reason) s = Raises class (meaning_of reason) s
halted setting holes (halts.Ask kind arguments) s = through setting holes (called kind arguments s)
halted setting holes (halts.Wait waits) s = waiting setting (receive_on holes) waits s

-- what it gives where the evaluation stops, or is about to apply a function
abbrev pub paused : Setting → List Hole → Pause → State → Outcome
paused setting holes (pauses.Halt halt) s = halted setting holes halt s
paused setting holes (pauses.Application function arguments) s = through setting holes (setting.apply function.now arguments s)

-- where a stack that goes on like this with a dictionary stops, or is about to apply a function, in a process with this pid
abbrev pub ComesTo : List ℕ → List Hole → Dictionary → Control → List Hole → Dictionary → Pause → Type 0
ComesTo own old kept control new keeps pause = (setting : Setting) → setting.own ≡ own → (s : State) → paused setting new pause (keeping keeps s) ≡ going setting old control (keeping kept s)

-- whether the evaluation gave 'true' and nothing else
abbrev pub gave_true : Pause → Bool
gave_true (pauses.Halt (halts.Values values)) = is_true values
gave_true (pauses.Halt (halts.Raise class reason)) = false
gave_true (pauses.Halt (halts.Ask kind arguments)) = false
gave_true (pauses.Halt (halts.Wait waits)) = false
gave_true (pauses.Application function arguments) = false

-- the clauses of the receive that a stack waits at
abbrev pub stands_in : List Hole → Told → Option (List ClauseTree)
stands_in holes (told.Receive waits) = option_map (λ w. w.0) (waits_on holes)
stands_in holes (told.Call kind arguments) = None
stands_in holes (told.End reason) = None
stands_in holes told.Runaway = None

-- with the answer to a request a stack goes on like this; where the answer does not fit, it stays as it is
abbrev pub Answers : List Hole → List Hole → Told → Answered → Option Control → Type 0
Answers old new request answer None = (new ≡ old) × ((setting : Setting) (d : Dictionary) (later : List Answered) → standing setting old d request (answer ∷ later) ≡ standing setting old d request later)
Answers old new request answer (Some next) = (setting : Setting) (d : Dictionary) (later : List Answered) → standing setting old d request (answer ∷ later) ≡ request_of (going setting new next (before d later))

-- a process that goes on like this with a dictionary asks this next, whatever it is answered later, and its new stack and dictionary wait for the answer
abbrev pub AsksNext : Setting → List Hole → Dictionary → Control → List Hole → Dictionary → Told → Type 0
AsksNext setting old kept control new keeps request = (answers : List Answered) → standing setting new keeps request answers ≡ request_of (going setting old control (before kept answers))

-- whether a message matches a clause whose guard holds
abbrev pub is_selected_by : Setting → Environment → ClauseTree → Meaning → Bool
is_selected_by setting env clause message = is_taken (match_each (patterns_of clause.patterns) (message ∷ []) []) env (λ inner. evaluate setting clause.guard inner at_rest)

-- ---- the work that is left: each step between two applications makes that of what is on top and that of the stack together
-- ---- smaller, so such steps end. A node of an expression counts 4: it is entered, its parts are gathered, what they make is
-- ---- answered, and the result is handed on. An answer to come counts 3, a result 2, and what ends these steps nothing

-- the work that is left in what is on top of a stack
abbrev pub load : Control → ℕ
load (Evaluate expression) = 4 * size_of (tree_of expression.now)
load (Return value) = 2
load (Values values) = 2
load (Raise class reason) = 0
load (Answer kind arguments) = 3
load (Ask kind arguments) = 0
load (Wait waits) = 0
load (Apply function arguments) = 0

-- the work that is left after several expressions
abbrev pub further : Purpose → List Meaning → ℕ
further purposes.Tuple done = 0
further purposes.List done = 0
further (purposes.Onto t) done = 4 * size_of t
further (purposes.Call callee) done = 0
further purposes.Values done = 0

-- the work that is left in a hole
abbrev pub work_in : Hole → ℕ
work_in (holes.Parts purpose done later) = 2 + (4 * size_of_list later + further purpose done)
work_in (holes.Tail items) = 1
work_in (holes.Body variables body) = 1 + 4 * size_of body
work_in (holes.Second second) = 1 + 4 * size_of second
work_in (holes.Clauses clauses) = 1 + 4 * size_of_clause_list clauses
work_in (holes.Guard bindings body others values) = 2 + (4 * size_of body + 4 * size_of_clause_list others)
work_in (holes.Receive clauses action) = 1
work_in (holes.Try variables body caught handler) = 2 + (4 * size_of body + 4 * size_of handler)
work_in holes.Catch = 3
work_in (holes.Kept bindings) = 1
work_in (holes.Applied bindings) = 1

-- the work that is left in a stack
abbrev pub work : List Hole → ℕ
work [] = 0
work (hole ∷ holes) = work_in hole + work holes

-- whether at most the top of a stack only keeps variables
abbrev pub keeps_once : List Hole → Bool
keeps_once [] = true
keeps_once (hole ∷ holes) = not (only_keeps hole && keeps_on_top holes)

-- what is on top of the new stack means this in the old one, and less work is left than this
pub record GoesOn (old new : List Hole) (next : Control) (got : Setting → State → Outcome) (left : ℕ) : Type 0 where
  pub same : (setting : Setting) (s : State) → going setting new next s ≡ through setting old (got setting s)
  pub less : load next + work new < left + work old

-- what is on top of the new stack is the evaluation of an expression in the old one
abbrev pub Enters : List Hole → List Hole → Control → Tree → Type 0
Enters old new next t = GoesOn old new next (λ setting s. evaluate setting t (scope old) s) (4 * size_of t)

-- what is on top of the new stack is a receive with this timeout in the old one, with its clauses and its action
abbrev pub EntersReceive : List Hole → List Hole → Control → Meaning → List ClauseTree → Tree → Type 0
EntersReceive old new next timeout clauses action = GoesOn old new next (λ setting s. timed (waits_with timeout) (λ waits s'. receive setting waits (clauses_of clauses) action (scope old) s') s) 3

-- what several values are for, once those that are left are there
abbrev pub gathered : Setting → Purpose → List Meaning → List Tree → Environment → State → Outcome
gathered setting purpose done later env s = then_do (evaluate_all setting (trees_of later) env done s) (λ vs s'. finish setting purpose env vs s')

-- what is on top of the new stack gathers these values in the old one
abbrev pub GathersOn : List Hole → List Hole → Control → Purpose → List Meaning → List Tree → Type 0
GathersOn old new next purpose done later = GoesOn old new next (λ setting s. gathered setting purpose done later (scope old) s) (4 + (4 * size_of_list later + further purpose done))

-- an expression has this value, and no step is taken for it
abbrev pub IsValueOf : Environment → Tree → Meaning → Type 0
IsValueOf env t m = (setting : Setting) (s : State) → evaluate setting t env s ≡ Yields (m ∷ []) s

-- with more values there already, the expressions that are left gather what all do
pub record Skips (env : Environment) (done : List Meaning) (later : List Tree) (more : List Meaning) (left : List Tree) : Type 0 where
  pub same : (setting : Setting) (purpose : Purpose) (s : State) → gathered setting purpose more left env s ≡ gathered setting purpose done later env s
  pub fewer : size_of_list left ≤ size_of_list later

-- what is on top of the new stack is the evaluation of a body in the old one, with these values bound to variables
abbrev pub EntersWith : List Hole → List Hole → Control → List Mention → List Meaning → Tree → Type 0
EntersWith old new next variables values body = GoesOn old new next (λ setting s. within (bound variables values []) (scope old) (λ env s'. evaluate setting body env s') s) (2 + 4 * size_of body)

-- what is on top of the new stack judges a clause that matched in the old one: its guard, and then its body or the clauses after it
abbrev pub Judges : List Hole → List Hole → Control → Environment → ClauseTree → List ClauseTree → List Meaning → Type 0
Judges old new next bindings clause others values =
    GoesOn old new next
    (λ setting s. guarded (evaluate setting clause.guard (bindings ++ scope old) s) (λ s'. evaluate setting clause.body (bindings ++ scope old) s') (λ s'. choose setting (clauses_of others) values (scope old) s'))
    (3 + (4 * size_of clause.guard + (4 * size_of clause.body + 4 * size_of_clause_list others)))

-- what is on top of the new stack is the body of a function with these arguments in the old one
abbrev pub Begins : List Hole → List Hole → Control → Option (List Mention × Tree) → List Meaning → Type 0
Begins old new next function arguments = (setting : Setting) (s : State) → going setting new next s ≡ through setting old (body_with setting function arguments s)

-- the new stack is equivalent to the old one, and its top frame is not a mere scope
pub record IsBared (old new : List Hole) : Type 0 where
  pub same : (setting : Setting) (got : Outcome) → through setting new got ≡ through setting old got
  pub bare : keeps_on_top new ≡ false
