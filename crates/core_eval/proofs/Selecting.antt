-- Guards that are judged apart, and the messages that a request takes.
use Rattle.std.proofs.Common.{◌≡◌, ℕ, Bool, false, List, [], ◌∷◌, ◌++◌, refl, ap, sym, ◌∙◌, IfOk, Result, Ok, Err}
use Rattle.std.specs.Prelude.{Option, Some, None}
use Rattle.std.specs.declared.alloc.AllocError.{AllocError}
use Rattle.std.proofs.lemmas.List.{append-nil}
use Rattle.core_tree.specs.Syntax.{ClauseTree, ModuleTree, Tree, clauses_of}
use Rattle.term_core.specs.Meaning.{Meaning}
use Rattle.core_eval.specs.declared.control.Halt.TheVariants as halts
use Rattle.core_eval.specs.declared.control.Pause.{Pause}
use Rattle.core_eval.specs.declared.control.Pause.TheVariants as pauses
use Rattle.core_semantics.specs.Applications.{setting_of}
use Rattle.core_semantics.specs.Ask.{request_of}
use Rattle.core_semantics.specs.Asked.{Asked, Call, Receive, Runaway}
use Rattle.core_eval.specs.Told.{Told, is_selected}
use Rattle.core_eval.specs.Told as told
use Rattle.core_semantics.specs.Evaluation.{before, Setting, Stops, at_rest, evaluate, holds, keeping, selects}
use Rattle.core_pure_calls.specs.Dictionary.{Dictionary}
use Rattle.core_stack.specs.Holes.{Hole, Wait, receive_on, scope}
use Rattle.core_eval.specs.Filled.{standing, through, waiting}
use Rattle.core_stack.specs.Holes as holes
use Rattle.core_stack.specs.Matching.{Environment}
use Rattle.core_eval.specs.inside.Steps.{gave_true, paused, stands_in}
use Rattle.core_semantics.proofs.Limits.{within_limit}
use Rattle.core_eval.proofs.Running.{runs_away}
use Rattle.core_eval.proofs.Stops.{through-stops}

-- a guard that stops does not hold
stopped : (setting : Setting) (stack : List Hole) (request : Asked) → holds (through setting stack (Stops request)) ≡ false
stopped setting stack request = ap holds (through-stops setting stack request)

waits_apart : (setting : Setting) (o : Option Wait) (d : Dictionary) (waits : Bool) → holds (waiting setting o waits (keeping d at_rest)) ≡ false
waits_apart setting None d waits = refl
waits_apart setting (Some w) d waits = stopped setting w.below (Receive waits (λ m. selects setting (clauses_of w.clauses) (scope w.below) m))

-- a guard that is judged apart can neither ask nor apply
pub judged_apart : (m : ModuleTree) (own : List ℕ) (stack : List Hole) (d : Dictionary) (pause : Pause) → holds (paused (setting_of m own) stack pause (keeping d at_rest)) ≡ gave_true pause
judged_apart m own stack d (pauses.Halt (halts.Values values)) = refl
judged_apart m own stack d (pauses.Halt (halts.Raise class reason)) = refl
judged_apart m own stack d (pauses.Halt (halts.Ask kind arguments)) = stopped (setting_of m own) stack (Call kind arguments)
judged_apart m own stack d (pauses.Halt (halts.Wait waits)) = waits_apart (setting_of m own) (receive_on stack) d waits
judged_apart m own stack d (pauses.Application function arguments) =
    ap (λ got. holds (through (setting_of m own) stack got)) (runs_away m own function.now arguments (keeping d at_rest) (within_limit m)) ∙ stopped (setting_of m own) stack Runaway

-- its variables hide only those further out
pub apart : (setting : Setting) (empty outer both : List Hole) (guard : Tree) (bindings variables env : Environment) → empty ≡ [] → outer ≡ holes.Kept variables ∷ empty → both ≡ holes.Kept bindings ∷ outer → variables ≡ env
    → through setting both (evaluate setting guard (scope both) at_rest) ≡ evaluate setting guard (bindings ++ env) at_rest
apart setting empty outer both guard bindings variables env none one two same =
    let whole : both ≡ holes.Kept bindings ∷ holes.Kept variables ∷ [] = two ∙ ap (λ (hs : List Hole). holes.Kept bindings ∷ hs) (one ∙ ap (λ (hs : List Hole). holes.Kept variables ∷ hs) none) in
    ap (λ (hs : List Hole). through setting hs (evaluate setting guard (scope hs) at_rest)) whole
    ∙ ap (λ (env' : Environment). evaluate setting guard (bindings ++ env') at_rest) (append-nil variables ∙ same)

-- ---- the messages that a request takes

-- whether these clauses take a message, if there are any
abbrev pub taken_by : Setting → Environment → Option (List ClauseTree) → Meaning → Bool
taken_by setting env None message = false
taken_by setting env (Some clauses) message = selects setting (clauses_of clauses) env message

takes_waiting : (setting : Setting) (stack : List Hole) (d : Dictionary) (waits : Bool) (message : Meaning) → is_selected (request_of (waiting setting (receive_on stack) waits (before d []))) message ≡ taken_by setting (scope stack) (stands_in stack (told.Receive waits)) message
takes_waiting setting [] d waits message = refl
takes_waiting setting (holes.Receive clauses action ∷ below) d waits message = ap (λ got. is_selected (request_of got) message) (through-stops setting below (Receive waits (λ m. selects setting (clauses_of clauses) (scope below) m)))
takes_waiting setting (holes.Parts purpose done later ∷ below) d waits message = refl
takes_waiting setting (holes.Tail items ∷ below) d waits message = refl
takes_waiting setting (holes.Body variables body ∷ below) d waits message = refl
takes_waiting setting (holes.Second second ∷ below) d waits message = refl
takes_waiting setting (holes.Clauses clauses ∷ below) d waits message = refl
takes_waiting setting (holes.Guard bindings body others values ∷ below) d waits message = refl
takes_waiting setting (holes.Try variables body caught handler ∷ below) d waits message = refl
takes_waiting setting (holes.Catch ∷ below) d waits message = refl
takes_waiting setting (holes.Kept bindings ∷ below) d waits message = refl
takes_waiting setting (holes.Applied bindings ∷ below) d waits message = refl

pub takes : (setting : Setting) (stack : List Hole) (d : Dictionary) (request : Told) (message : Meaning) → is_selected (standing setting stack d request []) message ≡ taken_by setting (scope stack) (stands_in stack request) message
takes setting stack d (told.Receive waits) message = takes_waiting setting stack d waits message
takes setting stack d (told.Call kind arguments) message = ap (λ got. is_selected (request_of got) message) (through-stops setting stack (Call kind arguments))
takes setting stack d (told.End reason) message = refl
takes setting stack d told.Runaway message = refl

-- what a machine at this place answers
pub takes_as : (setting : Setting) (stack : List Hole) (d : Dictionary) (request : Told) (message : Meaning) (o : Option (List ClauseTree)) → o ≡ stands_in stack request → taken_by setting (scope stack) o message ≡ is_selected (standing setting stack d request []) message
takes_as setting stack d request message o e = ap (λ p. taken_by setting (scope stack) p message) e ∙ sym (takes setting stack d request message)

pub answers_as : (r : Result Bool AllocError) (m : ModuleTree) (own : List ℕ) (stack : List Hole) (d : Dictionary) (request : Told) (message : Meaning) (clauses : List ClauseTree) → Some clauses ≡ stands_in stack request
    → IfOk r (λ found. (n : ModuleTree) → found ≡ selects (setting_of n own) (clauses_of clauses) (scope stack) message)
    → IfOk r (λ found. found ≡ is_selected (standing (setting_of m own) stack d request []) message)
answers_as (Ok found) m own stack d request message clauses e h = h m ∙ takes_as (setting_of m own) stack d request message (Some clauses) e
answers_as (Err error) m own stack d request message clauses e h = tt
