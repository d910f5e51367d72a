-- What passes through a stack unchanged.
use Rattle.std.proofs.Common.{◌≡◌, Bool, List, [], ◌∷◌, refl, ap}
use Rattle.std.specs.Prelude.{Option, Some, None}
use Rattle.core_tree.specs.Syntax.{clauses_of}
use Rattle.core_semantics.specs.Asked.{Asked}
use Rattle.core_semantics.specs.Asked as asked
use Rattle.core_semantics.specs.Ask.{request_of}
use Rattle.core_eval.specs.Told.{Told, Call, Receive, End, Runaway, told}
use Rattle.core_semantics.specs.Evaluation.{State, before, Setting, Stops, selects}
use Rattle.core_pure_calls.specs.Dictionary.{Dictionary}
use Rattle.core_stack.specs.Holes.{Hole, Wait, receive_on, scope}
use Rattle.core_eval.specs.Filled.{waiting, through, standing}
use Rattle.core_stack.specs.Holes as holes

-- nothing goes on after a request that is not answered
pub through-stops : (setting : Setting) (holes : List Hole) (request : Asked) → through setting holes (Stops request) ≡ Stops request
through-stops setting [] request = refl
through-stops setting (holes.Parts purpose done later ∷ holes) request = through-stops setting holes request
through-stops setting (holes.Tail items ∷ holes) request = through-stops setting holes request
through-stops setting (holes.Body variables body ∷ holes) request = through-stops setting holes request
through-stops setting (holes.Second second ∷ holes) request = through-stops setting holes request
through-stops setting (holes.Clauses clauses ∷ holes) request = through-stops setting holes request
through-stops setting (holes.Guard bindings body others values ∷ holes) request = through-stops setting holes request
through-stops setting (holes.Receive clauses action ∷ holes) request = through-stops setting holes request
through-stops setting (holes.Try variables body caught handler ∷ holes) request = through-stops setting holes request
through-stops setting (holes.Catch ∷ holes) request = through-stops setting holes request
through-stops setting (holes.Kept bindings ∷ holes) request = through-stops setting holes request
through-stops setting (holes.Applied bindings ∷ holes) request = through-stops setting holes request

waiting-none : (setting : Setting) (o : Option Wait) (d : Dictionary) (waits : Bool) → told (request_of (waiting setting o waits (before d []))) ≡ Receive waits
waiting-none setting None d waits = refl
waiting-none setting (Some w) d waits = ap (λ got. told (request_of got)) (through-stops setting w.below (asked.Receive waits (λ m. selects setting (clauses_of w.clauses) (scope w.below) m)))

-- with no further answer a machine asks the request that it waits at
pub standing-none : (setting : Setting) (holes : List Hole) (d : Dictionary) (request : Told) → told (standing setting holes d request []) ≡ request
standing-none setting holes d (Call kind arguments) = ap (λ got. told (request_of got)) (through-stops setting holes (asked.Call kind arguments))
standing-none setting holes d (Receive waits) = waiting-none setting (receive_on holes) d waits
standing-none setting holes d (End reason) = refl
standing-none setting holes d Runaway = refl

-- a receive looks at nothing of the state but the answers and the dictionary
pub waiting-anywhere : (setting : Setting) (o : Option Wait) (waits : Bool) (s : State) → waiting setting o waits (before s.dictionary s.answers) ≡ waiting setting o waits s
waiting-anywhere setting None waits s = refl
waiting-anywhere setting (Some w) waits s = refl
