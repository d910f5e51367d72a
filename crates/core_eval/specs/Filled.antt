-- What a stack of what is still to do gives: each item says what the whole gives once the part that it leaves out is there.
use Rattle.std.specs.Prelude.{Bool, false, List, [], ◌∷◌, ◌++◌, length, Option, Some, None}
use Rattle.core_tree.specs.Syntax.{trees_of, clauses_of}
use Rattle.term_core.specs.Meaning.{Meaning, Tuple as TupleOf, Nil, meanings_of}
use Rattle.term_core.specs.Term.{list_onto}
use Rattle.core_stack.specs.Holes.{Hole, Parts, Tail, Body, Second, Clauses, Guard, Receive, Try, Catch, Kept, Applied, Wait, scope, receive_on}
use Rattle.core_stack.specs.Matching.{Environment, bound}
use Rattle.core_pure_calls.specs.Dictionary.{Dictionary}
use Rattle.core_stack.specs.Purposes.{Purpose}
use Rattle.core_stack.specs.Purposes as purposes
use Rattle.core_semantics.specs.Asked.{Asked, Answered}
use Rattle.core_semantics.specs.Asked as asked
use Rattle.core_eval.specs.Told.{Told}
use Rattle.core_eval.specs.Told as told
use Rattle.core_semantics.specs.Evaluation.{State, before, Outcome, Yields, Stops, Setting, then_do, handled, one, limited, called, caught, caught_values, called_with, within, guarded, waits_with, timed, evaluate, evaluate_all, choose, receive}
use Rattle.core_semantics.specs.Ask.{request_of}

-- what the values become
abbrev pub finish : Setting → Purpose → Environment → List Meaning → State → Outcome
finish setting purposes.Tuple env vs s = limited (TupleOf (meanings_of vs)) s
finish setting purposes.List env vs s = limited (list_onto vs Nil) s
finish setting (purposes.Onto t) env vs s = then_do (evaluate setting t env s) (one (λ v s'. limited (list_onto vs v) s'))
finish setting (purposes.Call callee) env vs s = called_with setting callee vs s
finish setting purposes.Values env vs s = Yields vs s

-- what an expression gives where the part that was left out gives this
abbrev pub filled : Setting → Hole → Environment → Outcome → Outcome
filled setting (Parts purpose done later) env got = then_do (then_do got (one (λ v s. evaluate_all setting (trees_of later) env (done ++ v ∷ []) s))) (λ vs s. finish setting purpose env vs s)
filled setting (Tail items) env got = then_do got (one (λ v s. limited (list_onto items v) s))
filled setting (Body variables body) env got = then_do got (λ vs s. within (bound variables vs []) env (λ inner s'. evaluate setting body inner s') s)
filled setting (Second second) env got = then_do got (one (λ v s. evaluate setting second env s))
filled setting (Clauses clauses) env got = then_do got (λ vs s. choose setting (clauses_of clauses) vs env s)
filled setting (Guard bindings body others values) env got = guarded got (λ s. evaluate setting body (bindings ++ env) s) (λ s. choose setting (clauses_of others) values env s)
filled setting (Receive clauses action) env got = then_do got (one (λ v s. timed (waits_with v) (λ waits s'. receive setting waits (clauses_of clauses) action env s') s))
filled setting (Try variables body caught handler) env got =
    handled got
    (λ vs s. within (bound variables vs []) env (λ inner s'. evaluate setting body inner s') s)
    (λ class reason s. within (bound caught (caught_values (length caught) class reason) []) env (λ inner s'. evaluate setting handler inner s') s)
filled setting Catch env got = handled got Yields caught
filled setting (Kept bindings) env got = got
filled setting (Applied bindings) env got = got

-- what the outermost expression gives where the innermost part gives this
abbrev pub through : Setting → List Hole → Outcome → Outcome
through setting [] got = got
through setting (hole ∷ holes) got = through setting holes (filled setting hole (scope holes) got)

-- what the outermost expression gives where this receive waits; without one no message is ever taken
abbrev pub waiting : Setting → Option Wait → Bool → State → Outcome
waiting setting None waits s = Stops (asked.Receive waits (λ m. false))
waiting setting (Some w) waits s = through setting w.below (receive setting waits (clauses_of w.clauses) w.action (scope w.below) s)

-- what a stack that waits at a request, with this dictionary, asks after these answers; an end and a runaway are final
abbrev pub standing : Setting → List Hole → Dictionary → Told → List Answered → Asked
standing setting holes d (told.Call kind arguments) answers = request_of (through setting holes (called kind arguments (before d answers)))
standing setting holes d (told.Receive waits) answers = request_of (waiting setting (receive_on holes) waits (before d answers))
standing setting holes d (told.End reason) answers = asked.End reason
standing setting holes d told.Runaway answers = asked.Runaway
