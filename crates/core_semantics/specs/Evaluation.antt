-- Evaluation (Core Erlang 1.0.3, "Expressions"): what an expression gives, from left to right, out of the answers to the calls and receives that it makes and of the process dictionary.
use Rattle.std.specs.Prelude.{Bool, false, ◌||◌, pos, List, [], ◌∷◌, ◌++◌, length}
use Rattle.core_tree.specs.Syntax.{patterns_of, Callee, Tree, Trees, Clauses}
use Rattle.core_tree.specs.Callee as callees
use Rattle.core_tree.specs.Expression as trees
use Rattle.term_core.specs.Meaning.{Meaning, Int, Tuple, Nil, meanings_of}
use Rattle.term_core.specs.Term.{list_onto}
use Rattle.core_pure_calls.specs.declared.outcome.Class.TheVariants.{Error}
use Rattle.core_stack.specs.Matching.{Environment, lookup, bound, text_of, match_each}
pub use Rattle.core_semantics.specs.Outcomes.{State, before, Outcome, Yields, Raises, Stops, Setting, then_do, handled, name, error, one, node_limit, within_limit, limited, limited_error, undefined, limited_answer, by_itself, keeping, served, called}
pub use Rattle.core_semantics.specs.Exceptions.{class_name, trace_of, caught_values, caught, begins_with, match_reason, class_named, class_in, raised_again}
pub use Rattle.core_semantics.specs.Clauses.{value_or_error, within, is_true, guarded, taken, as_one, no_clause}
pub use Rattle.core_semantics.specs.Receiving.{longest_timeout, waits_with, timed, received, at_rest, holds, is_taken}

module _ (setting : Setting) where
  -- what is applied to arguments; a call that was read has as many of them as it takes
  abbrev pub called_with : Callee → List Meaning → State → Outcome
  called_with (callees.World kind) arguments s = called kind arguments s
  called_with (callees.Pure kind) arguments s = by_itself setting.own kind arguments s
  called_with (callees.Exported function) arguments s = setting.apply function arguments s
  called_with (callees.Defined named) arguments s = setting.apply named.function arguments s
  called_with callees.MatchFail (reason ∷ []) s = Raises Error (match_reason reason) s
  called_with callees.Raise (trace ∷ reason ∷ []) s = raised_again (class_in trace) reason s
  called_with callee arguments s = undefined s

  abbrev mutual
    -- what an expression gives; its parts go from left to right
    pub evaluate : Tree → Environment → State → Outcome
    evaluate (trees.Integer n) env s = Yields (Int n ∷ []) s
    evaluate (trees.Character c) env s = Yields (Int (pos c) ∷ []) s
    evaluate (trees.Text cs) env s = limited (text_of cs) s
    evaluate (trees.Atom text) env s = Yields (name text ∷ []) s
    evaluate (trees.Variable v) env s = value_or_error (lookup v.name env) s
    evaluate (trees.Tuple ts) env s = then_do (evaluate_all ts env [] s) (λ vs s'. limited (Tuple (meanings_of vs)) s')
    evaluate (trees.List ts) env s = then_do (evaluate_all ts env [] s) (λ vs s'. limited (list_onto vs Nil) s')
    evaluate (trees.Onto ts t) env s = then_do (evaluate_all ts env [] s) (λ vs s'. then_do (evaluate t env s') (one (λ v s''. limited (list_onto vs v) s'')))
    evaluate (trees.Values ts) env s = evaluate_all ts env [] s
    evaluate (trees.Let variables t body) env s = then_do (evaluate t env s) (λ vs s'. within (bound variables vs []) env (λ inner s''. evaluate body inner s'') s')
    evaluate (trees.Do t u) env s = then_do (evaluate t env s) (one (λ v s'. evaluate u env s'))
    evaluate (trees.Call at callee ts) env s = then_do (evaluate_all ts env [] s) (λ vs s'. called_with callee vs s')
    evaluate (trees.Case at t cs) env s = then_do (evaluate t env s) (λ vs s'. choose cs vs env s')
    evaluate (trees.Receive at cs timeout action) env s =
        then_do (evaluate timeout env s)
        (one (λ v s'. timed (waits_with v) (λ waits s''. received waits (λ m. selects cs env m) (λ m s'''. choose cs (m ∷ []) env s''') (λ s'''. evaluate action env s''') s''.dictionary s''.answers) s'))
    evaluate (trees.Try at t variables body caught_variables handler) env s =
        handled (evaluate t env s)
        (λ vs s'. within (bound variables vs []) env (λ inner s''. evaluate body inner s'') s')
        (λ class reason s'. within (bound caught_variables (caught_values (length caught_variables) class reason) []) env (λ inner s''. evaluate handler inner s'') s')
    evaluate (trees.Catch at t) env s = handled (evaluate t env s) Yields caught

    -- the values of several expressions, each of which has to be one value, after those that are there
    pub evaluate_all : Trees → Environment → List Meaning → State → Outcome
    evaluate_all trees.NoMore env done s = Yields done s
    evaluate_all (trees.Also t ts) env done s = then_do (evaluate t env s) (one (λ v s'. evaluate_all ts env (done ++ v ∷ []) s'))

    -- the first clause that the values match and whose guard holds; a clause with another number of patterns than values does not match
    pub choose : Clauses → List Meaning → Environment → State → Outcome
    choose trees.NoClause values env s = no_clause values s
    choose (trees.Clause patterns guard body others) values env s =
        taken (match_each (patterns_of patterns) values []) env (λ inner s'. guarded (evaluate guard inner s') (λ s''. evaluate body inner s'') (λ s''. choose others values env s'')) (λ s'. choose others values env s') s

    -- whether a receive takes this message: one of its clauses matches it, and the guard of that clause holds
    pub selects : Clauses → Environment → Meaning → Bool
    selects trees.NoClause env m = false
    selects (trees.Clause patterns guard body others) env m = is_taken (match_each (patterns_of patterns) (m ∷ []) []) env (λ inner. evaluate guard inner at_rest) || selects others env m

  -- a receive with its timeout: a message goes on in the first clause that it matches and whose guard holds, as the value of a `case` does, and no message in time in the action
  abbrev pub receive : Bool → Clauses → Tree → Environment → State → Outcome
  receive waits cs action env s = received waits (λ m. selects cs env m) (λ m s'. choose cs (m ∷ []) env s') (λ s'. evaluate action env s') s.dictionary s.answers
