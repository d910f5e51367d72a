-- Where each call of the world in a module has as many arguments as it takes, so has each call that its processes ask.
use Rattle.std.proofs.Common.{◌≡◌, ℕ, zero, suc, ◌+◌, Bool, true, false, List, [], ◌∷◌, ◌++◌, length, subst, arith, if◌then◌else◌}
use Rattle.std.specs.Prelude.{Option, Some, None, nat_le, nat_lt, codes}
use Rattle.core_calls.specs.declared.call.CallKind.{CallKind}
use Rattle.core_calls.specs.Calls.{signature}
use Rattle.core_tree.specs.Functions.{same_function}
use Rattle.core_tree.specs.Servable.{count_of, MayBeCalled, IsServable, AreServable, AreServableClauses, HaveServableBodies, IsServableModule}
use Rattle.core_tree.specs.Syntax.{patterns_of, Mention, Function, Callee, Tree, Trees, Clauses, DefinitionTree, ModuleTree}
use Rattle.core_tree.specs.Callee as callees
use Rattle.core_tree.specs.Expression as trees
use Rattle.term_core.specs.Meaning.{Meaning, Tuple, Nil, meanings_of, node_count}
use Rattle.term_core.specs.Term.{list_onto}
use Rattle.core_pure_calls.specs.declared.outcome.Class.{Class}
use Rattle.core_pure_calls.specs.declared.outcome.Class.TheVariants.{Error, Exit, Throw}
use Rattle.core_pure_calls.specs.Answers.{Answer}
use Rattle.core_pure_calls.specs.Answers as answers
use Rattle.core_pure_calls.specs.Calls.{answer_of, kept_by}
use Rattle.core_pure_calls.specs.Dictionary.{Dictionary}
use Rattle.core_semantics.specs.Asked.{Answered, Value, Raise, Message, TimedOut}
use Rattle.core_stack.specs.Matching.{Environment, lookup, bound, text_of, match_each}
use Rattle.core_semantics.specs.Evaluation.{State, before, name, Outcome, Yields, Raises, Stops, Setting, then_do, handled, one, node_limit, limited, limited_error, served, caught, caught_values, limited_answer, keeping, class_in, raised_again, value_or_error, within, is_true, guarded, taken, as_one, no_clause, waits_with, timed, received, called_with, evaluate, evaluate_all, choose}
use Rattle.core_semantics.specs.Applications.{definition, body_with, allowed, counted, applied, room, apply_of}
use Rattle.core_semantics.specs.Ask.{Entry, first_function, is_open, function_of, request_of, ask}
use Rattle.core_semantics.specs.Servable.{IsReadRequest}

-- an evaluation that stops, stops at a request that is read
abbrev Fine : Outcome → Type 0
Fine (Yields vs s) = Unit {0}
Fine (Raises class reason s) = Unit {0}
Fine (Stops request) = IsReadRequest request

-- the same, and where it yields values there are so many
abbrev Counts : ℕ → Outcome → Type 0
Counts n (Yields vs s) = length vs ≡ n
Counts n (Raises class reason s) = Unit {0}
Counts n (Stops request) = IsReadRequest request

chosen : (b : Bool) (g h : Outcome) → Fine g → Fine h → Fine (if b then g else h)
chosen true g h p q = p
chosen false g h p q = q

-- ---- what goes on after an evaluation

module _ (go : List Meaning → State → Outcome) where
  goes_on : (g : Outcome) → Fine g → ((vs : List Meaning) (s : State) → Fine (go vs s)) → Fine (then_do g go)
  goes_on (Yields vs s) h each = each vs s
  goes_on (Raises class reason s) h each = tt
  goes_on (Stops request) h each = h

  goes_on_with : (n : ℕ) (g : Outcome) → Counts n g → ((vs : List Meaning) (s : State) → length vs ≡ n → Fine (go vs s)) → Fine (then_do g go)
  goes_on_with n (Yields vs s) h each = each vs s h
  goes_on_with n (Raises class reason s) h each = tt
  goes_on_with n (Stops request) h each = h

  goes_on_handled : (catch : Class → Meaning → State → Outcome) (g : Outcome) → Fine g → ((vs : List Meaning) (s : State) → Fine (go vs s)) → ((class : Class) (reason : Meaning) (s : State) → Fine (catch class reason s)) → Fine (handled g go catch)
  goes_on_handled catch (Yields vs s) h each caught = each vs s
  goes_on_handled catch (Raises class reason s) h each caught = caught class reason s
  goes_on_handled catch (Stops request) h each caught = h

counts_on : (n : ℕ) (go : List Meaning → State → Outcome) (g : Outcome) → Fine g → ((vs : List Meaning) (s : State) → Counts n (go vs s)) → Counts n (then_do g go)
counts_on n go (Yields vs s) h each = each vs s
counts_on n go (Raises class reason s) h each = tt
counts_on n go (Stops request) h each = h

fine_of : (n : ℕ) (g : Outcome) → Counts n g → Fine g
fine_of n (Yields vs s) h = tt
fine_of n (Raises class reason s) h = tt
fine_of n (Stops request) h = h

one_fine : (go : Meaning → State → Outcome) → ((v : Meaning) (s : State) → Fine (go v s)) → (vs : List Meaning) (s : State) → Fine (one go vs s)
one_fine go each [] s = tt
one_fine go each (v ∷ []) s = each v s
one_fine go each (v ∷ w ∷ vs) s = tt

one_counts : (n : ℕ) (go : Meaning → State → Outcome) → ((v : Meaning) (s : State) → Counts n (go v s)) → (vs : List Meaning) (s : State) → Counts n (one go vs s)
one_counts n go each [] s = tt
one_counts n go each (v ∷ []) s = each v s
one_counts n go each (v ∷ w ∷ vs) s = tt

within_fine : (o : Option Environment) (env : Environment) (go : Environment → State → Outcome) → ((inner : Environment) (s : State) → Fine (go inner s)) → (s : State) → Fine (within o env go s)
within_fine None env go each s = tt
within_fine (Some bindings) env go each s = each (bindings ++ env) s

taken_fine : (o : Option Environment) (env : Environment) (go : Environment → State → Outcome) (others : State → Outcome) → ((inner : Environment) (s : State) → Fine (go inner s)) → ((s : State) → Fine (others s)) → (s : State) → Fine (taken o env go others s)
taken_fine None env go others each rest s = rest s
taken_fine (Some bindings) env go others each rest s = each (bindings ++ env) s

judged_fine : (g : Outcome) (holds fails : State → Outcome) → Fine g → ((s : State) → Fine (holds s)) → ((s : State) → Fine (fails s)) → Fine (guarded g holds fails)
judged_fine (Yields vs s) holds fails h p q = chosen (is_true vs) (holds s) (fails s) (p s) (q s)
judged_fine (Raises class reason s) holds fails h p q = q s
judged_fine (Stops request) holds fails h p q = h

-- ---- what stops nowhere

limited_fine : (m : Meaning) (s : State) → Fine (limited m s)
limited_fine m s = chosen (nat_le (node_count m) node_limit) _ _ tt tt

limited_error_fine : (m : Meaning) (s : State) → Fine (limited_error m s)
limited_error_fine m s = chosen (nat_le (node_count m) node_limit) _ _ tt tt

no_clause_fine : (vs : List Meaning) (s : State) → Fine (no_clause vs s)
no_clause_fine vs s = limited_error_fine (Tuple (meanings_of (name (codes "case_clause") ∷ as_one vs ∷ []))) s

caught_fine : (class : Class) (reason : Meaning) (s : State) → Fine (caught class reason s)
caught_fine Error reason s = limited_fine (Tuple (meanings_of (name (codes "EXIT") ∷ Tuple (meanings_of (reason ∷ Nil ∷ [])) ∷ []))) s
caught_fine Exit reason s = limited_fine (Tuple (meanings_of (name (codes "EXIT") ∷ reason ∷ []))) s
caught_fine Throw value s = tt

told_fine : (answer : Answer) (s : State) → Fine (limited_answer answer s)
told_fine (answers.Value value) s = limited_fine value s
told_fine (answers.Raised class reason) s = tt

value_fine : (o : Option Meaning) (s : State) → Fine (value_or_error o s)
value_fine None s = tt
value_fine (Some m) s = tt

raised_again_fine : (o : Option Class) (reason : Meaning) (s : State) → Fine (raised_again o reason s)
raised_again_fine None reason s = tt
raised_again_fine (Some class) reason s = tt

-- a call that is read stops at itself, where no answer is left
served_fine : (kind : CallKind) (arguments : List Meaning) → length arguments ≡ (signature kind).arity → (d : Dictionary) (answers : List Answered) → Fine (served kind arguments d answers)
served_fine kind arguments h d [] = h
served_fine kind arguments h d (Value value ∷ later) = tt
served_fine kind arguments h d (Raise reason ∷ later) = tt
served_fine kind arguments h d (Message message ∷ later) = served_fine kind arguments h d later
served_fine kind arguments h d (TimedOut ∷ later) = served_fine kind arguments h d later

timed_fine : (o : Option Bool) (go : Bool → State → Outcome) → ((waits : Bool) (s : State) → Fine (go waits s)) → (s : State) → Fine (timed o go s)
timed_fine None go each s = tt
timed_fine (Some waits) go each s = each waits s

received_fine : (waits : Bool) (takes : Meaning → Bool) (go : Meaning → State → Outcome) (act : State → Outcome) → ((m : Meaning) (s : State) → Fine (go m s)) → ((s : State) → Fine (act s)) → (d : Dictionary) (answers : List Answered) → Fine (received waits takes go act d answers)
received_fine waits takes go act each last d [] = tt
received_fine waits takes go act each last d (Message m ∷ later) = each m (before d later)
received_fine waits takes go act each last d (TimedOut ∷ later) = chosen waits _ _ (received_fine waits takes go act each last d later) (last (before d later))
received_fine waits takes go act each last d (Value value ∷ later) = received_fine waits takes go act each last d later
received_fine waits takes go act each last d (Raise reason ∷ later) = received_fine waits takes go act each last d later

-- the body of a function, if there is one, has only such calls
abbrev HasServableBody : Option (List Mention × Tree) → Type 0
HasServableBody None = Unit {0}
HasServableBody (Some f) = IsServable f.1

-- ---- evaluation, where applications are fine

module _ (own : List ℕ) (apply : Function → List Meaning → State → Outcome) (fine : (f : Function) (vs : List Meaning) (s : State) → Fine (apply f vs s)) where
  abbrev here : Setting
  here = record { own = own; apply = apply }

  applied_fine : (callee : Callee) (vs : List Meaning) (s : State) → MayBeCalled callee (length vs) → Fine (called_with here callee vs s)
  applied_fine (callees.World kind) vs s h = served_fine kind vs h s.dictionary s.answers
  applied_fine (callees.Pure kind) vs s h = told_fine (answer_of own s.dictionary kind vs) (keeping (kept_by kind vs s.dictionary) s)
  applied_fine (callees.Exported f) vs s h = fine f vs s
  applied_fine (callees.Defined named) vs s h = fine named.function vs s
  applied_fine callees.MatchFail [] s h = tt
  applied_fine callees.MatchFail (reason ∷ []) s h = tt
  applied_fine callees.MatchFail (reason ∷ v ∷ vs) s h = tt
  applied_fine callees.Raise [] s h = tt
  applied_fine callees.Raise (trace ∷ []) s h = tt
  applied_fine callees.Raise (trace ∷ reason ∷ []) s h = raised_again_fine (class_in trace) reason s
  applied_fine callees.Raise (trace ∷ reason ∷ v ∷ vs) s h = tt

  one_more : (done : List Meaning) (v : Meaning) (n : ℕ) → length (done ++ v ∷ []) + n ≡ length done + suc n
  one_more [] v n = omega arith
  one_more (w ∷ done) v n = let less = one_more done v n in omega (arith, less)

  none_before : (n count : ℕ) → count ≡ length {A = Meaning} [] + n → n ≡ count
  none_before n count e = omega (arith, e)

  mutual
    evaluate_fine : (t : Tree) (env : Environment) (s : State) → IsServable t → Fine (evaluate here t env s)
    evaluate_fine (trees.Integer n) env s h = tt
    evaluate_fine (trees.Character c) env s h = tt
    evaluate_fine (trees.Text cs) env s h = limited_fine (text_of cs) s
    evaluate_fine (trees.Atom text) env s h = tt
    evaluate_fine (trees.Variable v) env s h = value_fine (lookup v.name env) s
    evaluate_fine (trees.Tuple ts) env s h = goes_on _ _ (fine_of _ _ (all_fine ts env [] s h)) (λ vs s'. limited_fine (Tuple (meanings_of vs)) s')
    evaluate_fine (trees.List ts) env s h = goes_on _ _ (fine_of _ _ (all_fine ts env [] s h)) (λ vs s'. limited_fine (list_onto vs Nil) s')
    evaluate_fine (trees.Onto ts t) env s h =
        goes_on _ _ (fine_of _ _ (all_fine ts env [] s h.0)) (λ vs s'. goes_on _ _ (evaluate_fine t env s' h.1) (one_fine _ (λ v s''. limited_fine (list_onto vs v) s'')))
    evaluate_fine (trees.Values ts) env s h = fine_of _ _ (all_fine ts env [] s h)
    evaluate_fine (trees.Let variables t body) env s h = goes_on _ _ (evaluate_fine t env s h.0) (λ vs s'. within_fine (bound variables vs []) env _ (λ inner s''. evaluate_fine body inner s'' h.1) s')
    evaluate_fine (trees.Do t u) env s h = goes_on _ _ (evaluate_fine t env s h.0) (one_fine _ (λ v s'. evaluate_fine u env s' h.1))
    evaluate_fine (trees.Call at callee ts) env s h =
        goes_on_with _ _ _ (all_fine ts env [] s h.1) (λ vs s' count. applied_fine callee vs s' (subst (λ (n : ℕ). MayBeCalled callee n) (none_before (count_of ts) (length vs) count) h.0))
    evaluate_fine (trees.Case at t cs) env s h = goes_on _ _ (evaluate_fine t env s h.0) (λ vs s'. choose_fine cs vs env s' h.1)
    evaluate_fine (trees.Receive at cs timeout action) env s h =
        goes_on _ _ (evaluate_fine timeout env s h.1)
        (one_fine _ (λ v s'. timed_fine (waits_with v) _ (λ waits s''. received_fine waits _ _ _ (λ m s3. choose_fine cs (m ∷ []) env s3 h.0) (λ s3. evaluate_fine action env s3 h.2) s''.dictionary s''.answers) s'))
    evaluate_fine (trees.Try at t variables body caught_variables handler) env s h =
        goes_on_handled _ _ _ (evaluate_fine t env s h.0)
        (λ vs s'. within_fine (bound variables vs []) env _ (λ inner s''. evaluate_fine body inner s'' h.1) s')
        (λ class reason s'. within_fine (bound caught_variables (caught_values (length caught_variables) class reason) []) env _ (λ inner s''. evaluate_fine handler inner s'' h.2) s')
    evaluate_fine (trees.Catch at t) env s h = goes_on_handled Yields caught _ (evaluate_fine t env s h) (λ vs s'. tt) caught_fine

    all_fine : (ts : Trees) (env : Environment) (done : List Meaning) (s : State) → AreServable ts → Counts (length done + count_of ts) (evaluate_all here ts env done s)
    all_fine trees.NoMore env done s h = omega arith
    all_fine (trees.Also t ts) env done s h =
        counts_on _ _ _ (evaluate_fine t env s h.0)
        (one_counts _ _ (λ v s'. subst (λ (n : ℕ). Counts n (evaluate_all here ts env (done ++ v ∷ []) s')) (one_more done v (count_of ts)) (all_fine ts env (done ++ v ∷ []) s' h.1)))

    choose_fine : (cs : Clauses) (values : List Meaning) (env : Environment) (s : State) → AreServableClauses cs → Fine (choose here cs values env s)
    choose_fine trees.NoClause values env s h = no_clause_fine values s
    choose_fine (trees.Clause patterns guard body others) values env s h =
        taken_fine (match_each (patterns_of patterns) values []) env _ _
        (λ inner s'. judged_fine _ _ _ (evaluate_fine guard inner s' h.0) (λ s''. evaluate_fine body inner s'' h.1) (λ s''. choose_fine others values env s'' h.2))
        (λ s'. choose_fine others values env s' h.2)
        s

  body_fine : (o : Option (List Mention × Tree)) (vs : List Meaning) (s : State) → HasServableBody o → Fine (body_with here o vs s)
  body_fine None vs s h = tt
  body_fine (Some f) vs s h = within_fine (bound f.0 vs []) [] _ (λ env s'. evaluate_fine f.1 env s' h) s

-- ---- the functions of a module

either : (b : Bool) (o p : Option (List Mention × Tree)) → HasServableBody o → HasServableBody p → HasServableBody (if b then o else p)
either true o p h g = h
either false o p h g = g

definition_servable : (f : Function) (ds : List DefinitionTree) → HaveServableBodies ds → HasServableBody (definition f ds)
definition_servable f [] h = tt
definition_servable f (d ∷ ds) h = either (same_function f d.named.function) (Some (d.parameters, d.body)) (definition f ds) h.0 (definition_servable f ds h.1)

first_servable : (m : ModuleTree) (pid : List ℕ) (e : Entry) → IsServableModule m → HasServableBody (first_function m pid e)
first_servable m pid e h = either (is_open m pid e) (definition (function_of e) m.definitions) None (definition_servable (function_of e) m.definitions h) tt

applications_fine : (m : ModuleTree) (own : List ℕ) → IsServableModule m → (depth : ℕ) (f : Function) (vs : List Meaning) (s : State) → Fine (applied depth m own f vs s)
applications_fine m own h zero f vs s = tt
applications_fine m own h (suc depth) f vs s =
    chosen (nat_lt s.made (allowed m)) _ _ (body_fine own (applied depth m own) (applications_fine m own h depth) (definition f m.definitions) vs (counted s) (definition_servable f m.definitions h)) tt

requested : (g : Outcome) → Fine g → IsReadRequest (request_of g)
requested (Yields vs s) h = tt
requested (Raises class reason s) h = tt
requested (Stops request) h = h

pub asks_what_is_read : (m : ModuleTree) (pid : List ℕ) (e : Entry) (answers : List Answered) → IsServableModule m → IsReadRequest (ask m pid e answers)
asks_what_is_read m pid e answers h =
    requested _ (body_fine pid (apply_of m pid) (λ f vs s. applications_fine m pid h (suc (room s)) f vs s) (first_function m pid e) e.arguments (before [] answers) (first_servable m pid e h))
