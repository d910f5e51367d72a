-- Evaluations gain no room for applications, and two ways to apply that agree within some room give the same there.
use Rattle.std.proofs.Common.{◌≡◌, ℕ, ◌+◌, ◌*◌, ◌≤◌, Bool, true, false, List, [], ◌∷◌, ◌++◌, length, refl, ap, subst, arith, ◌||◌, if◌then◌else◌}
use Rattle.std.specs.Prelude.{Option, Some, None, nat_le, codes}
use Rattle.core_calls.specs.declared.call.CallKind.{CallKind}
use Rattle.core_tree.specs.Syntax.{patterns_of, Mention, Function, Callee, Tree, Trees, Clauses}
use Rattle.core_tree.specs.Callee as callees
use Rattle.core_tree.specs.Expression as trees
use Rattle.term_core.specs.Meaning.{Meaning, Tuple, Nil, meanings_of, node_count}
use Rattle.term_core.specs.Term.{list_onto}
use Rattle.core_pure_calls.specs.declared.outcome.Class.{Class}
use Rattle.core_pure_calls.specs.declared.outcome.Class.TheVariants.{Error, Exit, Throw}
use Rattle.core_semantics.specs.Asked.{Receive, Answered, Value, Raise, Message, TimedOut}
use Rattle.core_stack.specs.Matching.{Environment, lookup, bound, text_of, match_each}
use Rattle.core_semantics.specs.Evaluation.{State, before, name, Outcome, Yields, Raises, Stops, Setting, then_do, handled, one, node_limit, limited, served, called, caught, caught_values, limited_answer, keeping, class_in, raised_again, value_or_error, within, is_true, guarded, taken, no_clause, waits_with, timed, received, at_rest, holds, is_taken, called_with, evaluate, evaluate_all, choose, selects}
use Rattle.core_pure_calls.specs.Answers.{Answer}
use Rattle.core_pure_calls.specs.Answers as answers
use Rattle.core_pure_calls.specs.Calls.{answer_of, kept_by}
use Rattle.core_pure_calls.specs.Dictionary.{Dictionary}
use Rattle.core_semantics.specs.Applications.{limit, room, body_with}

-- an evaluation ends with at most this room
abbrev pub Fits : ℕ → Outcome → Type 0
Fits r (Yields vs s) = room s ≤ r
Fits r (Raises class reason s) = room s ≤ r
Fits r (Stops request) = Unit {0}

-- two evaluations give the same, with at most this room
pub record Both (r : ℕ) (g h : Outcome) : Type 0 where
  pub same : g ≡ h
  pub fits : Fits r g

pub alone : (r : ℕ) (g : Outcome) → Fits r g → Both r g g
alone r g h = record { same = refl; fits = h }

fits_wider : (q r : ℕ) (g : Outcome) → q ≤ r → Fits q g → Fits r g
fits_wider q r (Yields vs s) le h = omega (arith, h)
fits_wider q r (Raises class reason s) le h = omega (arith, h)
fits_wider q r (Stops request) le h = tt

pub wider : (q r : ℕ) (g h : Outcome) → q ≤ r → Both q g h → Both r g h
wider q r g h le b = record { same = b.same; fits = fits_wider q r g le b.fits }

-- what is chosen by the same test
pub either : (r : ℕ) (x : Bool) (g h g' h' : Outcome) → Both r g g' → Both r h h' → Both r (if x then g else h) (if x then g' else h')
either r true g h g' h' b c = b
either r false g h g' h' b c = c

-- ---- what goes on after two evaluations that give the same

module _ (r : ℕ) where
  -- from every state with at most this room
  abbrev Everywhere : (State → Outcome) → (State → Outcome) → Type 0
  Everywhere go go' = (s : State) → room s ≤ r → Both r (go s) (go' s)

  behind : (g : Outcome) (go go' : List Meaning → State → Outcome) → Fits r g → ((vs : List Meaning) → Everywhere (go vs) (go' vs)) → Both r (then_do g go) (then_do g go')
  behind (Yields vs s) go go' h e = e vs s h
  behind (Raises class reason s) go go' h e = alone r (Raises class reason s) h
  behind (Stops request) go go' h e = alone r (Stops request) tt

  pub both_then : (g h : Outcome) (go go' : List Meaning → State → Outcome) → Both r g h → ((vs : List Meaning) → Everywhere (go vs) (go' vs)) → Both r (then_do g go) (then_do h go')
  both_then g h go go' b e = subst (λ (k : Outcome). Both r (then_do g go) (then_do k go')) b.same (behind g go go' b.fits e)

  handled_behind : (g : Outcome) (go go' : List Meaning → State → Outcome) (catch catch' : Class → Meaning → State → Outcome) → Fits r g → ((vs : List Meaning) → Everywhere (go vs) (go' vs)) → ((class : Class) (reason : Meaning) → Everywhere (catch class reason) (catch' class reason)) → Both r (handled g go catch) (handled g go' catch')
  handled_behind (Yields vs s) go go' catch catch' h e f = e vs s h
  handled_behind (Raises class reason s) go go' catch catch' h e f = f class reason s h
  handled_behind (Stops request) go go' catch catch' h e f = alone r (Stops request) tt

  pub both_handled : (g h : Outcome) (go go' : List Meaning → State → Outcome) (catch catch' : Class → Meaning → State → Outcome) → Both r g h → ((vs : List Meaning) → Everywhere (go vs) (go' vs)) → ((class : Class) (reason : Meaning) → Everywhere (catch class reason) (catch' class reason)) → Both r (handled g go catch) (handled h go' catch')
  both_handled g h go go' catch catch' b e f = subst (λ (k : Outcome). Both r (handled g go catch) (handled k go' catch')) b.same (handled_behind g go go' catch catch' b.fits e f)

  judged_behind : (g : Outcome) (holds holds' fails fails' : State → Outcome) → Fits r g → Everywhere holds holds' → Everywhere fails fails' → Both r (guarded g holds fails) (guarded g holds' fails')
  judged_behind (Yields vs s) holds holds' fails fails' h e f = either r (is_true vs) (holds s) (fails s) (holds' s) (fails' s) (e s h) (f s h)
  judged_behind (Raises class reason s) holds holds' fails fails' h e f = f s h
  judged_behind (Stops request) holds holds' fails fails' h e f = alone r (Stops request) tt

  pub both_judged : (g h : Outcome) (holds holds' fails fails' : State → Outcome) → Both r g h → Everywhere holds holds' → Everywhere fails fails' → Both r (guarded g holds fails) (guarded h holds' fails')
  both_judged g h holds holds' fails fails' b e f = subst (λ (k : Outcome). Both r (guarded g holds fails) (guarded k holds' fails')) b.same (judged_behind g holds holds' fails fails' b.fits e f)

  pub both_one : (go go' : Meaning → State → Outcome) → ((v : Meaning) → Everywhere (go v) (go' v)) → (vs : List Meaning) → Everywhere (one go vs) (one go' vs)
  both_one go go' e [] s le = alone r (one go [] s) le
  both_one go go' e (v ∷ []) s le = e v s le
  both_one go go' e (v ∷ w ∷ vs) s le = alone r (one go (v ∷ w ∷ vs) s) le

  pub both_within : (o : Option Environment) (env : Environment) (go go' : Environment → State → Outcome) → ((inner : Environment) → Everywhere (go inner) (go' inner)) → Everywhere (within o env go) (within o env go')
  both_within None env go go' e s le = alone r (within None env go s) le
  both_within (Some bindings) env go go' e s le = e (bindings ++ env) s le

  pub both_taken : (o : Option Environment) (env : Environment) (go go' : Environment → State → Outcome) (others others' : State → Outcome) → ((inner : Environment) → Everywhere (go inner) (go' inner)) → Everywhere others others' → Everywhere (taken o env go others) (taken o env go' others')
  both_taken None env go go' others others' e f s le = f s le
  both_taken (Some bindings) env go go' others others' e f s le = e (bindings ++ env) s le

  -- ---- what gives the same in every setting

  pub both_limited : (m : Meaning) → Everywhere (limited m) (limited m)
  both_limited m s le = either r (nat_le (node_count m) node_limit) _ _ _ _ (alone r (Yields (m ∷ []) s) le) (alone r (Raises Error (name (codes "system_limit")) s) le)

  both_no_clause : (vs : List Meaning) → Everywhere (no_clause vs) (no_clause vs)
  both_no_clause vs s le = either r _ _ _ _ _ (alone r (Raises Error _ s) le) (alone r (Raises Error (name (codes "system_limit")) s) le)

  both_caught : (class : Class) (reason : Meaning) → Everywhere (caught class reason) (caught class reason)
  both_caught Error reason s le = both_limited (Tuple (meanings_of (name (codes "EXIT") ∷ Tuple (meanings_of (reason ∷ Nil ∷ [])) ∷ []))) s le
  both_caught Exit reason s le = both_limited (Tuple (meanings_of (name (codes "EXIT") ∷ reason ∷ []))) s le
  both_caught Throw value s le = alone r (Yields (value ∷ []) s) le

  both_told : (answer : Answer) → Everywhere (limited_answer answer) (limited_answer answer)
  both_told (answers.Value value) s le = both_limited value s le
  both_told (answers.Raised class reason) s le = alone r (Raises class reason s) le

  both_value : (o : Option Meaning) → Everywhere (value_or_error o) (value_or_error o)
  both_value None s le = alone r (value_or_error None s) le
  both_value (Some m) s le = alone r (Yields (m ∷ []) s) le

  both_raised_again : (o : Option Class) (reason : Meaning) → Everywhere (raised_again o reason) (raised_again o reason)
  both_raised_again None reason s le = alone r (raised_again None reason s) le
  both_raised_again (Some class) reason s le = alone r (Raises class reason s) le

  served_fits : (kind : CallKind) (arguments : List Meaning) (d : Dictionary) (answers : List Answered) → (limit + 1) * length answers ≤ r → Fits r (served kind arguments d answers)
  served_fits kind arguments d [] le = tt
  served_fits kind arguments d (Value value ∷ later) le = omega (arith, le)
  served_fits kind arguments d (Raise reason ∷ later) le = omega (arith, le)
  served_fits kind arguments d (Message message ∷ later) le = served_fits kind arguments d later (omega (arith, le))
  served_fits kind arguments d (TimedOut ∷ later) le = served_fits kind arguments d later (omega (arith, le))

  both_called : (kind : CallKind) (arguments : List Meaning) → Everywhere (called kind arguments) (called kind arguments)
  both_called kind arguments s le = alone r (called kind arguments s) (served_fits kind arguments s.dictionary s.answers (omega (arith, le)))

  both_timed : (o : Option Bool) (go go' : Bool → State → Outcome) → ((waits : Bool) → Everywhere (go waits) (go' waits)) → Everywhere (timed o go) (timed o go')
  both_timed None go go' e s le = alone r (timed None go s) le
  both_timed (Some waits) go go' e s le = e waits s le

  -- two receives that take the same messages, and go on alike
  both_received : (waits : Bool) (takes takes' : Meaning → Bool) → takes ≡ takes' → (go go' : Meaning → State → Outcome) → ((m : Meaning) → Everywhere (go m) (go' m)) → (act act' : State → Outcome) → Everywhere act act'
      → (d : Dictionary) (answers : List Answered) → (limit + 1) * length answers ≤ r → Both r (received waits takes go act d answers) (received waits takes' go' act' d answers)
  both_received waits takes takes' e go go' each act act' last d [] le = record { same = λ i. Stops (Receive waits (e i)); fits = tt }
  both_received waits takes takes' e go go' each act act' last d (Message m ∷ later) le = each m (before d later) (omega (arith, le))
  both_received waits takes takes' e go go' each act act' last d (TimedOut ∷ later) le =
      either r waits _ _ _ _ (both_received waits takes takes' e go go' each act act' last d later (omega (arith, le))) (last (before d later) (omega (arith, le)))
  both_received waits takes takes' e go go' each act act' last d (Value value ∷ later) le = both_received waits takes takes' e go go' each act act' last d later (omega (arith, le))
  both_received waits takes takes' e go go' each act act' last d (Raise reason ∷ later) le = both_received waits takes takes' e go go' each act act' last d later (omega (arith, le))

-- two guards that give the same are taken alike
taken_alike : (o : Option Environment) (env : Environment) (guard guard' : Environment → Outcome) → ((inner : Environment) → guard inner ≡ guard' inner) → is_taken o env guard ≡ is_taken o env guard'
taken_alike None env guard guard' e = refl
taken_alike (Some bindings) env guard guard' e = ap holds (e (bindings ++ env))

-- ---- two ways to apply that agree within some room

module _ (own : List ℕ) (a b : Function → List Meaning → State → Outcome) (r : ℕ) (agree : (f : Function) (vs : List Meaning) (s : State) → room s ≤ r → Both r (a f vs s) (b f vs s)) where
  abbrev one_setting : Setting
  one_setting = record { own = own; apply = a }

  abbrev other_setting : Setting
  other_setting = record { own = own; apply = b }

  both_applied : (callee : Callee) (vs : List Meaning) → Everywhere r (called_with one_setting callee vs) (called_with other_setting callee vs)
  both_applied (callees.World kind) vs s le = both_called r kind vs s le
  both_applied (callees.Pure kind) vs s le = both_told r (answer_of own s.dictionary kind vs) (keeping (kept_by kind vs s.dictionary) s) le
  both_applied (callees.Exported f) vs s le = agree f vs s le
  both_applied (callees.Defined named) vs s le = agree named.function vs s le
  both_applied callees.MatchFail [] s le = alone r _ le
  both_applied callees.MatchFail (reason ∷ []) s le = alone r _ le
  both_applied callees.MatchFail (reason ∷ v ∷ vs) s le = alone r _ le
  both_applied callees.Raise [] s le = alone r _ le
  both_applied callees.Raise (trace ∷ []) s le = alone r _ le
  both_applied callees.Raise (trace ∷ reason ∷ []) s le = both_raised_again r (class_in trace) reason s le
  both_applied callees.Raise (trace ∷ reason ∷ v ∷ vs) s le = alone r _ le

  mutual
    both_evaluated : (t : Tree) (env : Environment) → Everywhere r (evaluate one_setting t env) (evaluate other_setting t env)
    both_evaluated (trees.Integer n) env s le = alone r _ le
    both_evaluated (trees.Character c) env s le = alone r _ le
    both_evaluated (trees.Text cs) env s le = both_limited r (text_of cs) s le
    both_evaluated (trees.Atom text) env s le = alone r _ le
    both_evaluated (trees.Variable v) env s le = both_value r (lookup v.name env) s le
    both_evaluated (trees.Tuple ts) env s le = both_then r _ _ _ _ (both_all ts env [] s le) (λ vs. both_limited r (Tuple (meanings_of vs)))
    both_evaluated (trees.List ts) env s le = both_then r _ _ _ _ (both_all ts env [] s le) (λ vs. both_limited r (list_onto vs Nil))
    both_evaluated (trees.Onto ts t) env s le = both_then r _ _ _ _ (both_all ts env [] s le) (λ vs s' le'. both_then r _ _ _ _ (both_evaluated t env s' le') (both_one r _ _ (λ v. both_limited r (list_onto vs v))))
    both_evaluated (trees.Values ts) env s le = both_all ts env [] s le
    both_evaluated (trees.Let variables t body) env s le = both_then r _ _ _ _ (both_evaluated t env s le) (λ vs. both_within r (bound variables vs []) env _ _ (λ inner. both_evaluated body inner))
    both_evaluated (trees.Do t u) env s le = both_then r _ _ _ _ (both_evaluated t env s le) (both_one r _ _ (λ v. both_evaluated u env))
    both_evaluated (trees.Call at callee ts) env s le = both_then r _ _ _ _ (both_all ts env [] s le) (λ vs. both_applied callee vs)
    both_evaluated (trees.Case at t cs) env s le = both_then r _ _ _ _ (both_evaluated t env s le) (λ vs. both_chosen cs vs env)
    both_evaluated (trees.Receive at cs timeout action) env s le =
        both_then r _ _ _ _ (both_evaluated timeout env s le)
        (both_one r _ _ (λ v. both_timed r (waits_with v) _ _ (λ waits s' le'. both_received r waits _ _ (λ i m. selected_alike cs env m i) _ _ (λ m. both_chosen cs (m ∷ []) env) _ _ (both_evaluated action env) s'.dictionary s'.answers (omega (arith, le')))))
    both_evaluated (trees.Try at t variables body caught_variables handler) env s le =
        both_handled r _ _ _ _ _ _ (both_evaluated t env s le)
        (λ vs. both_within r (bound variables vs []) env _ _ (λ inner. both_evaluated body inner))
        (λ class reason. both_within r (bound caught_variables (caught_values (length caught_variables) class reason) []) env _ _ (λ inner. both_evaluated handler inner))
    both_evaluated (trees.Catch at t) env s le = both_handled r _ _ Yields Yields caught caught (both_evaluated t env s le) (λ vs s' le'. alone r (Yields vs s') le') (both_caught r)

    both_all : (ts : Trees) (env : Environment) (done : List Meaning) → Everywhere r (evaluate_all one_setting ts env done) (evaluate_all other_setting ts env done)
    both_all trees.NoMore env done s le = alone r (Yields done s) le
    both_all (trees.Also t ts) env done s le = both_then r _ _ _ _ (both_evaluated t env s le) (both_one r _ _ (λ v. both_all ts env (done ++ v ∷ [])))

    both_chosen : (cs : Clauses) (values : List Meaning) (env : Environment) → Everywhere r (choose one_setting cs values env) (choose other_setting cs values env)
    both_chosen trees.NoClause values env s le = both_no_clause r values s le
    both_chosen (trees.Clause patterns guard body others) values env s le =
        both_taken r (match_each (patterns_of patterns) values []) env _ _ _ _
        (λ inner s' le'. both_judged r _ _ _ _ _ _ (both_evaluated guard inner s' le') (both_evaluated body inner) (both_chosen others values env))
        (both_chosen others values env)
        s le

    selected_alike : (cs : Clauses) (env : Environment) (m : Meaning) → selects one_setting cs env m ≡ selects other_setting cs env m
    selected_alike trees.NoClause env m = refl
    selected_alike (trees.Clause patterns guard body others) env m =
        λ i. taken_alike (match_each (patterns_of patterns) (m ∷ []) []) env _ _ (λ inner. (both_evaluated guard inner at_rest (omega arith)).same) i || selected_alike others env m i

  pub both_bodies : (f : Option (List Mention × Tree)) (vs : List Meaning) → Everywhere r (body_with one_setting f vs) (body_with other_setting f vs)
  both_bodies None vs s le = alone r _ le
  both_bodies (Some f) vs s le = both_within r (bound f.0 vs []) [] _ _ (λ env. both_evaluated f.1 env) s le
