-- What a process of a module asks has no other pids than what it was told: its own, those of its arguments, and those of its answers.
use Rattle.std.proofs.Common.{ℕ, zero, suc, Bool, List, [], ◌∷◌, ◌++◌, map, length, if◌then◌else◌}
use Rattle.std.specs.List.{AllByRecursion}
use Rattle.std.specs.Prelude.{pos, Option, Some, None, nat_le, nat_lt, codes}
use Rattle.core_calls.specs.declared.call.CallKind.{CallKind}
use Rattle.core_pure_calls.specs.Answers.{Answer}
use Rattle.core_pure_calls.specs.Answers as pure
use Rattle.core_pure_calls.specs.Calls.{answer_of, kept_by}
use Rattle.core_pure_calls.specs.Dictionary.{Dictionary}
use Rattle.core_pure_calls.specs.declared.outcome.Class.{Class}
use Rattle.core_pure_calls.specs.declared.outcome.Class.TheVariants.{Error, Exit, Throw}
use Rattle.core_semantics.specs.Applications.{definition, body_with, allowed, counted, applied, room, apply_of}
use Rattle.core_semantics.specs.Ask.{Entry, first_function, reason_of, request_of, ask}
use Rattle.core_semantics.specs.Asked.{Answered, Value, Raise, Message, TimedOut}
use Rattle.core_semantics.specs.Evaluation.{State, before, name, Outcome, Yields, Raises, Stops, Setting, then_do, handled, one, node_limit, limited, limited_error, served, caught, caught_values, class_name, trace_of, begins_with, match_reason, limited_answer, keeping, class_in, raised_again, value_or_error, within, is_true, guarded, taken, as_one, no_clause, waits_with, timed, received, called_with, evaluate, evaluate_all, choose}
use Rattle.core_stack.specs.Matching.{Environment, lookup, bound, text_of, is_number, is_nil, is_text, literal, and_then, match, match_each, match_items}
use Rattle.core_tree.specs.Callee as callees
use Rattle.core_tree.specs.Expression as trees
use Rattle.core_tree.specs.Pattern as patterns
use Rattle.core_tree.specs.Syntax.{patterns_of, Mention, Function, Callee, Tree, Trees, Clauses, Pattern, Patterns, ModuleTree}
use Rattle.term_core.proofs.Pieces.{all-append}
use Rattle.term_core.specs.Kinds.{is_the_atom, same_text}
use Rattle.term_core.specs.Meaning.{Meaning, Int, Tuple, Nil, Cons, meanings_of, node_count, parts_of}
use Rattle.term_core.specs.Term.{list_onto}
use Rattle.world_pids.specs.Numbers.{IsNumbered}
use Rattle.world_pids.proofs.PureAnswers.{kept_told, pure_told}
use Rattle.world_pids.proofs.Told.{IfThere, chosen, IsTold, EachTold, GivesTold, AllTold, KeptTold, AsksTold, tuple_told, parts_told, onto_told}

module _ (n : ℕ) where
  -- ---- what an evaluation gives, and where it stops

  -- what is still to come, and what is kept
  abbrev Sound : State → Type 0
  Sound s = AllTold n s.answers × KeptTold n s.dictionary

  abbrev Fine : Outcome → Type 0
  Fine (Yields values s) = EachTold n values × Sound s
  Fine (Raises class reason s) = IsTold n reason × Sound s
  Fine (Stops request) = AsksTold n request

  -- all values of variables
  abbrev InScope : Environment → Type 0
  InScope env = AllByRecursion (λ (b : List ℕ × Meaning). IsTold n b.1) env

  in_both : (inner outer : Environment) → InScope inner → InScope outer → InScope (inner ++ outer)
  in_both inner outer h k = all-append (λ (b : List ℕ × Meaning). IsTold n b.1) inner outer h k

  one_of : (b : Bool) (g h : Outcome) → Fine g → Fine h → Fine (if b then g else h)
  one_of b g h p q = chosen Fine b g h p q

  -- ---- what goes on after an evaluation

  abbrev GoesOn : (List Meaning → State → Outcome) → Type 0
  GoesOn go = (vs : List Meaning) (s : State) → EachTold n vs → Sound s → Fine (go vs s)

  abbrev GoesOnWith : (Meaning → State → Outcome) → Type 0
  GoesOnWith go = (v : Meaning) (s : State) → IsTold n v → Sound s → Fine (go v s)

  abbrev GoesOnIn : (Environment → State → Outcome) → Type 0
  GoesOnIn go = (env : Environment) (s : State) → InScope env → Sound s → Fine (go env s)

  abbrev GoesAfter : (State → Outcome) → Type 0
  GoesAfter go = (s : State) → Sound s → Fine (go s)

  then_fine : (go : List Meaning → State → Outcome) (g : Outcome) → Fine g → GoesOn go → Fine (then_do g go)
  then_fine go (Yields vs s) h each = each vs s h.0 h.1
  then_fine go (Raises class reason s) h each = h
  then_fine go (Stops request) h each = h

  handled_fine : (go : List Meaning → State → Outcome) (catch : Class → Meaning → State → Outcome) (g : Outcome) → Fine g → GoesOn go → ((class : Class) → GoesOnWith (catch class)) → Fine (handled g go catch)
  handled_fine go catch (Yields vs s) h each caught = each vs s h.0 h.1
  handled_fine go catch (Raises class reason s) h each caught = caught class reason s h.0 h.1
  handled_fine go catch (Stops request) h each caught = h

  one_fine : (go : Meaning → State → Outcome) → GoesOnWith go → GoesOn (one go)
  one_fine go each [] s h k = (tt, k)
  one_fine go each (v ∷ []) s h k = each v s h.0 k
  one_fine go each (v ∷ w ∷ vs) s h k = (tt, k)

  within_fine : (o : Option Environment) (env : Environment) (go : Environment → State → Outcome) → IfThere InScope o → InScope env → GoesOnIn go → GoesAfter (within o env go)
  within_fine None env go h k each s t = (tt, t)
  within_fine (Some bindings) env go h k each s t = each (bindings ++ env) s (in_both bindings env h k) t

  taken_fine : (o : Option Environment) (env : Environment) (go : Environment → State → Outcome) (others : State → Outcome) → IfThere InScope o → InScope env → GoesOnIn go → GoesAfter others → GoesAfter (taken o env go others)
  taken_fine None env go others h k each rest s t = rest s t
  taken_fine (Some bindings) env go others h k each rest s t = each (bindings ++ env) s (in_both bindings env h k) t

  guarded_fine : (g : Outcome) (holds fails : State → Outcome) → Fine g → GoesAfter holds → GoesAfter fails → Fine (guarded g holds fails)
  guarded_fine (Yields vs s) holds fails h p q = one_of (is_true vs) (holds s) (fails s) (p s h.1) (q s h.1)
  guarded_fine (Raises class reason s) holds fails h p q = q s h.1
  guarded_fine (Stops request) holds fails h p q = h

  -- ---- values and exceptions

  limited_fine : (m : Meaning) (s : State) → IsTold n m → Sound s → Fine (limited m s)
  limited_fine m s h k = one_of (nat_le (node_count m) node_limit) _ _ ((h, tt), k) (tt, k)

  limited_error_fine : (m : Meaning) (s : State) → IsTold n m → Sound s → Fine (limited_error m s)
  limited_error_fine m s h k = one_of (nat_le (node_count m) node_limit) _ _ (h, k) (tt, k)

  as_one_told : (vs : List Meaning) → EachTold n vs → IsTold n (as_one vs)
  as_one_told [] h = tt
  as_one_told (v ∷ []) h = h.0
  as_one_told (v ∷ w ∷ vs) h = tuple_told n (v ∷ w ∷ vs) h

  no_clause_fine : (vs : List Meaning) (s : State) → EachTold n vs → Sound s → Fine (no_clause vs s)
  no_clause_fine vs s h k = limited_error_fine (Tuple (meanings_of (name (codes "case_clause") ∷ as_one vs ∷ []))) s (tt, (as_one_told vs h, tt)) k

  caught_fine : (class : Class) → GoesOnWith (caught class)
  caught_fine Error reason s h k = limited_fine (Tuple (meanings_of (name (codes "EXIT") ∷ Tuple (meanings_of (reason ∷ Nil ∷ [])) ∷ []))) s (tt, ((h, (tt, tt)), tt)) k
  caught_fine Exit reason s h k = limited_fine (Tuple (meanings_of (name (codes "EXIT") ∷ reason ∷ []))) s (tt, (h, tt)) k
  caught_fine Throw value s h k = ((h, tt), k)

  class_told : (class : Class) → IsTold n (class_name class)
  class_told Error = tt
  class_told Exit = tt
  class_told Throw = tt

  caught_told : (count : ℕ) (class : Class) (reason : Meaning) → IsTold n reason → EachTold n (caught_values count class reason)
  caught_told count class reason h =
      chosen (EachTold n) (nat_le count 2) (class_name class ∷ reason ∷ []) (class_name class ∷ reason ∷ trace_of class ∷ []) (class_told class, (h, tt)) (class_told class, (h, ((tt, (class_told class, tt)), tt)))

  answer_fine : (answer : Answer) (s : State) → GivesTold n answer → Sound s → Fine (limited_answer answer s)
  answer_fine (pure.Value value) s h k = limited_fine value s h k
  answer_fine (pure.Raised class reason) s h k = (h, k)

  value_fine : (o : Option Meaning) (s : State) → IfThere (IsTold n) o → Sound s → Fine (value_or_error o s)
  value_fine None s h k = (tt, k)
  value_fine (Some m) s h k = ((h, tt), k)

  again_fine : (o : Option Class) (reason : Meaning) (s : State) → IsTold n reason → Sound s → Fine (raised_again o reason s)
  again_fine None reason s h k = (tt, k)
  again_fine (Some class) reason s h k = (h, k)

  reason_told : (reason : Meaning) → IsTold n reason → IsTold n (match_reason reason)
  reason_told reason h = chosen (IsTold n) (begins_with (codes "function_clause") reason) (name (codes "function_clause")) reason tt h

  -- ---- answers

  served_fine : (kind : CallKind) (arguments : List Meaning) → EachTold n arguments → (d : Dictionary) → KeptTold n d → (answers : List Answered) → AllTold n answers → Fine (served kind arguments d answers)
  served_fine kind arguments h d e [] k = h
  served_fine kind arguments h d e (Value value ∷ later) k = ((k.0, tt), (k.1, e))
  served_fine kind arguments h d e (Raise reason ∷ later) k = (k.0, (k.1, e))
  served_fine kind arguments h d e (Message message ∷ later) k = served_fine kind arguments h d e later k.1
  served_fine kind arguments h d e (TimedOut ∷ later) k = served_fine kind arguments h d e later k.1

  timed_fine : (o : Option Bool) (go : Bool → State → Outcome) → ((waits : Bool) → GoesAfter (go waits)) → GoesAfter (timed o go)
  timed_fine None go each s k = (tt, k)
  timed_fine (Some waits) go each s k = each waits s k

  received_fine : (waits : Bool) (takes : Meaning → Bool) (go : Meaning → State → Outcome) (act : State → Outcome) → GoesOnWith go → GoesAfter act → (d : Dictionary) → KeptTold n d → (answers : List Answered) → AllTold n answers → Fine (received waits takes go act d answers)
  received_fine waits takes go act each last d e [] k = tt
  received_fine waits takes go act each last d e (Message m ∷ later) k = each m (before d later) k.0 (k.1, e)
  received_fine waits takes go act each last d e (TimedOut ∷ later) k = one_of waits _ _ (received_fine waits takes go act each last d e later k.1) (last (before d later) (k.1, e))
  received_fine waits takes go act each last d e (Value value ∷ later) k = received_fine waits takes go act each last d e later k.1
  received_fine waits takes go act each last d e (Raise reason ∷ later) k = received_fine waits takes go act each last d e later k.1

  -- ---- variables and patterns

  text_told : (cs : List ℕ) → EachTold n (map (λ c. Int (pos c)) cs)
  text_told [] = tt
  text_told (c ∷ cs) = (tt, text_told cs)

  looked_up : (text : List ℕ) (env : Environment) → InScope env → IfThere (IsTold n) (lookup text env)
  looked_up text [] h = tt
  looked_up text (b ∷ env) h = chosen (IfThere (IsTold n)) (same_text b.0 text) (Some b.1) (lookup text env) h.0 (looked_up text env h.1)

  bound_told : (vs : List Mention) (ms : List Meaning) (outer : Environment) → EachTold n ms → InScope outer → IfThere InScope (bound vs ms outer)
  bound_told [] [] outer h k = k
  bound_told [] (m ∷ ms) outer h k = tt
  bound_told (v ∷ vs) [] outer h k = tt
  bound_told (v ∷ vs) (m ∷ ms) outer h k = bound_told vs ms ((v.name, m) ∷ outer) h.1 (h.0, k)

  literal_told : (b : Bool) (outer : Environment) → InScope outer → IfThere InScope (literal b outer)
  literal_told b outer k = chosen (IfThere InScope) b (Some outer) None k tt

  and_told : (o : Option Environment) (go : Environment → Option Environment) → IfThere InScope o → ((env : Environment) → InScope env → IfThere InScope (go env)) → IfThere InScope (and_then o go)
  and_told None go h each = tt
  and_told (Some env) go h each = each env h

  mutual
    match_told : (p : Pattern) (m : Meaning) (outer : Environment) → IsTold n m → InScope outer → IfThere InScope (match p m outer)
    match_told (patterns.Integer z) m outer h k = literal_told (is_number z m) outer k
    match_told (patterns.Character c) m outer h k = literal_told (is_number (pos c) m) outer k
    match_told (patterns.Text cs) m outer h k = literal_told (is_text cs m) outer k
    match_told (patterns.Atom t) m outer h k = literal_told (is_the_atom t m) outer k
    match_told (patterns.Variable v) m outer h k = (h, k)
    match_told (patterns.Tuple ps) (Tuple ms) outer h k = each_told ps (parts_of ms) outer (parts_told n ms h) k
    match_told (patterns.Tuple ps) m outer h k = tt
    match_told (patterns.List ps) m outer h k = items_told ps (λ tail so_far. literal (is_nil tail) so_far) m outer h k (λ tail so_far t i. literal_told (is_nil tail) so_far i)
    match_told (patterns.Onto ps p) m outer h k = items_told ps (λ tail so_far. match p tail so_far) m outer h k (λ tail so_far t i. match_told p tail so_far t i)
    match_told (patterns.Alias v p) m outer h k = match_told p m ((v.name, m) ∷ outer) h (h, k)

    each_told : (ps : Patterns) (ms : List Meaning) (outer : Environment) → EachTold n ms → InScope outer → IfThere InScope (match_each ps ms outer)
    each_told patterns.NoMore [] outer h k = k
    each_told patterns.NoMore (m ∷ ms) outer h k = tt
    each_told (patterns.Also p ps) [] outer h k = tt
    each_told (patterns.Also p ps) (m ∷ ms) outer h k = and_told (match p m outer) (λ so_far. match_each ps ms so_far) (match_told p m outer h.0 k) (λ so_far i. each_told ps ms so_far h.1 i)

    items_told : (ps : Patterns) (behind : Meaning → Environment → Option Environment) (m : Meaning) (outer : Environment) → IsTold n m → InScope outer → ((tail : Meaning) (so_far : Environment) → IsTold n tail → InScope so_far → IfThere InScope (behind tail so_far)) → IfThere InScope (match_items ps behind m outer)
    items_told patterns.NoMore behind m outer h k each = each m outer h k
    items_told (patterns.Also p ps) behind (Cons a b) outer h k each = and_told (match p a outer) (λ so_far. match_items ps behind b so_far) (match_told p a outer h.0 k) (λ so_far i. items_told ps behind b so_far h.1 i each)
    items_told (patterns.Also p ps) behind m outer h k each = tt

  -- ---- evaluation, where applications are fine

  module _ (own : List ℕ) (mine : IsNumbered n own) (apply : Function → List Meaning → State → Outcome) (fine : (f : Function) → GoesOn (apply f)) where
    abbrev here : Setting
    here = record { own = own; apply = apply }

    called_fine : (callee : Callee) → GoesOn (called_with here callee)
    called_fine (callees.World kind) vs s h k = served_fine kind vs h s.dictionary k.1 s.answers k.0
    called_fine (callees.Pure kind) vs s h k = answer_fine (answer_of own s.dictionary kind vs) (keeping (kept_by kind vs s.dictionary) s) (pure_told n own s.dictionary kind vs mine k.1 h) (k.0, kept_told n kind vs s.dictionary h k.1)
    called_fine (callees.Exported f) vs s h k = fine f vs s h k
    called_fine (callees.Defined named) vs s h k = fine named.function vs s h k
    called_fine callees.MatchFail [] s h k = (tt, k)
    called_fine callees.MatchFail (reason ∷ []) s h k = (reason_told reason h.0, k)
    called_fine callees.MatchFail (reason ∷ v ∷ vs) s h k = (tt, k)
    called_fine callees.Raise [] s h k = (tt, k)
    called_fine callees.Raise (trace ∷ []) s h k = (tt, k)
    called_fine callees.Raise (trace ∷ reason ∷ []) s h k = again_fine (class_in trace) reason s h.1.0 k
    called_fine callees.Raise (trace ∷ reason ∷ v ∷ vs) s h k = (tt, k)

    mutual
      evaluate_fine : (t : Tree) → GoesOnIn (evaluate here t)
      evaluate_fine (trees.Integer z) env s h k = ((tt, tt), k)
      evaluate_fine (trees.Character c) env s h k = ((tt, tt), k)
      evaluate_fine (trees.Text cs) env s h k = limited_fine (text_of cs) s (onto_told n (map (λ c. Int (pos c)) cs) Nil (text_told cs) tt) k
      evaluate_fine (trees.Atom text) env s h k = ((tt, tt), k)
      evaluate_fine (trees.Variable v) env s h k = value_fine (lookup v.name env) s (looked_up v.name env h) k
      evaluate_fine (trees.Tuple ts) env s h k = then_fine _ _ (all_fine ts env [] s h tt k) (λ vs s' i l. limited_fine (Tuple (meanings_of vs)) s' (tuple_told n vs i) l)
      evaluate_fine (trees.List ts) env s h k = then_fine _ _ (all_fine ts env [] s h tt k) (λ vs s' i l. limited_fine (list_onto vs Nil) s' (onto_told n vs Nil i tt) l)
      evaluate_fine (trees.Onto ts t) env s h k =
          then_fine _ _ (all_fine ts env [] s h tt k) (λ vs s' i l. then_fine _ _ (evaluate_fine t env s' h l) (one_fine _ (λ v s'' j o. limited_fine (list_onto vs v) s'' (onto_told n vs v i j) o)))
      evaluate_fine (trees.Values ts) env s h k = all_fine ts env [] s h tt k
      evaluate_fine (trees.Let variables t body) env s h k =
          then_fine _ _ (evaluate_fine t env s h k) (λ vs s' i l. within_fine (bound variables vs []) env _ (bound_told variables vs [] i tt) h (λ inner s'' j o. evaluate_fine body inner s'' j o) s' l)
      evaluate_fine (trees.Do t u) env s h k = then_fine _ _ (evaluate_fine t env s h k) (one_fine _ (λ v s' i l. evaluate_fine u env s' h l))
      evaluate_fine (trees.Call at callee ts) env s h k = then_fine _ _ (all_fine ts env [] s h tt k) (called_fine callee)
      evaluate_fine (trees.Case at t cs) env s h k = then_fine _ _ (evaluate_fine t env s h k) (λ vs s' i l. choose_fine cs vs env s' i h l)
      evaluate_fine (trees.Receive at cs timeout action) env s h k =
          then_fine _ _ (evaluate_fine timeout env s h k)
          (one_fine _ (λ v s' i l. timed_fine (waits_with v) _ (λ waits s'' o. received_fine waits _ _ _ (λ m s3 j q. choose_fine cs (m ∷ []) env s3 (j, tt) h q) (λ s3 q. evaluate_fine action env s3 h q) s''.dictionary o.1 s''.answers o.0) s' l))
      evaluate_fine (trees.Try at t variables body caught_variables handler) env s h k =
          handled_fine _ _ _ (evaluate_fine t env s h k)
          (λ vs s' i l. within_fine (bound variables vs []) env _ (bound_told variables vs [] i tt) h (λ inner s'' j o. evaluate_fine body inner s'' j o) s' l)
          (λ class reason s' i l. within_fine (bound caught_variables (caught_values (length caught_variables) class reason) []) env _ (bound_told caught_variables (caught_values (length caught_variables) class reason) [] (caught_told (length caught_variables) class reason i) tt) h (λ inner s'' j o. evaluate_fine handler inner s'' j o) s' l)
      evaluate_fine (trees.Catch at t) env s h k = handled_fine Yields caught _ (evaluate_fine t env s h k) (λ vs s' i l. (i, l)) caught_fine

      all_fine : (ts : Trees) (env : Environment) (done : List Meaning) (s : State) → InScope env → EachTold n done → Sound s → Fine (evaluate_all here ts env done s)
      all_fine trees.NoMore env done s h d k = (d, k)
      all_fine (trees.Also t ts) env done s h d k =
          then_fine _ _ (evaluate_fine t env s h k) (one_fine _ (λ v s' i l. all_fine ts env (done ++ v ∷ []) s' h (all-append (IsTold n) done (v ∷ []) d (i, tt)) l))

      choose_fine : (cs : Clauses) (values : List Meaning) (env : Environment) (s : State) → EachTold n values → InScope env → Sound s → Fine (choose here cs values env s)
      choose_fine trees.NoClause values env s i h k = no_clause_fine values s i k
      choose_fine (trees.Clause patterns guard body others) values env s i h k =
          taken_fine (match_each (patterns_of patterns) values []) env _ _ (each_told (patterns_of patterns) values [] i tt) h
          (λ inner s' j l. guarded_fine _ _ _ (evaluate_fine guard inner s' j l) (λ s'' o. evaluate_fine body inner s'' j o) (λ s'' o. choose_fine others values env s'' i h o))
          (λ s' l. choose_fine others values env s' i h l)
          s k

    body_fine : (o : Option (List Mention × Tree)) → GoesOn (body_with here o)
    body_fine None vs s h k = (tt, k)
    body_fine (Some f) vs s h k = within_fine (bound f.0 vs []) [] _ (bound_told f.0 vs [] h tt) tt (λ env s' j l. evaluate_fine f.1 env s' j l) s k

  -- ---- the functions of a module

  module _ (m : ModuleTree) (own : List ℕ) (mine : IsNumbered n own) where
    applications_fine : (depth : ℕ) (f : Function) → GoesOn (applied depth m own f)
    applications_fine zero f vs s h k = tt
    applications_fine (suc depth) f vs s h k =
        one_of (nat_lt s.made (allowed m)) _ _ (body_fine own mine (applied depth m own) (applications_fine depth) (definition f m.definitions) vs (counted s) h k) tt

    ended_told : (class : Class) (reason : Meaning) → IsTold n reason → IsTold n (reason_of class reason)
    ended_told Error reason h = (h, (tt, tt))
    ended_told Exit reason h = h
    ended_told Throw reason h = ((tt, (h, tt)), (tt, tt))

    requested : (g : Outcome) → Fine g → AsksTold n (request_of g)
    requested (Yields vs s) h = tt
    requested (Raises class reason s) h = ended_told class reason h.0
    requested (Stops request) h = h

    pub asks_what_it_was_told : (e : Entry) (answers : List Answered) → EachTold n e.arguments → AllTold n answers → AsksTold n (ask m own e answers)
    asks_what_it_was_told e answers h k =
        requested _ (body_fine own mine (apply_of m own) (λ f vs s. applications_fine (suc (room s)) f vs s) (first_function m own e) e.arguments (before [] answers) h (k, tt))
