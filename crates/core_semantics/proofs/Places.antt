-- Where the parts of a module are in its text changes nothing of what its processes ask.
use Rattle.std.proofs.Common.{◌≡◌, ℕ, zero, suc, ◌&&◌, ◌||◌, Bool, true, false, List, [], ◌∷◌, ◌++◌, map, Option, Some, None, option_map, if◌then◌else◌, length, refl, ap, ◌∙◌}
use Rattle.std.proofs.lemmas.List.{length-map}
use Rattle.std.specs.Prelude.{nat_lt, nat_le}
use Rattle.core_semantics.specs.Applications.{definition, body_with, allowed, counted, applied, room, setting_of}
use Rattle.core_semantics.specs.Ask.{Entry, ask, arity_limit, first_function, function_of, is_exported, is_first, is_open}
use Rattle.core_semantics.specs.Ask as asking
use Rattle.core_semantics.specs.Asked.{Answered, Runaway}
use Rattle.core_semantics.specs.Clauses.{guarded, taken, within}
use Rattle.core_semantics.specs.Evaluation.{called_with, choose, evaluate, evaluate_all, selects}
use Rattle.core_semantics.specs.Exceptions.{caught, caught_values}
use Rattle.core_semantics.specs.Outcomes.{Setting, State, Stops, Yields, before, handled, limited, one, then_do}
use Rattle.core_semantics.specs.Receiving.{at_rest, is_taken, received, timed, waits_with}
use Rattle.core_stack.specs.Matching.{Environment, and_then, bound, is_nil, literal, match, match_each, match_items}
use Rattle.core_tree.specs.Callee as callees
use Rattle.core_tree.specs.Expression as trees
use Rattle.core_tree.specs.Functions.{same_function}
use Rattle.core_tree.specs.Pattern as patterns
use Rattle.core_tree.specs.Sameness.{bare_callee, bare_clauses, bare_definition, bare_mention, bare_module, bare_named, bare_pattern, bare_patterns, bare_tree, bare_trees}
use Rattle.core_tree.specs.Syntax.{Callee, Clauses, DefinitionTree, Function, Mention, ModuleTree, NamedAt, Pattern, Patterns, Tree, Trees, patterns_of}
use Rattle.core_pure_calls.specs.declared.outcome.Class.{Class}
use Rattle.term_core.specs.Kinds.{same_text}
use Rattle.term_core.specs.Meaning.{Meaning, Nil, Tuple, meanings_of, parts_of}
use Rattle.term_core.specs.Meaning as terms
use Rattle.term_core.specs.Term.{list_onto}

-- ---- variables and patterns

pub bound_bare : (vs : List Mention) (ms : List Meaning) (b : Environment) → bound (map bare_mention vs) ms b ≡ bound vs ms b
bound_bare [] [] b = refl
bound_bare [] (m ∷ ms) b = refl
bound_bare (v ∷ vs) [] b = refl
bound_bare (v ∷ vs) (m ∷ ms) b = bound_bare vs ms ((v.name, m) ∷ b)

mutual
  match_bare : (p : Pattern) (m : Meaning) (b : Environment) → match (bare_pattern p) m b ≡ match p m b
  match_bare (patterns.Integer n) m b = refl
  match_bare (patterns.Character c) m b = refl
  match_bare (patterns.Text cs) m b = refl
  match_bare (patterns.Atom t) m b = refl
  match_bare (patterns.Variable v) m b = refl
  match_bare (patterns.Tuple ps) (Tuple ms) b = each_bare ps (parts_of ms) b
  match_bare (patterns.Tuple ps) m b = refl
  match_bare (patterns.List ps) m b = items_bare ps (λ tail so_far. literal (is_nil tail) so_far) (λ tail so_far. literal (is_nil tail) so_far) (λ tail so_far. refl) m b
  match_bare (patterns.Onto ps p) m b = items_bare ps (λ tail so_far. match (bare_pattern p) tail so_far) (λ tail so_far. match p tail so_far) (λ tail so_far. match_bare p tail so_far) m b
  match_bare (patterns.Alias v p) m b = match_bare p m ((v.name, m) ∷ b)

  each_bare : (ps : Patterns) (ms : List Meaning) (b : Environment) → match_each (bare_patterns ps) ms b ≡ match_each ps ms b
  each_bare patterns.NoMore [] b = refl
  each_bare patterns.NoMore (m ∷ ms) b = refl
  each_bare (patterns.Also p ps) [] b = refl
  each_bare (patterns.Also p ps) (m ∷ ms) b = λ i. and_then (match_bare p m b i) (λ so_far. each_bare ps ms so_far i)

  items_bare : (ps : Patterns) (f g : Meaning → Environment → Option Environment) → ((m : Meaning) (b : Environment) → f m b ≡ g m b) → (m : Meaning) (b : Environment) → match_items (bare_patterns ps) f m b ≡ match_items ps g m b
  items_bare patterns.NoMore f g same m b = same m b
  items_bare (patterns.Also p ps) f g same (terms.Cons h t) b = λ i. and_then (match_bare p h b i) (λ so_far. items_bare ps f g same t so_far i)
  items_bare (patterns.Also p ps) f g same m b = refl

list_bare : (ps : List Pattern) (ms : List Meaning) (b : Environment) → match_each (patterns_of (map bare_pattern ps)) ms b ≡ match_each (patterns_of ps) ms b
list_bare [] ms b = refl
list_bare (p ∷ ps) [] b = refl
list_bare (p ∷ ps) (m ∷ ms) b = λ i. and_then (match_bare p m b i) (λ so_far. list_bare ps ms so_far i)

-- the variables of a handler
pub caught_bare : (ws : List Mention) (class : Class) (reason : Meaning) → bound (map bare_mention ws) (caught_values (length (map bare_mention ws)) class reason) [] ≡ bound ws (caught_values (length ws) class reason) []
caught_bare ws class reason =
    bound_bare ws (caught_values (length (map bare_mention ws)) class reason) [] ∙ ap (λ k. bound ws (caught_values k class reason) []) (length-map ws bare_mention)

-- ---- expressions

module _ (setting : Setting) where
  pub called_bare : (c : Callee) (vs : List Meaning) (s : State) → called_with setting (bare_callee c) vs s ≡ called_with setting c vs s
  called_bare (callees.World k) vs s = refl
  called_bare (callees.Pure k) vs s = refl
  called_bare (callees.Exported f) vs s = refl
  called_bare (callees.Defined n) vs s = refl
  called_bare callees.MatchFail vs s = refl
  called_bare callees.Raise vs s = refl

  mutual
    pub tree_bare : (t : Tree) (env : Environment) (s : State) → evaluate setting (bare_tree t) env s ≡ evaluate setting t env s
    tree_bare (trees.Integer n) env s = refl
    tree_bare (trees.Character c) env s = refl
    tree_bare (trees.Text cs) env s = refl
    tree_bare (trees.Atom text) env s = refl
    tree_bare (trees.Variable v) env s = refl
    tree_bare (trees.Tuple ts) env s = λ i. then_do (trees_bare ts env [] s i) (λ vs s'. limited (Tuple (meanings_of vs)) s')
    tree_bare (trees.List ts) env s = λ i. then_do (trees_bare ts env [] s i) (λ vs s'. limited (list_onto vs Nil) s')
    tree_bare (trees.Onto ts t) env s = λ i. then_do (trees_bare ts env [] s i) (λ vs s'. then_do (tree_bare t env s' i) (one (λ v s''. limited (list_onto vs v) s'')))
    tree_bare (trees.Values ts) env s = trees_bare ts env [] s
    tree_bare (trees.Let variables t body) env s = λ i. then_do (tree_bare t env s i) (λ vs s'. within (bound_bare variables vs [] i) env (λ inner s''. tree_bare body inner s'' i) s')
    tree_bare (trees.Do t u) env s = λ i. then_do (tree_bare t env s i) (one (λ v s'. tree_bare u env s' i))
    tree_bare (trees.Call at callee ts) env s = λ i. then_do (trees_bare ts env [] s i) (λ vs s'. called_bare callee vs s' i)
    tree_bare (trees.Case at t cs) env s = λ i. then_do (tree_bare t env s i) (λ vs s'. clauses_bare cs vs env s' i)
    tree_bare (trees.Receive at cs timeout action) env s =
        λ i. then_do (tree_bare timeout env s i)
        (one (λ v s'. timed (waits_with v) (λ waits s''. received waits (λ m. selects_bare cs env m i) (λ m s'''. clauses_bare cs (m ∷ []) env s''' i) (λ s'''. tree_bare action env s''' i) s''.dictionary s''.answers) s'))
    tree_bare (trees.Try at t variables body ws handler) env s =
        λ i. handled (tree_bare t env s i)
        (λ vs s'. within (bound_bare variables vs [] i) env (λ inner s''. tree_bare body inner s'' i) s')
        (λ class reason s'. within (caught_bare ws class reason i) env (λ inner s''. tree_bare handler inner s'' i) s')
    tree_bare (trees.Catch at t) env s = λ i. handled (tree_bare t env s i) Yields caught

    pub trees_bare : (ts : Trees) (env : Environment) (done : List Meaning) (s : State) → evaluate_all setting (bare_trees ts) env done s ≡ evaluate_all setting ts env done s
    trees_bare trees.NoMore env done s = refl
    trees_bare (trees.Also t ts) env done s = λ i. then_do (tree_bare t env s i) (one (λ v s'. trees_bare ts env (done ++ v ∷ []) s' i))

    pub clauses_bare : (cs : Clauses) (values : List Meaning) (env : Environment) (s : State) → choose setting (bare_clauses cs) values env s ≡ choose setting cs values env s
    clauses_bare trees.NoClause values env s = refl
    clauses_bare (trees.Clause ps guard body others) values env s =
        λ i. taken (list_bare ps values [] i) env (λ inner s'. guarded (tree_bare guard inner s' i) (λ s''. tree_bare body inner s'' i) (λ s''. clauses_bare others values env s'' i)) (λ s'. clauses_bare others values env s' i) s

    pub selects_bare : (cs : Clauses) (env : Environment) (m : Meaning) → selects setting (bare_clauses cs) env m ≡ selects setting cs env m
    selects_bare trees.NoClause env m = refl
    selects_bare (trees.Clause ps guard body others) env m =
        λ i. is_taken (list_bare ps (m ∷ []) [] i) env (λ inner. tree_bare guard inner at_rest i) || selects_bare others env m i

-- ---- functions

abbrev bare_function : List Mention × Tree → List Mention × Tree
bare_function f = (map bare_mention f.0, bare_tree f.1)

definition_bare : (f : Function) (ds : List DefinitionTree) → definition f (map bare_definition ds) ≡ option_map bare_function (definition f ds)
definition_bare f [] = refl
definition_bare f (d ∷ ds) = go (same_function f d.named.function) (definition_bare f ds)
  where
    go : (b : Bool) → definition f (map bare_definition ds) ≡ option_map bare_function (definition f ds) → (if b then Some (map bare_mention d.parameters, bare_tree d.body) else definition f (map bare_definition ds)) ≡ option_map bare_function (if b then Some (d.parameters, d.body) else definition f ds)
    go true more = refl
    go false more = more

body_bare : (setting : Setting) (o : Option (List Mention × Tree)) (arguments : List Meaning) (s : State) → body_with setting (option_map bare_function o) arguments s ≡ body_with setting o arguments s
body_bare setting None arguments s = refl
body_bare setting (Some f) arguments s = λ i. within (bound_bare f.0 arguments [] i) [] (λ env s'. tree_bare setting f.1 env s' i) s

applied_bare : (depth : ℕ) (m : ModuleTree) (own : List ℕ) (f : Function) (arguments : List Meaning) (s : State) → applied depth (bare_module m) own f arguments s ≡ applied depth m own f arguments s
applied_bare zero m own f arguments s = refl
applied_bare (suc depth) m own f arguments s =
    ap (λ got. if nat_lt s.made (allowed m) then got else Stops Runaway)
    ((λ i. body_with (record { own = own; apply = λ g xs t. applied_bare depth m own g xs t i }) (definition_bare f m.definitions i) arguments (counted s))
    ∙ body_bare (record { own = own; apply = applied depth m own }) (definition f m.definitions) arguments (counted s))

setting_bare : (m : ModuleTree) (own : List ℕ) → setting_of (bare_module m) own ≡ setting_of m own
setting_bare m own = λ i. record { own = own; apply = λ f arguments s. applied_bare (suc (room s)) m own f arguments s i }

-- ---- modules

exported_bare : (f : Function) (es : List NamedAt) → is_exported f (map bare_named es) ≡ is_exported f es
exported_bare f [] = refl
exported_bare f (e ∷ es) = ap (λ b. same_function f e.function || b) (exported_bare f es)

open_bare : (m : ModuleTree) (pid : List ℕ) (e : Entry) → is_open (bare_module m) pid e ≡ is_open m pid e
open_bare m pid e =
    ap (λ b. nat_le (length e.arguments) arity_limit && same_text m.name e.module_name && (is_first pid || b)) (exported_bare (function_of e) m.exports)

first_bare : (m : ModuleTree) (pid : List ℕ) (e : Entry) → first_function (bare_module m) pid e ≡ option_map bare_function (first_function m pid e)
first_bare m pid e =
    ap (λ b. if b then definition (function_of e) (map bare_definition m.definitions) else None) (open_bare m pid e) ∙ go (is_open m pid e)
  where
    go : (b : Bool) → (if b then definition (function_of e) (map bare_definition m.definitions) else None) ≡ option_map bare_function (if b then definition (function_of e) m.definitions else None)
    go true = definition_bare (function_of e) m.definitions
    go false = refl

pub ask_bare : (m : ModuleTree) (pid : List ℕ) (e : Entry) (answers : List Answered) → ask (bare_module m) pid e answers ≡ ask m pid e answers
ask_bare m pid e answers =
    ap asking.request_of
    ((λ i. body_with (setting_bare m pid i) (first_bare m pid e i) e.arguments (before [] answers)) ∙ body_bare (setting_of m pid) (first_function m pid e) e.arguments (before [] answers))
