-- Stacks that differ in the places of code alone give the same.
use Rattle.std.proofs.Common.{◌≡◌, Bool, true, false, not, List, [], ◌∷◌, ◌++◌, map, if◌then◌else◌, refl, sym, ap, ◌∙◌}
use Rattle.core_tree.specs.Expression as trees
use Rattle.core_tree.specs.Sameness.{bare_clause, bare_clauses, bare_tree, bare_trees}
use Rattle.core_tree.specs.Syntax.{Tree, ClauseTree, trees_of, clauses_of}
use Rattle.term_core.specs.Meaning.{Meaning}
use Rattle.term_core.specs.Term.{list_onto}
use Rattle.core_pure_calls.specs.Dictionary.{Dictionary}
use Rattle.core_stack.specs.Holes.{Hole, Wait, Purpose, scope, kept_in, hides, receive_on}
use Rattle.core_stack.specs.Holes as holes
use Rattle.core_stack.specs.Purposes as purposes
use Rattle.core_stack.specs.Matching.{Environment}
use Rattle.core_stack.specs.inside.Bare.{bare_hole, bare_holes, bare_purpose}
use Rattle.core_semantics.specs.Applications.{setting_of}
use Rattle.core_semantics.specs.Ask.{request_of}
use Rattle.core_semantics.specs.Asked.{Answered}
use Rattle.core_semantics.specs.Evaluation.{Setting, State, Outcome, before, then_do, one, limited, within, guarded, handled, caught, timed, waits_with, received, evaluate_all, choose, receive}
use Rattle.core_semantics.proofs.Places.{bound_bare, called_bare, caught_bare, clauses_bare, selects_bare, tree_bare, trees_bare}
use Rattle.core_eval.specs.Filled.{finish, filled, through, waiting, standing}
use Rattle.core_eval.specs.Told.{Told}
use Rattle.core_eval.specs.Told as told
use Rattle.core_eval.specs.Standing.{Standing, AreOne, is_spent, module_in}

-- ---- what is in scope

kept_bare : (h : Hole) → kept_in (bare_hole h) ≡ kept_in h
kept_bare (holes.Parts purpose done later) = refl
kept_bare (holes.Tail items) = refl
kept_bare (holes.Body variables body) = refl
kept_bare (holes.Second second) = refl
kept_bare (holes.Clauses clauses) = refl
kept_bare (holes.Guard bindings body others values) = refl
kept_bare (holes.Receive clauses action) = refl
kept_bare (holes.Try variables body caught handler) = refl
kept_bare holes.Catch = refl
kept_bare (holes.Kept bindings) = refl
kept_bare (holes.Applied bindings) = refl

hides_bare : (h : Hole) → hides (bare_hole h) ≡ hides h
hides_bare (holes.Parts purpose done later) = refl
hides_bare (holes.Tail items) = refl
hides_bare (holes.Body variables body) = refl
hides_bare (holes.Second second) = refl
hides_bare (holes.Clauses clauses) = refl
hides_bare (holes.Guard bindings body others values) = refl
hides_bare (holes.Receive clauses action) = refl
hides_bare (holes.Try variables body caught handler) = refl
hides_bare holes.Catch = refl
hides_bare (holes.Kept bindings) = refl
hides_bare (holes.Applied bindings) = refl

scope_bare : (hs : List Hole) → scope (bare_holes hs) ≡ scope hs
scope_bare [] = refl
scope_bare (h ∷ hs) = λ i. kept_bare h i ++ (if hides_bare h i then [] else scope_bare hs i)

-- ---- rows of code

rows_bare : (ts : List Tree) → trees_of (map bare_tree ts) ≡ bare_trees (trees_of ts)
rows_bare [] = refl
rows_bare (t ∷ ts) = ap (trees.Also (bare_tree t)) (rows_bare ts)

choices_bare : (cs : List ClauseTree) → clauses_of (map bare_clause cs) ≡ bare_clauses (clauses_of cs)
choices_bare [] = refl
choices_bare (c ∷ cs) = ap (trees.Clause (bare_clause c).patterns (bare_tree c.guard) (bare_tree c.body)) (choices_bare cs)

module _ (setting : Setting) where
  all_bare : (ts : List Tree) (env : Environment) (done : List Meaning) (s : State) → evaluate_all setting (trees_of (map bare_tree ts)) env done s ≡ evaluate_all setting (trees_of ts) env done s
  all_bare ts env done s = ap (λ r. evaluate_all setting r env done s) (rows_bare ts) ∙ trees_bare setting (trees_of ts) env done s

  chosen_bare : (cs : List ClauseTree) (values : List Meaning) (env : Environment) (s : State) → choose setting (clauses_of (map bare_clause cs)) values env s ≡ choose setting (clauses_of cs) values env s
  chosen_bare cs values env s = ap (λ r. choose setting r values env s) (choices_bare cs) ∙ clauses_bare setting (clauses_of cs) values env s

  receive_bare : (cs : List ClauseTree) (action : Tree) (waits : Bool) (env : Environment) (s : State) → receive setting waits (clauses_of (map bare_clause cs)) (bare_tree action) env s ≡ receive setting waits (clauses_of cs) action env s
  receive_bare cs action waits env s =
      ap (λ r. receive setting waits r (bare_tree action) env s) (choices_bare cs)
      ∙ (λ i. received waits (λ m. selects_bare setting (clauses_of cs) env m i) (λ m s'. clauses_bare setting (clauses_of cs) (m ∷ []) env s' i) (λ s'. tree_bare setting action env s' i) s.dictionary s.answers)

  finish_bare : (p : Purpose) (env : Environment) (vs : List Meaning) (s : State) → finish setting (bare_purpose p) env vs s ≡ finish setting p env vs s
  finish_bare purposes.Tuple env vs s = refl
  finish_bare purposes.List env vs s = refl
  finish_bare (purposes.Onto t) env vs s = λ i. then_do (tree_bare setting t env s i) (one (λ v s'. limited (list_onto vs v) s'))
  finish_bare (purposes.Call callee) env vs s = called_bare setting callee vs s
  finish_bare purposes.Values env vs s = refl

  filled_bare : (h : Hole) (env : Environment) (got : Outcome) → filled setting (bare_hole h) env got ≡ filled setting h env got
  filled_bare (holes.Parts purpose done later) env got =
      λ i. then_do (then_do got (one (λ v s. all_bare later env (done ++ v ∷ []) s i))) (λ vs s. finish_bare purpose env vs s i)
  filled_bare (holes.Tail items) env got = refl
  filled_bare (holes.Body variables body) env got =
      λ i. then_do got (λ vs s. within (bound_bare variables vs [] i) env (λ inner s'. tree_bare setting body inner s' i) s)
  filled_bare (holes.Second second) env got = λ i. then_do got (one (λ v s. tree_bare setting second env s i))
  filled_bare (holes.Clauses clauses) env got = λ i. then_do got (λ vs s. chosen_bare clauses vs env s i)
  filled_bare (holes.Guard bindings body others values) env got =
      λ i. guarded got (λ s. tree_bare setting body (bindings ++ env) s i) (λ s. chosen_bare others values env s i)
  filled_bare (holes.Receive clauses action) env got =
      λ i. then_do got (one (λ v s. timed (waits_with v) (λ waits s'. receive_bare clauses action waits env s' i) s))
  filled_bare (holes.Try variables body ws handler) env got =
      λ i. handled got
      (λ vs s. within (bound_bare variables vs [] i) env (λ inner s'. tree_bare setting body inner s' i) s)
      (λ class reason s. within (caught_bare ws class reason i) env (λ inner s'. tree_bare setting handler inner s' i) s)
  filled_bare holes.Catch env got = refl
  filled_bare (holes.Kept bindings) env got = refl
  filled_bare (holes.Applied bindings) env got = refl

  through_bare : (hs : List Hole) (got : Outcome) → through setting (bare_holes hs) got ≡ through setting hs got
  through_bare [] got = refl
  through_bare (h ∷ hs) got =
      through_bare hs (filled setting (bare_hole h) (scope (bare_holes hs)) got)
      ∙ ap (through setting hs) (ap (λ env. filled setting (bare_hole h) env got) (scope_bare hs) ∙ filled_bare h (scope hs) got)

  waiting_bare : (hs : List Hole) (waits : Bool) (s : State) → waiting setting (receive_on (bare_holes hs)) waits s ≡ waiting setting (receive_on hs) waits s
  waiting_bare [] waits s = refl
  waiting_bare (holes.Parts purpose done later ∷ hs) waits s = refl
  waiting_bare (holes.Tail items ∷ hs) waits s = refl
  waiting_bare (holes.Body variables body ∷ hs) waits s = refl
  waiting_bare (holes.Second second ∷ hs) waits s = refl
  waiting_bare (holes.Clauses clauses ∷ hs) waits s = refl
  waiting_bare (holes.Guard bindings body others values ∷ hs) waits s = refl
  waiting_bare (holes.Receive clauses action ∷ hs) waits s =
      through_bare hs _ ∙ ap (through setting hs) (ap (λ env. receive setting waits (clauses_of (map bare_clause clauses)) (bare_tree action) env s) (scope_bare hs) ∙ receive_bare clauses action waits (scope hs) s)
  waiting_bare (holes.Try variables body caught handler ∷ hs) waits s = refl
  waiting_bare (holes.Catch ∷ hs) waits s = refl
  waiting_bare (holes.Kept bindings ∷ hs) waits s = refl
  waiting_bare (holes.Applied bindings ∷ hs) waits s = refl

  pub standing_bare : (hs : List Hole) (d : Dictionary) (t : Told) (answers : List Answered) → standing setting (bare_holes hs) d t answers ≡ standing setting hs d t answers
  standing_bare hs d (told.Call kind arguments) answers = ap request_of (through_bare hs _)
  standing_bare hs d (told.Receive waits) answers = ap request_of (waiting_bare hs waits (before d answers))
  standing_bare hs d (told.End reason) answers = refl
  standing_bare hs d told.Runaway answers = refl

pub not_off : (b : Bool) → false ≡ not b → b ≡ true
not_off true e = refl
not_off false e = cc

-- machines of one module, one pid and one dictionary, at the same request with the same left to do
pub are_one : (m n : Standing) → is_spent m ≡ false → is_spent n ≡ false → m.own ≡ n.own → m.dictionary ≡ n.dictionary → m.told ≡ n.told → bare_holes m.holes ≡ bare_holes n.holes → module_in m ≡ module_in n → AreOne m n
are_one m n lives others own kept told same modules = record {
  one_lives = lives;
  other_lives = others;
  asks = λ answers.
      sym (standing_bare (setting_of m.program m.own) m.holes m.dictionary m.told answers)
      ∙ (λ i. standing (setting_of (modules i) (own i)) (same i) (kept i) (told i) answers)
      ∙ standing_bare (setting_of n.program n.own) n.holes n.dictionary n.told answers;
}
