-- Clauses that are tried one by one.
use Rattle.std.proofs.Common.{◌≡◌, ◌+◌, ◌*◌, ◌≤◌, List, [], ◌∷◌, ◌++◌, length, ap, ◌∙◌, sym, arith, IfOk, Result, Ok, Err}
use Rattle.std.specs.Prelude.{Option, Some, None}
use Rattle.std.specs.declared.alloc.AllocError.{AllocError}
use Rattle.core_tree.specs.Syntax.{ClauseTree, patterns_of, clauses_of}
use Rattle.core_tree.specs.inside.Sizes.{size_of, size_of_clause_list}
use Rattle.term_core.specs.Meaning.{Meaning}
use Rattle.core_eval.specs.declared.control.Control.{Control}
use Rattle.core_stack.specs.Matching.{Environment, match_each}
use Rattle.core_semantics.specs.Evaluation.{State, Outcome, Setting, evaluate, choose, guarded, no_clause, taken}
use Rattle.core_stack.specs.Holes.{Hole, scope}
use Rattle.core_eval.specs.Filled.{through}
use Rattle.core_eval.specs.inside.Steps.{going, load, work, GoesOn, Judges}

-- the clauses that are left choose as all of them do, in the same place and for the same values
pub record IsLeft (old new : List Hole) (all left : List ClauseTree) (values : List Meaning) : Type 0 where
  pub stays : new ≡ old
  pub picks : (setting : Setting) (s : State) → choose setting (clauses_of left) values (scope old) s ≡ choose setting (clauses_of all) values (scope old) s
  pub fewer : size_of_clause_list left ≤ size_of_clause_list all

pub none_taken : (r : Result Control AllocError) (old new : List Hole) (all left : List ClauseTree) (values : List Meaning) → IsLeft old new all left values → length left ≡ 0
    → IfOk r (λ next. (setting : Setting) (holes : List Hole) (s : State) → going setting holes next s ≡ through setting holes (no_clause values s)) → IfOk r (λ next. load next ≡ 0)
    → IfOk r (λ next. GoesOn old new next (λ setting s. choose setting (clauses_of all) values (scope old) s) (2 + 4 * size_of_clause_list all))
none_taken (Ok next) old new all [] values h e same less = record {
  same = λ setting s. same setting new s ∙ ap (λ hs. through setting hs (no_clause values s)) h.stays ∙ ap (through setting old) (h.picks setting s);
  less = omega (arith, less, ap work h.stays);
}
none_taken (Ok next) old new all (c ∷ cs) values h e same less = absurd (omega (arith, e))
none_taken (Err e) old new all left values h f same less = tt

-- with what it binds a clause that matches is taken
picked : (o : Option Environment) (bindings env : Environment) (go : Environment → State → Outcome) (others : State → Outcome) (s : State) → o ≡ Some bindings → taken o env go others s ≡ go (bindings ++ env) s
picked o bindings env go others s e = ap (λ (p : Option Environment). taken p env go others s) e

passed_over : (o : Option Environment) (env : Environment) (go : Environment → State → Outcome) (others : State → Outcome) (s : State) → o ≡ None → taken o env go others s ≡ others s
passed_over o env go others s e = ap (λ (p : Option Environment). taken p env go others s) e

pub clause_taken : (r : Result Control AllocError) (old new top : List Hole) (all left others : List ClauseTree) (c : ClauseTree) (values : List Meaning) (bindings : Environment)
    → IsLeft old new all left values → left ≡ c ∷ others → match_each (patterns_of c.patterns) values [] ≡ Some bindings
    → IfOk r (λ next. Judges new top next bindings c others values)
    → IfOk r (λ next. GoesOn old top next (λ setting s. choose setting (clauses_of all) values (scope old) s) (2 + 4 * size_of_clause_list all))
clause_taken (Ok next) old new top all left others c values bindings h el em j = record {
  same = λ setting s.
      let chosen : choose setting (clauses_of left) values (scope old) s ≡ guarded (evaluate setting c.guard (bindings ++ scope old) s) (λ s'. evaluate setting c.body (bindings ++ scope old) s') (λ s'. choose setting (clauses_of others) values (scope old) s') =
      ap (λ (cs : List ClauseTree). choose setting (clauses_of cs) values (scope old) s) el
      ∙ picked (match_each (patterns_of c.patterns) values []) bindings (scope old) _ _ s em in
      j.same setting s
      ∙ ap (λ hs. through setting hs (guarded (evaluate setting c.guard (bindings ++ scope hs) s) (λ s'. evaluate setting c.body (bindings ++ scope hs) s') (λ s'. choose setting (clauses_of others) values (scope hs) s'))) h.stays
      ∙ ap (through setting old) (sym chosen ∙ h.picks setting s);
  less =
      let size : size_of_clause_list left ≡ 1 + (size_of c.guard + (size_of c.body + size_of_clause_list others)) = ap size_of_clause_list el in
      omega (arith, j.less, ap work h.stays, size, h.fewer);
}
clause_taken (Err e) old new top all left others c values bindings h el em j = tt

pub next_left : (old new : List Hole) (all left others : List ClauseTree) (c : ClauseTree) (values : List Meaning) → IsLeft old new all left values → left ≡ c ∷ others → match_each (patterns_of c.patterns) values [] ≡ None → IsLeft old new all others values
next_left old new all left others c values h el em = record {
  stays = h.stays;
  picks = λ setting s. sym (ap (λ (cs : List ClauseTree). choose setting (clauses_of cs) values (scope old) s) el ∙ passed_over (match_each (patterns_of c.patterns) values []) (scope old) _ (λ s'. choose setting (clauses_of others) values (scope old) s') s em) ∙ h.picks setting s;
  fewer = omega (arith, h.fewer, ap size_of_clause_list el);
}
