-- Clauses of a receive, by whether a message matches their pattern.
use Rattle.std.proofs.Common.{◌≡◌, ◌∙◌, ◌≤◌, Bool, true, false, List, [], ◌∷◌, ◌++◌, ◌||◌, length, refl, ap, sym, arith}
use Rattle.std.specs.Prelude.{Option, Some, None, is_some, codes}
use Rattle.core_tree.specs.Syntax.{ClauseTree, Pattern, Tree, clauses_of, patterns_of}
use Rattle.core_tree.specs.Expression as trees
use Rattle.term_core.specs.Meaning.{Meaning}
use Rattle.core_semantics.specs.Evaluation.{Outcome, Setting, at_rest, evaluate, holds, is_taken, selects}
use Rattle.core_stack.specs.Matching.{Environment, and_then, match, match_each}

then_none : (o : Option Environment) → false ≡ is_some (and_then o (λ so_far. None))
then_none None = refl
then_none (Some before) = refl

then_all : (o : Option Environment) → is_some o ≡ is_some (and_then o (λ so_far. Some so_far))
then_all None = refl
then_all (Some before) = refl

-- one message matches no two patterns
pub two_match_none : (ps : List Pattern) (m : Meaning) → 2 ≤ length ps → false ≡ is_some (match_each (patterns_of ps) (m ∷ []) [])
two_match_none [] m h = absurd (omega (arith, h))
two_match_none (p ∷ []) m h = absurd (omega (arith, h))
two_match_none (p ∷ q ∷ ps) m h = then_none (match p m [])

-- it matches one pattern alone where it matches that
pub one_matches : (p : Pattern) (m : Meaning) → is_some (match p m []) ≡ is_some (match_each (patterns_of (p ∷ [])) (m ∷ []) [])
one_matches p m = then_all (match p m [])

-- a clause that matches is taken where its guard is 'true'
pub true_is_taken : (setting : Setting) (o : Option Environment) (env : Environment) (guard : Tree) → is_some o ≡ true → guard ≡ trees.Atom (codes "true") → true ≡ is_taken o env (λ inner. evaluate setting guard inner at_rest)
true_is_taken setting (Some bindings) env guard is e = ap (λ (g : Tree). holds (evaluate setting g (bindings ++ env) at_rest)) (sym e)
true_is_taken setting None env guard is e = absurd (cc is)

-- and one that does not is not
pub unmatched_is_not : (o : Option Environment) (env : Environment) (guard : Environment → Outcome) → is_some o ≡ false → is_taken o env guard ≡ false
unmatched_is_not None env guard is = refl
unmatched_is_not (Some bindings) env guard is = absurd (cc is)

-- the clauses, of which this one is the first that is left
module _ (setting : Setting) (all left others : List ClauseTree) (d : ClauseTree) (env : Environment) (m : Meaning) (first : left ≡ d ∷ others) (same : selects setting (clauses_of left) env m ≡ selects setting (clauses_of all) env m) (taken : Bool) (is : taken ≡ is_taken (match_each (patterns_of d.patterns) (m ∷ []) []) env (λ inner. evaluate setting d.guard inner at_rest)) where
  whole : (taken || selects setting (clauses_of others) env m) ≡ selects setting (clauses_of all) env m
  whole = ap (λ (b : Bool). b || selects setting (clauses_of others) env m) is ∙ sym (ap (λ (ds : List ClauseTree). selects setting (clauses_of ds) env m) first) ∙ same

  pub clause_selects : taken ≡ true → true ≡ selects setting (clauses_of all) env m
  clause_selects on = sym (ap (λ (b : Bool). b || selects setting (clauses_of others) env m) on) ∙ whole

  pub clause_passes : taken ≡ false → selects setting (clauses_of others) env m ≡ selects setting (clauses_of all) env m
  clause_passes off = sym (ap (λ (b : Bool). b || selects setting (clauses_of others) env m) off) ∙ whole
