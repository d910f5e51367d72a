use Rattle.std.proofs.Common.{◌≡◌, ◌+◌, ◌++◌, List, [], ◌∷◌, map, drop, sym, ap, subst, ◌∙◌, arith, Ok, Err}
use Rattle.std.proofs.lemmas.Result.{err_from_is_err_and}
use Rattle.core_tree.specs.Syntax.{Mention, Pattern, patterns_of}
use Rattle.core_tree.specs.Tree.{pattern_of}
use Rattle.core_tree.specs.declared.pattern.Pattern.{Pattern as Shape}
use Rattle.core_scopes.specs.Scopes.{variables_of, variables_of_all}
use Rattle.core_scopes.specs.inside.Environment.{shown, AddsUnlessMemory}
use Rattle.core_scopes.proofs.Binding.{Adding, leaf_adds, adds_both, adds_fails, adding_next, adding_fails, adding_done}
use Rattle.core_scopes.proofs.ScopeLoops.{drop_item, drop_all}
use Rattle.core_scopes.proofs.scopes.+patterns.Goals as goal

pub bind_pattern-returns-in-Integer : goal.bind_pattern-returns-in-Integer
bind_pattern-returns-in-Integer t c = leaf_adds c.args.pattern.now (shown c.args.names.now.keys) c.in-Integer.is

pub bind_pattern-returns-in-Integer-2 : goal.bind_pattern-returns-in-Integer-2
bind_pattern-returns-in-Integer-2 t c = leaf_adds c.args.pattern.now (shown c.args.names.now.keys) c.in-Integer.is

pub bind_pattern-returns-in-Integer-3 : goal.bind_pattern-returns-in-Integer-3
bind_pattern-returns-in-Integer-3 t c = leaf_adds c.args.pattern.now (shown c.args.names.now.keys) c.in-Integer.is

pub bind_pattern-returns-in-Integer-4 : goal.bind_pattern-returns-in-Integer-4
bind_pattern-returns-in-Integer-4 t c = leaf_adds c.args.pattern.now (shown c.args.names.now.keys) c.in-Integer.is

pub bind_onto-returns-in_err-bind_patterns : goal.bind_onto-returns-in_err-bind_patterns
bind_onto-returns-in_err-bind_patterns t c =
    let p = err_from_is_err_and c.from_residual.result c.from_residual.ensures.1 in
    rw (p.1, p.2, sym c.onto.view_is) (adds_fails _ _ _ (shown c.args.names.now.keys) c.in_err-bind_patterns.ensures)

pub bind_onto-returns : goal.bind_onto-returns
bind_onto-returns t c =
    subst (λ (v : List Pattern × Pattern). AddsUnlessMemory (variables_of_all (patterns_of v.0) ++ variables_of v.1) c.bind_pattern.result (shown c.args.names.now.keys) (shown c.bind_pattern.new.names.keys)) c.onto.view_is
    (adds_both _ _ _ (shown c.args.names.now.keys) _ _ c.in_ok-bind_patterns.ensures c.bind_pattern.ensures)

pub bind_alias-returns-in_err-bind : goal.bind_alias-returns-in_err-bind
bind_alias-returns-in_err-bind t c =
    let p = err_from_is_err_and c.from_residual.result c.from_residual.ensures.1 in
    rw (p.1, p.2, sym c.alias.view_is) (adds_fails (_ ∷ []) _ _ (shown c.args.names.now.keys) c.in_err-bind.ensures)

pub bind_alias-returns : goal.bind_alias-returns
bind_alias-returns t c =
    subst (λ (v : Mention × Pattern). AddsUnlessMemory (v.0 ∷ variables_of v.1) c.bind_pattern.result (shown c.args.names.now.keys) (shown c.bind_pattern.new.names.keys)) c.alias.view_is
    (adds_both (_ ∷ []) _ _ (shown c.args.names.now.keys) _ _ c.in_ok-bind.ensures c.bind_pattern.ensures)

pub bind_patterns-returns-in_err-bind_pattern : goal.bind_patterns-returns-in_err-bind_pattern
bind_patterns-returns-in_err-bind_pattern t c =
    let p = err_from_is_err_and c.from_residual.result c.from_residual.ensures.1 in
    let ps = c.deref-pattern-items.result.now in
    let old = shown c.args.names.now.keys in
    let so_far : Adding old (variables_of_all (patterns_of (map pattern_of ps))) (shown c.patterns.names.keys) (variables_of (pattern_of c.pattern-item.result) ++ variables_of_all (patterns_of (map pattern_of (drop (c.patterns.pattern-index + 1) ps)))) =
    subst (λ (qs : List Shape). Adding old (variables_of_all (patterns_of (map pattern_of ps))) (shown c.patterns.names.keys) (variables_of_all (patterns_of (map pattern_of qs)))) (drop_item ps c.patterns.pattern-index c.pattern-item.result (omega arith) c.pattern-item.is) c.patterns.invariant in
    let all : map pattern_of ps ≡ c.args.patterns.now = ap (map pattern_of) c.deref-pattern-items.ensures.value ∙ c.patterns-2.view_is in
    rw (p.1, p.2) (subst (λ (qs : List Pattern). AddsUnlessMemory (variables_of_all (patterns_of qs)) (Err c.in_err-bind_pattern.field-0.0) old (shown c.bind_pattern.new.names.keys)) all
    (adding_fails old _ (variables_of (pattern_of c.pattern-item.result)) _ _ _ so_far c.in_err-bind_pattern.ensures))

pub bind_patterns-patterns-preserved : goal.bind_patterns-patterns-preserved
bind_patterns-patterns-preserved t c =
    let ps = c.deref-pattern-items.result.now in
    let old = shown c.args.names.now.keys in
    let so_far : Adding old (variables_of_all (patterns_of (map pattern_of ps))) (shown c.patterns.names.keys) (variables_of (pattern_of c.pattern-item.result) ++ variables_of_all (patterns_of (map pattern_of (drop (c.patterns.pattern-index + 1) ps)))) =
    subst (λ (qs : List Shape). Adding old (variables_of_all (patterns_of (map pattern_of ps))) (shown c.patterns.names.keys) (variables_of_all (patterns_of (map pattern_of qs)))) (drop_item ps c.patterns.pattern-index c.pattern-item.result (omega arith) c.pattern-item.is) c.patterns.invariant in
    adding_next old _ (variables_of (pattern_of c.pattern-item.result)) _ _ _ so_far c.in_ok-bind_pattern.ensures

pub bind_patterns-returns : goal.bind_patterns-returns
bind_patterns-returns t c =
    let ps = c.deref-pattern-items.result.now in
    let old = shown c.args.names.now.keys in
    let all : map pattern_of ps ≡ c.args.patterns.now = ap (map pattern_of) c.deref-pattern-items.ensures.value ∙ c.patterns-2.view_is in
    let done : Adding old (variables_of_all (patterns_of (map pattern_of ps))) (shown c.patterns.names.keys) [] =
    subst (λ (qs : List Shape). Adding old (variables_of_all (patterns_of (map pattern_of ps))) (shown c.patterns.names.keys) (variables_of_all (patterns_of (map pattern_of qs)))) (drop_all ps c.patterns.pattern-index (omega arith)) c.patterns.invariant in
    subst (λ (qs : List Pattern). AddsUnlessMemory (variables_of_all (patterns_of qs)) (Ok tt) old (shown c.patterns.names.keys)) all (adding_done old _ _ done)
