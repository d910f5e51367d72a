use Rattle.std.proofs.Common.{List, length, ap, sym, ◌∙◌, arith}
use Rattle.core_tree.specs.Tree.{pattern_of}
use Rattle.std.proofs.lemmas.List.{length-map}
use Rattle.term_core.specs.Meaning.{Meaning, Tuple, meanings_of}
use Rattle.term_core.specs.Term.{meaning_of}
use Rattle.core_stack.proofs.Matches.{group_matches, other_count, each_fails, each_goes_on}
use Rattle.core_stack.proofs.matching.+matching.Goals as goal

pub matches-returns-in-Tuple-value : goal.matches-returns-in-Tuple-value
matches-returns-in-Tuple-value t c =
    group_matches c.matches_each.result c.matches_each.new.bindings (pattern_of c.args.pattern.now) c.in-Tuple.parts (meaning_of c.args.value.now) c.deref-in-Tuple-value.result.now c.args.bindings.now
    (ap pattern_of c.in-Tuple.is) (ap meaning_of c.in-Tuple-value.is ∙ sym (ap (λ (ms : List Meaning). Tuple (meanings_of ms)) c.deref-in-Tuple-value.ensures)) c.matches_each.ensures

pub matches_each-returns-then-len-items : goal.matches_each-returns-then-len-items
matches_each-returns-then-len-items t c =
    other_count c.args.patterns.now c.args.values.now c.args.bindings.now
    (λ same. omega (arith, length-map c.patterns.inside.0.items pattern_of, ap length c.patterns.view_is, same, ap length c.as_slice-items.ensures, length-map c.as_slice-items.result.now meaning_of))

pub matches_each-returns-then-not-branch : goal.matches_each-returns-then-not-branch
matches_each-returns-then-not-branch t c =
    each_fails c.patterns.inside.0.items c.as_slice-items.result.now _ _ c.patterns.view_is c.as_slice-items.ensures c.loop-i.i c.index.result.now c.index-items-i.result (omega arith) c.loop-i.invariant.1.0 c.index.ensures c.index-items-i.is
    c.in_ok-matches.field-0 c.loop-i.bindings c.matches.new.bindings _ c.in_ok-matches.ensures c.if-not-branch.true c.loop-i.invariant.1.1

pub matches_each-loop-i-preserved : goal.matches_each-loop-i-preserved
matches_each-loop-i-preserved t c = (
  c.as_slice-items.ensures,
  (
    c.loop-i.invariant.1.0,
    each_goes_on c.patterns.inside.0.items c.as_slice-items.result.now _ _ c.patterns.view_is c.as_slice-items.ensures c.loop-i.i c.index.result.now c.index-items-i.result (omega arith) c.loop-i.invariant.1.0 c.index.ensures c.index-items-i.is
        c.in_ok-matches.field-0 c.loop-i.bindings c.matches.new.bindings _ c.in_ok-matches.ensures c.if-not-branch.false c.loop-i.invariant.1.1,
  ),
)
