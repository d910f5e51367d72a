use Rattle.std.proofs.Common.{◌≡◌, Option, drop, length, map}
use Rattle.core_tree.specs.Syntax.{patterns_of}
use Rattle.core_tree.specs.Tree.{pattern_of}
use Rattle.term_core.specs.Meaning.{Meaning}
use Rattle.term_core.specs.Term.{meaning_of}
use Rattle.core_stack.specs.Matching.{Environment, match_each, match_items}
use Rattle.core_stack.proofs.matching.+matching.Given as goal

-- what is left to match, on top of what is bound so far, is what was to match
abbrev pub invariant-matches_each-loop-i : goal.invariant-matches_each-loop-i
invariant-matches_each-loop-i l = (map meaning_of l.items ≡ l.values) × ((length l.patterns-inside.0.items ≡ length l.items) × (match_each (patterns_of (drop l.i l.patterns)) (drop l.i l.values) l.bindings ≡ match_each (patterns_of l.patterns) l.values l.fn.bindings))

abbrev pub invariant-matches_items-items : goal.invariant-matches_items-items
invariant-matches_items-items l =
    (behind : Meaning → Environment → Option Environment)
    → match_items (patterns_of l.patterns) behind (meaning_of l.value) l.fn.bindings ≡ match_items (patterns_of (map pattern_of (drop l.pattern-index l.pattern-items))) behind (meaning_of l.left) l.bindings
