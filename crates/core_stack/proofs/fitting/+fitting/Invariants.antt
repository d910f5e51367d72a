use Rattle.std.proofs.Common.{◌≡◌, Bool, drop, map}
use Rattle.core_tree.specs.Syntax.{patterns_of}
use Rattle.core_tree.specs.Tree.{pattern_of}
use Rattle.term_core.specs.Meaning.{Meaning}
use Rattle.term_core.specs.Term.{meaning_of}
use Rattle.core_stack.specs.inside.Fitting.{each_fits, items_fit}
use Rattle.core_stack.proofs.fitting.+fitting.Given as goal

-- all match where those that are left do
abbrev pub invariant-parts_fit-parts : goal.invariant-parts_fit-parts
invariant-parts_fit-parts l = each_fits (patterns_of l.patterns) (map meaning_of l.values) ≡ each_fits (patterns_of (map pattern_of (drop l.pattern-index l.pattern-items))) (map meaning_of l.left)

abbrev pub invariant-items_fit-items : goal.invariant-items_fit-items
invariant-items_fit-items l =
    (behind : Meaning → Bool)
    → items_fit (patterns_of l.patterns) behind (meaning_of l.value) ≡ items_fit (patterns_of (map pattern_of (drop l.pattern-index l.pattern-items))) behind (meaning_of l.left)
