use Rattle.std.proofs.Common.{◌≡◌, length}
use Rattle.core_tree.specs.Syntax.{ModuleTree, clauses_of}
use Rattle.term_core.specs.Term.{meaning_of}
use Rattle.core_semantics.specs.Applications.{setting_of}
use Rattle.core_semantics.specs.Evaluation.{selects}
use Rattle.core_stack.specs.Holes.{scope}
use Rattle.core_eval.proofs.selection.selects.Given as goal

-- no clause before those that are left takes the message
abbrev pub invariant-loop-clause : goal.invariant-loop-clause
invariant-loop-clause l = (m : ModuleTree) → selects (setting_of m l.own) (clauses_of l.left) (scope l.stack) (meaning_of l.message) ≡ selects (setting_of m l.own) (clauses_of l.clauses) (scope l.stack) (meaning_of l.message)

abbrev pub decreases-loop-clause : goal.decreases-loop-clause
decreases-loop-clause l = length l.left
