use Rattle.std.proofs.Common.{map, drop}
use Rattle.core_tree.specs.Syntax.{patterns_of}
use Rattle.core_tree.specs.Tree.{pattern_of}
use Rattle.core_scopes.specs.Scopes.{variables_of_all}
use Rattle.core_scopes.specs.inside.Environment.{shown}
use Rattle.core_scopes.proofs.Binding.{Adding}
use Rattle.core_scopes.proofs.scopes.+patterns.Given as goal

abbrev pub invariant-bind_patterns-patterns : goal.invariant-bind_patterns-patterns
invariant-bind_patterns-patterns l =
    Adding (shown l.fn.names.keys) (variables_of_all (patterns_of (map pattern_of l.pattern-items))) (shown l.names.keys) (variables_of_all (patterns_of (map pattern_of (drop l.pattern-index l.pattern-items))))
