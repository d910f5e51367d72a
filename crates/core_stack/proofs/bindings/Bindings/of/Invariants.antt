use Rattle.std.proofs.Common.{◌≡◌, [], vec_len}
use Rattle.core_stack.specs.Matching.{bound}
use Rattle.core_stack.proofs.Binding.{values_of}
use Rattle.core_stack.proofs.bindings.Bindings.of.Given as goal

-- what is bound so far, with what is left, is what is to be bound
abbrev pub invariant-loop-value : goal.invariant-loop-value
invariant-loop-value l = bound l.left (values_of l.later.items) l.bindings ≡ bound l.fn.variables l.fn.values []

abbrev pub decreases-loop-value : goal.decreases-loop-value
decreases-loop-value l = vec_len l.later
