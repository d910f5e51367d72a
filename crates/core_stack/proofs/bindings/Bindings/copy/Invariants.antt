use Rattle.std.proofs.Common.{◌≡◌, ◌++◌, drop, map}
use Rattle.std.specs.Prelude.{reverse}
use Rattle.core_stack.specs.inside.Bindings.{binding_of}
use Rattle.core_stack.proofs.bindings.Bindings.copy.Given as goal

-- the copied variables, with those that are left, are all
abbrev pub invariant-loop-binding : goal.invariant-loop-binding
invariant-loop-binding l = reverse (map binding_of l.copied.items ++ map binding_of (drop l.binding-index l.binding-items)) ≡ l.self
