use Rattle.std.proofs.Common.{◌≡◌, drop}
use Rattle.core_semantics.specs.Limits.{allowed_by}
use Rattle.core_eval.proofs.allowed.allowed_by.Given as goal

-- no attribute so far says a number
abbrev pub invariant-loop-attribute : goal.invariant-loop-attribute
invariant-loop-attribute l = allowed_by (drop l.attribute-index l.attributes) ≡ allowed_by l.attributes
