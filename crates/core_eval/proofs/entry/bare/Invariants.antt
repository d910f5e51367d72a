use Rattle.std.proofs.Common.{◌≡◌, length}
use Rattle.core_semantics.specs.Evaluation.{Setting, Outcome}
use Rattle.core_eval.specs.Filled.{through}
use Rattle.core_eval.proofs.entry.bare.Given as goal

-- the stack means what it meant at first
abbrev pub invariant-kept : goal.invariant-kept
invariant-kept l = (setting : Setting) (got : Outcome) → through setting l.stack got ≡ through setting l.fn.stack got

abbrev pub decreases-kept : goal.decreases-kept
decreases-kept l = length l.stack
