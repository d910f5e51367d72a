use Rattle.std.proofs.Common.{◌≡◌, ◌+◌}
use Rattle.core_semantics.specs.Evaluation.{Setting, State, keeping}
use Rattle.core_eval.specs.inside.Steps.{going, load, work}
use Rattle.core_eval.proofs.run.advance.Given as goal

-- what is on top of the stack means what it meant at first
abbrev pub invariant-loop-control : goal.invariant-loop-control
invariant-loop-control l = (setting : Setting) → setting.own ≡ l.own → (s : State) → going setting l.stack l.control (keeping l.dictionary s) ≡ going setting l.fn.stack l.fn.control (keeping l.fn.dictionary s)

abbrev pub decreases-loop-control : goal.decreases-loop-control
decreases-loop-control l = load l.control + work l.stack
