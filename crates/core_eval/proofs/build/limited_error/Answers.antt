use Rattle.std.proofs.Common.{arith}
use Rattle.core_semantics.specs.Evaluation.{limited_error}
use Rattle.term_core.specs.Term.{meaning_of}
use Rattle.core_eval.proofs.Errors.{same_error, limited_error-over}
use Rattle.core_eval.proofs.build.limited_error.Goals as goal

pub returns-clause-same : goal.returns-clause-same
returns-clause-same c = same_error _ _ (λ s. limited_error (meaning_of c.args.reason) s) c.error.ensures.same (λ s. limited_error-over (meaning_of c.args.reason) s (omega arith))
