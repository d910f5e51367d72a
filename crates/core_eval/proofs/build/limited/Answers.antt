use Rattle.std.proofs.Common.{arith}
use Rattle.core_semantics.specs.Evaluation.{limited}
use Rattle.term_core.specs.Term.{meaning_of}
use Rattle.core_eval.proofs.Errors.{same_error, limited-over}
use Rattle.core_eval.proofs.build.limited.Goals as goal

pub returns-clause-same : goal.returns-clause-same
returns-clause-same c = same_error _ _ (λ s. limited (meaning_of c.args.term) s) c.error.ensures.same (λ s. limited-over (meaning_of c.args.term) s (omega arith))
