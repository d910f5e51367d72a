use Rattle.std.proofs.Common.{◌∷◌, [], ◌∙◌}
use Rattle.std.specs.Prelude.{codes}
use Rattle.term_core.specs.Meaning.{Tuple, meanings_of}
use Rattle.core_semantics.specs.Evaluation.{as_one, name}
use Rattle.core_eval.proofs.Errors.{same_limited_error}
use Rattle.core_eval.proofs.leave.no_clause.Goals as goal

pub returns-clause-same : goal.returns-clause-same
returns-clause-same c =
    same_limited_error _ _ (Tuple (meanings_of (name (codes "case_clause") ∷ as_one c.args.values ∷ [])))
    (c.in_ok-reason.ensures ∙ (λ i. Tuple (meanings_of (c.word.ensures i ∷ c.in_ok-whole.ensures i ∷ []))))
    c.limited_error.ensures.same
