use Rattle.std.proofs.Common.{refl}
use Rattle.std.specs.Fmt.{digits}
use Rattle.report_text.proofs.laws.last_lines_are_so.Goals as goal

pub returns-clause-tree : goal.returns-clause-tree
unfolding digits
returns-clause-tree c = λ x. refl

pub returns-clause-states : goal.returns-clause-states
unfolding digits
returns-clause-states c = λ x. refl

pub returns-clause-errors : goal.returns-clause-errors
unfolding digits
returns-clause-errors c = λ x p. refl

pub returns-clause-prompt : goal.returns-clause-prompt
unfolding digits
returns-clause-prompt c = λ x. refl

pub returns-clause-prompt_errors : goal.returns-clause-prompt_errors
unfolding digits
returns-clause-prompt_errors c = λ x p. refl

pub returns-clause-cut : goal.returns-clause-cut
unfolding digits
returns-clause-cut c = λ x. refl
