use Rattle.std.proofs.Common.{refl}
use Rattle.std.specs.Fmt.{digits}
use Rattle.report_text.proofs.laws.sample_lines_are_so.Goals as goal

pub returns-clause-first : goal.returns-clause-first
unfolding digits
returns-clause-first c = refl

pub returns-clause-nothing : goal.returns-clause-nothing
unfolding digits
returns-clause-nothing c = λ x. refl

pub returns-clause-errors : goal.returns-clause-errors
unfolding digits
returns-clause-errors c = λ x p. refl

pub returns-clause-excused : goal.returns-clause-excused
unfolding digits
returns-clause-excused c = λ normal. refl

pub returns-clause-report : goal.returns-clause-report
unfolding digits
returns-clause-report c = λ normal. refl

pub returns-clause-unread : goal.returns-clause-unread
unfolding digits
returns-clause-unread c = λ normal. refl
