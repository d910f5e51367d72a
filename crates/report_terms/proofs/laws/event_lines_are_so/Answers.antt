use Rattle.std.proofs.Common.{refl}
use Rattle.std.specs.Fmt.{digits}
use Rattle.report_terms.proofs.laws.event_lines_are_so.Goals as goal

pub returns-clause-message : goal.returns-clause-message
unfolding digits
returns-clause-message c = refl

pub returns-clause-timeout : goal.returns-clause-timeout
unfolding digits
returns-clause-timeout c = refl

pub returns-clause-refusal : goal.returns-clause-refusal
unfolding digits
returns-clause-refusal c = refl

pub returns-clause-kill : goal.returns-clause-kill
unfolding digits
returns-clause-kill c = refl

pub returns-clause-alias : goal.returns-clause-alias
unfolding digits
returns-clause-alias c = refl

pub returns-clause-timer : goal.returns-clause-timer
unfolding digits
returns-clause-timer c = refl
