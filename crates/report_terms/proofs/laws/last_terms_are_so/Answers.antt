use Rattle.std.proofs.Common.{refl}
use Rattle.std.specs.Fmt.{digits}
use Rattle.report_terms.proofs.laws.last_terms_are_so.Goals as goal

pub returns-clause-nothing : goal.returns-clause-nothing
unfolding digits
returns-clause-nothing c = λ x. refl

pub returns-clause-runaway : goal.returns-clause-runaway
unfolding digits
returns-clause-runaway c = λ x p. refl

pub returns-clause-clean : goal.returns-clause-clean
unfolding digits
returns-clause-clean c = λ x. refl

pub returns-clause-errors : goal.returns-clause-errors
unfolding digits
returns-clause-errors c = λ x p. refl

pub returns-clause-clean_to_depth : goal.returns-clause-clean_to_depth
unfolding digits
returns-clause-clean_to_depth c = λ x. refl

pub returns-clause-errors_to_depth : goal.returns-clause-errors_to_depth
unfolding digits
returns-clause-errors_to_depth c = λ x p. refl

pub returns-clause-incomplete : goal.returns-clause-incomplete
unfolding digits
returns-clause-incomplete c = λ x cause findings. refl

pub returns-clause-nothing_found : goal.returns-clause-nothing_found
unfolding digits
returns-clause-nothing_found c = λ x. refl

pub returns-clause-errors_found : goal.returns-clause-errors_found
unfolding digits
returns-clause-errors_found c = λ x p. refl
