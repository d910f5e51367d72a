use Rattle.std.proofs.Common.{refl}
use Rattle.std.specs.Fmt.{digits}
use Rattle.report_terms.proofs.laws.strings_are_so.Goals as goal

pub returns-clause-both : goal.returns-clause-both
unfolding digits
returns-clause-both c = refl

pub returns-clause-others : goal.returns-clause-others
unfolding digits
returns-clause-others c = refl

pub returns-clause-atom : goal.returns-clause-atom
unfolding digits
returns-clause-atom c = refl

pub returns-clause-terms : goal.returns-clause-terms
unfolding digits
returns-clause-terms c = refl

pub returns-clause-steps : goal.returns-clause-steps
unfolding digits
returns-clause-steps c = refl

pub returns-clause-no_step : goal.returns-clause-no_step
unfolding digits
returns-clause-no_step c = refl
