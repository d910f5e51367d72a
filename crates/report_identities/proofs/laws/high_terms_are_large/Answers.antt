use Rattle.report_identities.proofs.IdentityTexts.{has_large}
use Rattle.report_identities.proofs.laws.high_terms_are_large.Goals as goal

pub returns : goal.returns
returns c = has_large
