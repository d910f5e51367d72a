use Rattle.std.proofs.Common.{sym, ◌∙◌}
use Rattle.report_identities.proofs.IdentityTexts.{one_identity}
use Rattle.report_identities.proofs.laws.texts_say_one_identity.Goals as goal

pub returns : goal.returns
returns c = λ text i other l j e f. one_identity i other l j (sym e ∙ f)
