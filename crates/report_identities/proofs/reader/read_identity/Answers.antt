use Rattle.world_identities.specs.Identities.{identity_in}
use Rattle.report_identities.proofs.IdentityTexts.{reads_no_bad, reads_ok, reads_only}
use Rattle.report_identities.proofs.reader.read_identity.Goals as goal

pub returns-clause-ok : goal.returns-clause-ok
returns-clause-ok c = reads_ok identity_in c.args.text.now c.read_shown.result c.read_shown.ensures

pub returns-clause-only : goal.returns-clause-only
returns-clause-only c = reads_only identity_in c.args.text.now c.read_shown.result c.read_shown.ensures

pub returns-clause-bad : goal.returns-clause-bad
returns-clause-bad c = reads_no_bad identity_in c.args.text.now c.read_shown.result c.read_shown.ensures
