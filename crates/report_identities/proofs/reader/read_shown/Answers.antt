use Rattle.report_identities.proofs.reader.read_shown.Goals as goal

pub returns-in-Some : goal.returns-in-Some
returns-in-Some c = rw c.in-Some.ensures c.read_deadlock.ensures
