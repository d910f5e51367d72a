use Rattle.report_identities.proofs.reader.read_others.Goals as goal

pub returns-in-Some : goal.returns-in-Some
returns-in-Some c = rw c.in-Some.ensures c.read_unread.ensures
