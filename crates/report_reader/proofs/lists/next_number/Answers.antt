use Rattle.std.proofs.Common.{ap, length, arith}
use Rattle.std.proofs.lemmas.List.{length-map}
use Rattle.tree_findings.specs.Found.{finding_in}
use Rattle.report_reader.proofs.lists.next_number.Goals as goal

pub returns-clause-number : goal.returns-clause-number
returns-clause-number c = omega (arith, ap length c.as_slice.ensures.all, length-map c.as_slice.result.now finding_in)

pub returns-clause-room : goal.returns-clause-room
returns-clause-room c = omega (arith, ap length c.as_slice.ensures.all, length-map c.as_slice.result.now finding_in)
