use Rattle.tree_findings.specs.Found.{finding_in}
use Rattle.tree_findings.proofs.Sorting.{sorted_with}
use Rattle.tree_findings.proofs.list.FindingList.put.Goals as goal

pub invariant_of-self-2 : goal.invariant_of-self-2
invariant_of-self-2 c =
    rw (c.put.ensures.items, c.in_ok-reserve.ensures.items) (sorted_with (finding_in c.args.finding) _ c.self.invariant)
