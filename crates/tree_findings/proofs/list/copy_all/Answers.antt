use Rattle.std.proofs.Common.{map, arith, ap, ◌∙◌}
use Rattle.tree_findings.specs.Found.{finding_in}
use Rattle.tree_findings.proofs.Places.{copied_more}
use Rattle.tree_findings.proofs.list.copy_all.Goals as goal

pub loop-finding-preserved : goal.loop-finding-preserved
loop-finding-preserved c =
    ap (map finding_in) c.in_ok-push.ensures.items ∙ copied_more finding_in c.args.items.now c.loop-finding.copied.items c.loop-finding.finding-index c.finding-item.result c.in_ok-copy.field-0 (omega (arith, c.loop-finding-test.true)) c.finding-item.is c.loop-finding.invariant c.in_ok-copy.ensures
