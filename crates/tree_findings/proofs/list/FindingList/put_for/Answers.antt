use Rattle.std.proofs.Common.{ap, ◌∙◌}
use Rattle.std.proofs.lemmas.Result.{on_ok_weaker}
use Rattle.tree_coverage.specs.Findings.{Finding, with_finding}
use Rattle.world_identities.specs.Identities.{identity_in}
use Rattle.tree_findings.specs.Merging.{merged}
use Rattle.tree_findings.proofs.Putting.{finding, merged_stays, merged_with}
use Rattle.tree_findings.proofs.list.FindingList.put_for.Goals as goal

pub returns-then-has_lesser-clause-ok : goal.returns-then-has_lesser-clause-ok
returns-then-has_lesser-clause-ok c =
    merged_stays (finding (identity_in c.args.identity.now) c.args.schedule.now) c.args.others.now c.args.self.now (c.has_lesser.ensures.0 c.if-has_lesser.true)

pub returns-clause-ok : goal.returns-clause-ok
returns-clause-ok c =
    let others = c.args.others.now in
    let old = c.args.self.now in
    on_ok_weaker c.put.result (λ is. ap (merged others) (is ∙ ap (λ (f : Finding). with_finding f old) c.in_ok-of.ensures) ∙ merged_with others (finding (identity_in c.args.identity.now) c.args.schedule.now) old) c.put.ensures.ok
