use Rattle.std.proofs.Common.{rules}
use Rattle.tree_findings.proofs.Schedules.{adds_schedules}
use Rattle.tree_findings.proofs.found.Findings.merge.Goals as goal

pub returns-clause-among : goal.returns-clause-among
returns-clause-among c = adds_schedules c.args.self.now c.args.other _ (search rules)
