use Rattle.std.proofs.Common.{◌-◌, arith}
use Rattle.search_levels.specs.Arrivals.{of_module}
use Rattle.search_levels.proofs.Ending.{complete, stopped_at_end}
use Rattle.tree_findings.specs.declared.outcome.Cause.TheVariants.{Memory}
use Rattle.world_identities.specs.Identities.{flags_in}
use Rattle.search_levels.proofs.search.whole.Goals as goal

pub returns-in-Ok-clause-comes_to : goal.returns-in-Ok-clause-comes_to
returns-in-Ok-clause-comes_to g c = λ known later m a reached.
    complete c.args.bounds.delivery (of_module (g.W.Worlds.agrees known) m) (flags_in c.args.bounds.flags) a c.args.bounds.depth c.args.bounds.states c.args.level.now.rows c.args.findings reached (record { nodes = c.args.bounds.states - c.args.left; cut = c.in-Ok.cut }) (c.in-Ok.ensures.tells known later m) (omega arith)

pub returns-in-Err-clause-comes_to : goal.returns-in-Err-clause-comes_to
returns-in-Err-clause-comes_to g c = λ known later m a reached.
    let flags = flags_in c.args.bounds.flags in
    let depth = c.args.bounds.depth in
    let limit = c.args.bounds.states in
    rw c.stopped.ensures (stopped_at_end c.args.bounds.delivery (of_module (g.W.Worlds.agrees known) m) flags a depth limit c.args.level.now.rows c.args.findings reached Memory)
