use Rattle.std.proofs.Common.{◌≡◌, ◌≤◌, [], arith}
use Rattle.std.proofs.lemmas.Grind.{common_steps}
use Rattle.tree_findings.specs.declared.extent.Extent.{Extent}
use Rattle.search_jobs.specs.Explorations.{exploration_in}
use Rattle.search_pool.proofs.Outcomes.{comes_complete, comes_incomplete, fewer_cuts, within_limit}
use Rattle.search_pool.proofs.frontier.Frontier.outcome.Goals as goal

pub narrowed-nodes-requires : goal.narrowed-nodes-requires
narrowed-nodes-requires c =
    let f = c.self.inside in
    let x : Extent = record { nodes = f.nodes; cut = f.cut } in
    within_limit (exploration_in f.exploration) f.start f.limit f.todo.items f.out.items f.findings x f.taken f.events.items f.stop c.self.invariant c.in_default.is

pub narrowed-cut-requires : goal.narrowed-cut-requires
narrowed-cut-requires c =
    let f = c.self.inside in
    let x : Extent = record { nodes = f.nodes; cut = f.cut } in
    let nodes : f.nodes ≤ f.limit = within_limit (exploration_in f.exploration) f.start f.limit f.todo.items f.out.items f.findings x f.taken f.events.items f.stop c.self.invariant c.in_default.is in
    let cut : f.cut ≤ f.nodes = fewer_cuts (exploration_in f.exploration) f.start f.limit f.todo.items f.out.items f.findings x f.taken f.events.items f.stop c.self.invariant in
    omega (arith, nodes, cut)

pub returns-in-Some-clause-outcome : goal.returns-in-Some-clause-outcome
returns-in-Some-clause-outcome c =
    let f = c.self.inside in
    let x : Extent = record { nodes = f.nodes; cut = f.cut } in
    rw (← c.self.view_is) (comes_incomplete (exploration_in f.exploration) f.start f.limit f.todo.items f.out.items f.findings x f.taken f.events.items f.stop c.in-Some.stop c.self.invariant c.in-Some.is)

pub returns-then-is_empty-2-clause-outcome : goal.returns-then-is_empty-2-clause-outcome
returns-then-is_empty-2-clause-outcome c =
    let f = c.self.inside in
    let x : Extent = record { nodes = f.nodes; cut = f.cut } in
    let todo : f.todo.items ≡ [] = grind (arith, common_steps) in
    let out : f.out.items ≡ [] = grind (arith, common_steps) in
    rw (← c.self.view_is, c.narrowed-nodes.ensures, c.narrowed-cut.ensures) (comes_complete (exploration_in f.exploration) f.start f.limit f.todo.items f.out.items f.findings x f.taken f.events.items f.stop c.self.invariant c.in_default.is todo out)
