use Rattle.tree_findings.specs.declared.extent.Extent.{Extent}
use Rattle.search_jobs.specs.Explorations.{exploration_in}
use Rattle.search_pool.proofs.Outcomes.{adds_up}
use Rattle.search_pool.proofs.Sums.{sums_up}
use Rattle.search_pool.specs.Seen.{standing_of}
use Rattle.search_pool.proofs.frontier.Frontier.adds_up.Goals as goal

pub returns-clause-legal : goal.returns-clause-legal
returns-clause-legal c = rw (← c.self.view_is) c.self.invariant.legal

pub returns-clause-nodes : goal.returns-clause-nodes
returns-clause-nodes c =
    let f = c.self.inside in
    let x : Extent = record { nodes = f.nodes; cut = f.cut } in
    rw (← c.self.view_is) (adds_up (exploration_in f.exploration) f.start f.limit f.todo.items f.out.items f.findings x f.taken f.events.items f.stop c.self.invariant)

pub returns-clause-sums : goal.returns-clause-sums
returns-clause-sums c =
    let f = c.self.inside in
    let x : Extent = record { nodes = f.nodes; cut = f.cut } in
    let e = exploration_in f.exploration in
    let s = standing_of f.todo.items f.out.items f.findings x f.taken f.stop in
    rw (← c.self.view_is) (sums_up e f.start f.limit s (adds_up e f.start f.limit f.todo.items f.out.items f.findings x f.taken f.events.items f.stop c.self.invariant))
